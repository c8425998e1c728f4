-- `unescape::coding::put_code` meets its contract: a store leaves the length as it is. Assumes nothing.
use mathlib.Core.Path.{ap}
use native.Mathlib.Omega.{arith}
use lib.ListN.{length, length-set}
use Rattle.format.proofs.Characters.Scalars.{encoding_two, encoding_three}
use Rattle.unescape.proofs.coding.put_code.Goals as goal

pub bounds-out-at-in-128-to-2047-2 : goal.bounds-out-at-in-128-to-2047-2
bounds-out-at-in-128-to-2047-2 c = simp length-set (omega (arith, ap length (encoding_two c.args.n (omega arith) (omega arith))))

pub bounds-out-at-in_default-2 : goal.bounds-out-at-in_default-2
bounds-out-at-in_default-2 c = simp length-set (omega (arith, ap length (encoding_three c.args.n (omega arith) (omega arith))))

pub bounds-out-at-in_default-3 : goal.bounds-out-at-in_default-3
bounds-out-at-in_default-3 c = simp length-set (omega (arith, ap length (encoding_three c.args.n (omega arith) (omega arith))))
