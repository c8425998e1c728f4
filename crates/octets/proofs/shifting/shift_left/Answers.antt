-- `octets::shifting::shift_left` meets its contract. The invariant: the first i bytes are moved. Assumes nothing.
use mathlib.Core.Path.{refl, sym}
use Prim.Native.Nat.{◌+◌, ◌-◌}
use native.Mathlib.Omega.{arith}
use Rattle.octets.proofs.Paste.{pasted_nil}
use Rattle.octets.proofs.Shifts.{shifted_left}
use Rattle.octets.proofs.shifting.shift_left.Goals as goal

pub loop-i-init : goal.loop-i-init
loop-i-init c = (omega arith, sym (pasted_nil c.args.to c.args.s.now), refl)

pub loop-i-preserved : goal.loop-i-preserved
loop-i-preserved c =
    let args = c.args in
    let i = c.loop-i.i in (
      omega arith,
      shifted_left args.from args.to i 32 (i + 32) args.s.now c.loop-i.s _ refl (omega arith) (omega arith) c.loop-i.invariant.1 c.shift_part.ensures,
      omega arith,
    )

pub returns : goal.returns
returns c =
    let args = c.args in
    let i = c.loop-i.i in
    shifted_left args.from args.to i (args.n - i) args.n args.s.now c.loop-i.s _ (omega arith) (omega arith) (omega arith) c.loop-i.invariant.1 c.shift_part-2.ensures
