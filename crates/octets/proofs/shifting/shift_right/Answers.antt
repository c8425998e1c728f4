-- `octets::shifting::shift_right` meets its contract. The invariant: the bytes from i on are moved. Assumes nothing.
use mathlib.Core.Path.{refl}
use Prim.Native.Nat.{◌+◌, ◌-◌}
use native.Mathlib.Omega.{arith}
use Rattle.octets.proofs.Shifts.{shifted_right, shifted_none}
use Rattle.octets.proofs.shifting.shift_right.Goals as goal

pub loop-i-init : goal.loop-i-init
loop-i-init c =
    let args = c.args in
    (omega arith, shifted_none args.from args.to args.n args.s.now, refl)

pub loop-i-preserved : goal.loop-i-preserved
loop-i-preserved c =
    let args = c.args in
    let i = c.loop-i.i in (
      omega arith,
      shifted_right args.from args.to args.n (i - 32) 32 i (args.from + (i - 32)) (args.to + (i - 32)) args.s.now c.loop-i.s _ (omega arith) (omega arith) (omega arith) (omega arith) refl refl c.loop-i.invariant.1 c.shift_part.ensures,
      omega arith,
    )

pub returns : goal.returns
returns c =
    let args = c.args in
    let i = c.loop-i.i in
    shifted_right args.from args.to args.n 0 i i args.from args.to args.s.now c.loop-i.s _ (omega arith) (omega arith) (omega arith) (omega arith) (omega arith) (omega arith) c.loop-i.invariant.1 c.shift_part-2.ensures
