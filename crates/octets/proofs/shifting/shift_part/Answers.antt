-- `octets::shifting::shift_part` meets its contract: the front of the local array is the part that was read. Assumes nothing.
use Prim.Native.Nat.{◌+◌, ◌-◌}
use native.Mathlib.Omega.{arith}
use lib.ListN.{length-take}
use borrow.Author.Rules.{rules}
use Rattle.octets.proofs.Shifts.{shifted_part}
use Rattle.octets.proofs.shifting.shift_part.Goals as goal

pub slice_bounds-part-end : goal.slice_bounds-part-end
slice_bounds-part-end c = search rules

pub slice_bounds-copy_at-end-3 : goal.slice_bounds-copy_at-end-3
slice_bounds-copy_at-end-3 c = simp length-take (omega arith)

pub copy_at-requires-2 : goal.copy_at-requires-2
copy_at-requires-2 c = simp length-take (omega arith)

pub returns : goal.returns
returns c =
    let args = c.args in
    shifted_part
    args.from
    args.to
    args.n
    (args.from + args.n - args.from)
    args.s.now
    _
    _
    _
    (omega arith)
    (omega arith)
    c.copy_at.ensures
    c.copy_at-2.ensures
