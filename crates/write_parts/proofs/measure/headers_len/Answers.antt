-- `write_parts::measure::headers_len` meets its contract. The invariant: the length counted and that of the lines left make the whole. Assumes nothing.
use mathlib.Core.Path.{◌≡◌, ap, ◌∙◌}
use mathlib.Core.List.{List}
use Prim.Native.Nat.{◌+◌}
use native.Mathlib.Omega.{arith}
use lib.ListN.{length, drop, length-append}
use Rattle.format.specs.Bytes.{texts}
use Rattle.format.specs.Writing.{header_line, ended}
use Rattle.store_entries.specs.Stored.{Stored, size_in, stored_in}
use Rattle.store_entry_check.specs.FromBytes.{header_from, headers_from}
use Rattle.write_parts.proofs.StoreWalk.{left, left_start, left_end, left_next, passing_shaped, passing_numbers, passing_size}
use Rattle.write_parts.proofs.Headed.{headed_start, headed_fits, headed_tail, headed_on}
use Rattle.write_parts.proofs.measure.headers_len.Invariants.{lines}
use Rattle.write_parts.proofs.measure.headers_len.Goals as goal

pub loop-init : goal.loop-init
unfolding headers_from
loop-init c =
    let s = c.args.s.now in
    let count = c.args.count in
    (headed_start s count c.requires.0, omega (arith, ap (λ (es : List Stored). length (lines es)) (left_start s count)), omega arith)

pub header_len-n-requires : goal.header_len-n-requires
header_len-n-requires c =
    let l = c.loop in
    let args = c.args in
    let s = args.s.now in
    let w = l.invariant.0 in (
      passing_shaped s args.count l.at l.counter w.passing (omega arith),
      headed_fits s args.count l.at l.counter w (omega arith),
      headed_tail s args.count l.at l.counter w (omega arith),
    )

pub overflow_add-n : goal.overflow_add-n
overflow_add-n c =
    omega (arith, c.loop.invariant.2, c.requires.1, c.header_len-n.ensures.1)

pub entry_len-at-requires : goal.entry_len-at-requires
entry_len-at-requires c =
    let l = c.loop in
    let args = c.args in
    passing_numbers args.s.now args.count l.at l.counter l.invariant.0.passing (omega arith)

pub overflow_add-at : goal.overflow_add-at
overflow_add-at c =
    let l = c.loop in
    let args = c.args in
    omega (arith, passing_size args.s.now args.count l.at l.counter l.invariant.0.passing (omega arith), c.entry_len-at.ensures.0)

pub loop-preserved : goal.loop-preserved
unfolding texts
loop-preserved c =
    let l = c.loop in
    let args = c.args in
    let s = args.s.now in
    let one = c.header_len-n.ensures in
    let line = ended (header_line (header_from (stored_in (drop l.at s)))) in
    let rest = lines (left s args.count (l.at + size_in (drop l.at s)) (l.counter + 1)) in
    let next : length (lines (left s args.count l.at l.counter)) ≡ length line + length rest =
    ap (λ (es : List Stored). length (lines es)) (left_next s args.count l.at l.counter (omega arith)) ∙ length-append line rest in
    rw c.entry_len-at.ensures.0 (
      headed_on s args.count l.at l.counter l.invariant.0 (omega arith),
      omega (arith, l.invariant.1, next, one.0),
      omega (arith, l.invariant.2, one.1),
    )

pub returns : goal.returns
unfolding texts
returns c =
    let l = c.loop in
    let args = c.args in
    let none = ap (λ (es : List Stored). length (lines es)) (left_end args.s.now args.count l.at l.counter (omega arith)) in
    (omega (arith, l.invariant.1, none), omega (arith, l.invariant.2, l.invariant.0.passing.within, c.requires.1))
