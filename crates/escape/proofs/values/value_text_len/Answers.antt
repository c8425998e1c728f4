-- `escape::values::value_text_len` meets its contract: the lengths of the three parts. Assumes nothing.
use Prim.Native.Nat.{◌+◌, ◌-◌}
use mathlib.Core.Path.{◌≡◌, sym, ◌∙◌}
use native.Mathlib.Omega.{arith}
use lib.ListN.{length, take, drop, length-take}
use lib.Seq.{length-take-le}
use Rattle.format.specs.Escaping.{escape, value_text}
use Rattle.format.proofs.Escaping.ValueText.{value_length_lem}
use Rattle.escape.specs.Values.{lost_text, Cuts}
use Rattle.escape.proofs.ValueParts.{same_cuts, cut-lengths, ascii_cuts}
use Rattle.escape.proofs.values.value_text_len.Goals as goal
use Rattle.escape.proofs.values.value_text_len.Goals.{Joined-not-ascii_ends, then-not-ascii_ends, else-not-ascii_ends}

-- where the ends are cut off, on either way
joined : (c : Joined-not-ascii_ends) → Cuts c.args.v.now c.if-not-ascii_ends.front c.if-not-ascii_ends.end
joined c =
    let value = c.args.v.now in
    elim c.if-not-ascii_ends.branch [
      | then-not-ascii_ends w ↦ same_cuts value w.front-is w.end-is w.cut-ends.ensures
      | else-not-ascii_ends w ↦ same_cuts value w.front-is w.end-is (ascii_cuts value (sym c.ascii_ends.ensures ∙ w.if-not-ascii_ends.false))
    ]

pub slice_bounds-lost_len-end : goal.slice_bounds-lost_len-end
slice_bounds-lost_len-end c =
    let value = c.args.v.now in
    let cuts = joined (goal.at.slice_bounds-lost_len-end c).Joined-not-ascii_ends in
    sym (length-take-le c.if-not-ascii_ends.front value (omega (arith, cuts.ordered, cuts.inside)))

pub slice_bounds-escaped_len-count : goal.slice_bounds-escaped_len-count
slice_bounds-escaped_len-count c =
    let cuts = joined (goal.at.slice_bounds-escaped_len-count c).Joined-not-ascii_ends in
    omega (arith, cuts.ordered)

pub slice_bounds-escaped_len-start : goal.slice_bounds-escaped_len-start
slice_bounds-escaped_len-start c =
    let cuts = joined (goal.at.slice_bounds-escaped_len-start c).Joined-not-ascii_ends in
    omega (arith, cuts.ordered, cuts.inside)

pub slice_bounds-escaped_len-end : goal.slice_bounds-escaped_len-end
slice_bounds-escaped_len-end c =
    let cuts = joined (goal.at.slice_bounds-escaped_len-end c).Joined-not-ascii_ends in
    omega (arith, cuts.ordered, cuts.inside)

pub slice_bounds-lost_len-count : goal.slice_bounds-lost_len-count
slice_bounds-lost_len-count c =
    let cuts = joined (goal.at.slice_bounds-lost_len-count c).Joined-not-ascii_ends in
    omega (arith, cuts.inside)

pub slice_bounds-lost_len-start : goal.slice_bounds-lost_len-start
slice_bounds-lost_len-start c =
    let cuts = joined (goal.at.slice_bounds-lost_len-start c).Joined-not-ascii_ends in
    omega (arith, cuts.inside)

pub escaped_len-requires : goal.escaped_len-requires
escaped_len-requires c =
    let value = c.args.v.now in
    let cuts = joined (goal.at.escaped_len-requires c).Joined-not-ascii_ends in
    omega (arith, cuts.inside, length-take (c.if-not-ascii_ends.end - c.if-not-ascii_ends.front) (drop c.if-not-ascii_ends.front value))

pub overflow_add-result : goal.overflow_add-result
overflow_add-result c =
    let value = c.args.v.now in
    let cuts = joined (goal.at.overflow_add-result c).Joined-not-ascii_ends in
    let lengths : length (value_text value)
    ≡ length (lost_text (take c.if-not-ascii_ends.front value))
    + (length (escape (take (c.if-not-ascii_ends.end - c.if-not-ascii_ends.front) (drop c.if-not-ascii_ends.front value)))
    + length (lost_text (take (length value - c.if-not-ascii_ends.end) (drop c.if-not-ascii_ends.end value)))) = cut-lengths cuts in
    omega (arith, lengths, value_length_lem value, c.lost_len.ensures, c.escaped_len.ensures)

pub overflow_add-result-2 : goal.overflow_add-result-2
overflow_add-result-2 c =
    let value = c.args.v.now in
    let cuts = joined (goal.at.overflow_add-result-2 c).Joined-not-ascii_ends in
    let lengths : length (value_text value)
    ≡ length (lost_text (take c.if-not-ascii_ends.front value))
    + (length (escape (take (c.if-not-ascii_ends.end - c.if-not-ascii_ends.front) (drop c.if-not-ascii_ends.front value)))
    + length (lost_text (take (length value - c.if-not-ascii_ends.end) (drop c.if-not-ascii_ends.end value)))) = cut-lengths cuts in
    omega (
      arith,
      lengths,
      value_length_lem value,
      c.lost_len.ensures,
      c.escaped_len.ensures,
      c.lost_len-2.ensures,
    )

pub returns : goal.returns
returns c =
    let value = c.args.v.now in
    let cuts = joined (goal.at.returns c).Joined-not-ascii_ends in
    let lengths : length (value_text value)
    ≡ length (lost_text (take c.if-not-ascii_ends.front value))
    + (length (escape (take (c.if-not-ascii_ends.end - c.if-not-ascii_ends.front) (drop c.if-not-ascii_ends.front value)))
    + length (lost_text (take (length value - c.if-not-ascii_ends.end) (drop c.if-not-ascii_ends.end value)))) = cut-lengths cuts in
    omega (
      arith,
      lengths,
      c.lost_len.ensures,
      c.escaped_len.ensures,
      c.lost_len-2.ensures,
    )
