-- `escape::values::put_value_text` meets its contract: the three parts, one behind another. Assumes nothing.
use Prim.Native.Nat.{ℕ, ◌-◌}
use mathlib.Core.Path.{refl, sym, ap, ◌∙◌}
use mathlib.Core.List.{[], ◌++◌, append-nil}
use native.Mathlib.Omega.{arith}
use lib.ListN.{length, take, drop, length-append}
use Rattle.format.specs.Bytes.{Bytes}
use Rattle.format.specs.Escaping.{escape, value_text}
use Rattle.octets.proofs.Written.{Written, written_none, written_length, written-more, written_all}
use Rattle.escape.specs.Values.{lost_text, Cuts}
use Rattle.escape.proofs.ValueParts.{same_cuts, ascii_cuts}
use Rattle.escape.proofs.values.put_value_text.Goals as goal
use Rattle.escape.proofs.values.put_value_text.Goals.{Joined-not-ascii_ends, After-put_front-to, After-escape_header_value-to, After-put_back, then-not-ascii_ends, else-not-ascii_ends}

-- the parts of the value, cut at the two places
abbrev front : Bytes → ℕ → Bytes
front value a = lost_text (take a value)

abbrev inner : Bytes → ℕ → ℕ → Bytes
inner value a b = escape (take (b - a) (drop a value))

abbrev back : Bytes → ℕ → Bytes
back value b = lost_text (drop b value)

-- where the ends are cut off, on either way
joined : (c : Joined-not-ascii_ends) → Cuts c.args.v.now c.if-not-ascii_ends.front c.if-not-ascii_ends.end
joined c =
    let value = c.args.v.now in
    elim c.if-not-ascii_ends.branch [
      | then-not-ascii_ends w ↦ same_cuts value w.front-is w.end-is w.cut-ends.ensures
      | else-not-ascii_ends w ↦ same_cuts value w.front-is w.end-is (ascii_cuts value (sym c.ascii_ends.ensures ∙ w.if-not-ascii_ends.false))
    ]

-- what is written behind each part, and the parts that are left
first : (c : After-put_front-to) → Cuts c.args.v.now c.if-not-ascii_ends.front c.if-not-ascii_ends.end
    → Written (value_text c.args.v.now) c.args.out.now c.put_front-to.new.out c.args.at c.put_front-to.result
    (inner c.args.v.now c.if-not-ascii_ends.front c.if-not-ascii_ends.end ++ back c.args.v.now c.if-not-ascii_ends.end)
first c cuts =
    let value = c.args.v.now in
    let a = c.if-not-ascii_ends.front in
    let b = c.if-not-ascii_ends.end in
    written-more (written_none (value_text value) c.args.out.now c.args.at) c.requires (front value a) (inner value a b ++ back value b) c.put_front-to.new.out c.put_front-to.result
    cuts.parts c.put_front-to.ensures.wrote c.put_front-to.ensures.placed

second : (c : After-escape_header_value-to) → Written (value_text c.args.v.now) c.args.out.now c.put_front-to.new.out c.args.at c.put_front-to.result
    (inner c.args.v.now c.if-not-ascii_ends.front c.if-not-ascii_ends.end ++ back c.args.v.now c.if-not-ascii_ends.end)
    → Written (value_text c.args.v.now) c.args.out.now c.escape_header_value-to.new.out c.args.at c.escape_header_value-to.result
    (back c.args.v.now c.if-not-ascii_ends.end)
second c w =
    let value = c.args.v.now in
    let a = c.if-not-ascii_ends.front in
    let b = c.if-not-ascii_ends.end in
    written-more w c.requires (inner value a b) (back value b) c.escape_header_value-to.new.out c.escape_header_value-to.result
    refl c.escape_header_value-to.ensures.wrote c.escape_header_value-to.ensures.placed

third : (c : After-put_back) → Written (value_text c.args.v.now) c.args.out.now c.escape_header_value-to.new.out c.args.at c.escape_header_value-to.result
    (back c.args.v.now c.if-not-ascii_ends.end)
    → Written (value_text c.args.v.now) c.args.out.now c.put_back.new.out c.args.at c.put_back.result []
third c w =
    let value = c.args.v.now in
    let b = c.if-not-ascii_ends.end in
    written-more w c.requires (back value b) [] c.put_back.new.out c.put_back.result
    (sym (append-nil (back value b))) c.put_back.ensures.wrote c.put_back.ensures.placed

pub put_front-to-requires : goal.put_front-to-requires
put_front-to-requires c =
    let value = c.args.v.now in
    let a = c.if-not-ascii_ends.front in
    let b = c.if-not-ascii_ends.end in
    let cuts = joined (goal.at.put_front-to-requires c).Joined-not-ascii_ends in (
      omega (arith, cuts.ordered, cuts.inside),
      omega (arith, ap length cuts.parts, length-append (front value a) (inner value a b ++ back value b)),
    )

pub slice_bounds-escape_header_value-count : goal.slice_bounds-escape_header_value-count
slice_bounds-escape_header_value-count c =
    omega (arith, (joined (goal.at.slice_bounds-escape_header_value-count c).Joined-not-ascii_ends).ordered)

pub slice_bounds-escape_header_value-start : goal.slice_bounds-escape_header_value-start
slice_bounds-escape_header_value-start c =
    let cuts = joined (goal.at.slice_bounds-escape_header_value-start c).Joined-not-ascii_ends in
    omega (arith, cuts.ordered, cuts.inside)

pub slice_bounds-escape_header_value-end : goal.slice_bounds-escape_header_value-end
slice_bounds-escape_header_value-end c =
    let cuts = joined (goal.at.slice_bounds-escape_header_value-end c).Joined-not-ascii_ends in
    omega (arith, cuts.ordered, cuts.inside)

pub escape_header_value-to-requires : goal.escape_header_value-to-requires
escape_header_value-to-requires c =
    let p = goal.at.escape_header_value-to-requires c in
    let value = c.args.v.now in
    let a = c.if-not-ascii_ends.front in
    let b = c.if-not-ascii_ends.end in
    omega (arith, written_length (first p.After-put_front-to (joined p.Joined-not-ascii_ends)) c.requires, length-append (inner value a b) (back value b))

pub put_back-requires : goal.put_back-requires
put_back-requires c =
    let p = goal.at.put_back-requires c in
    let cuts = joined p.Joined-not-ascii_ends in (
      omega (arith, cuts.inside),
      omega (arith, written_length (second p.After-escape_header_value-to (first p.After-put_front-to cuts)) c.requires),
    )

pub shape_of-out : goal.shape_of-out
shape_of-out c =
    let p = goal.at.shape_of-out c in
    (written_length (third p.After-put_back (second p.After-escape_header_value-to (first p.After-put_front-to (joined p.Joined-not-ascii_ends)))) c.requires).0

pub returns : goal.returns
returns c =
    let p = goal.at.returns c in
    let all = written_all (third p.After-put_back (second p.After-escape_header_value-to (first p.After-put_front-to (joined p.Joined-not-ascii_ends)))) c.requires refl in
    record { placed = all.0; wrote = all.1 }
