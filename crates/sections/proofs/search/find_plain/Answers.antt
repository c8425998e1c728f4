-- `sections::search::find_plain` meets its contract. At each place of the text the inner loop compares byte by byte: what is left of the pattern
-- against what is left of the text decides (`begins_same`, `begins_differs`), and a place that fails is one step of `place`
-- (`place_next`). The invariants: the text's place is this place and that of what is left; the pattern begins here exactly where
-- its rest begins `k` bytes on. Assumes nothing.
use mathlib.Core.Path.{◌≡◌, refl, sym, ◌∙◌}
use mathlib.Core.Bool.{true, false}
use Prim.Native.Nat.{◌+◌}
use native.Mathlib.Nat.{add-zero}
use native.Mathlib.Omega.{arith}
use lib.ListN.{length, drop}
use Rattle.format.specs.Bytes.{begins}
use Rattle.sections.proofs.Begins.{begins_same, begins_differs, begins_done}
use Rattle.sections.proofs.FirstPlace.{place_here, place_next, place_end}
use Rattle.sections.proofs.search.find_plain.Goals as goal

pub places-init : goal.places-init
places-init c = (omega arith, omega arith)

pub loop-k-init : goal.loop-k-init
loop-k-init c =
    (omega arith, omega arith, rw (add-zero c.places.place) refl)

pub loop-k-preserved : goal.loop-k-preserved
loop-k-preserved c =
    let text = c.args.text.now in
    let pattern = c.args.pattern.now in
    let at = c.places.place in
    let k = c.loop-k.k in
    let next : at + (k + 1) ≡ at + k + 1 = omega arith in (
      omega arith,
      omega arith,
      c.loop-k.invariant.2 ∙ rw next (begins_same pattern text k (at + k) (omega arith) (omega arith) c.if-text-place-2.false),
    )

pub places-preserved : goal.places-preserved
places-preserved c =
    let text = c.args.text.now in
    let pattern = c.args.pattern.now in
    let at = c.places.place in
    let k = c.loop-k.k in
    let differs : begins pattern (drop at text) ≡ false =
    c.loop-k.invariant.2 ∙ begins_differs pattern text k (at + k) (omega arith) (omega arith) c.if-text-place-2.true in
    (omega arith, omega (arith, place_next pattern text at (omega arith) differs))

pub returns-then-text-place : goal.returns-then-text-place
returns-then-text-place c =
    let text = c.args.text.now in
    let pattern = c.args.pattern.now in
    let at = c.places.place in
    sym (place_end at pattern text (omega arith) (omega arith) c.places.invariant.1)

pub returns-then-k-pattern : goal.returns-then-k-pattern
returns-then-k-pattern c =
    let text = c.args.text.now in
    let pattern = c.args.pattern.now in
    let at = c.places.place in
    let whole : begins pattern (drop at text) ≡ true =
    c.loop-k.invariant.2 ∙ rw c.if-k-pattern.true (begins_done pattern (drop (at + length pattern) text)) in
    omega (arith, place_here pattern (drop at text) (omega arith) whole)
