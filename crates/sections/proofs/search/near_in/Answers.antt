-- `sections::search::near_in` meets its contract. The least difference so far is 0 exactly where a pair was passed (`near_next`, `low_next`).
-- Assumes nothing.
use mathlib.Core.Path.{◌≡◌, refl, sym, ap, ◌∙◌}
use mathlib.Core.Bool.{Bool, ◌||◌, or-false}
use Prim.Native.Nat.{ℕ, ◌+◌}
use native.Mathlib.Omega.{arith}
use lib.ListN.{length, drop, get_or}
use lib.Dec.{eqb}
use Rattle.sections.specs.Block.{near}
use Rattle.sections.proofs.SearchBlocks.{apart, near_next, near_end, low_next}
use Rattle.sections.proofs.search.near_in.Goals as goal

pub loop-k-init : goal.loop-k-init
loop-k-init g c = (omega arith, refl)

pub loop-k-preserved : goal.loop-k-preserved
loop-k-preserved g c =
    let s = c.args.text.now in
    let t = c.args.behind.now in
    let a = c.args.first in
    let z = c.args.last in
    let k = c.loop-k.k in
    let low = c.loop-k.low in
    let d = apart (get_or s k 0) a (get_or t k 0) z in
    let rest = near a z (drop (k + 1) s) (drop (k + 1) t) in (
      omega arith,
      c.loop-k.invariant.1 ∙ ap (λ (r : Bool). eqb low 0 || r) (near_next a z s t k (omega arith) (omega arith)) ∙ low_next low d rest ∙ ap (λ (n : ℕ). eqb n 0 || rest) (sym c.min-low.ensures),
    )

pub returns : goal.returns
returns g c =
    let at = c.args in
    let k : length at.text.now ≡ c.loop-k.k = omega arith in
    sym (c.loop-k.invariant.1 ∙ rw (sym k, near_end at.first at.last at.text.now) (or-false (eqb c.loop-k.low 0)))
