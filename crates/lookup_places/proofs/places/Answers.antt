-- `lookup_places::places` meets its contract. Each answer goes by the tests that led to it. Assumes nothing.
use mathlib.Core.Path.{◌≡◌, sym, ap, ◌∙◌}
use mathlib.Core.Bool.{true}
use Prim.Native.Nat.{ℕ, ◌*◌}
use native.Mathlib.Omega.{arith}
use lib.ListN.{drop}
use Rattle.format.specs.Told.{meant, told}
use Rattle.store_check.specs.Holding.{message_holds}
use Rattle.lookup_places.specs.Fronts.{fronted}
use Rattle.lookup_places.proofs.PlacesExits.{few, in_store, placed_unheld, placed_full, placed_rows}
use Rattle.lookup_places.proofs.places.Goals as goal
use Rattle.lookup_places.proofs.places.Goals.{Else-not-message_holds}

holds : (c : Else-not-message_holds) → message_holds c.args.m c.args.head.now ≡ true
holds c = sym c.message_holds.ensures ∙ c.if-not-message_holds.false

pub returns-then-not-message_holds : goal.returns-then-not-message_holds
unfolding told meant
returns-then-not-message_holds c =
    let args = c.args in
    placed_unheld args.m args.head.now args.out.now (sym c.message_holds.ensures ∙ c.if-not-message_holds.true)

pub row_count-rows-requires : goal.row_count-rows-requires
row_count-rows-requires c = holds (goal.at.row_count-rows-requires c).Else-not-message_holds

pub overflow_mul-n : goal.overflow_mul-n
overflow_mul-n c =
    let s = c in
    omega (arith, few s.args.m s.args.head.now (holds (goal.at.overflow_mul-n c).Else-not-message_holds), c.row_count-rows.ensures)

pub overflow_mul-result : goal.overflow_mul-result
overflow_mul-result c =
    omega (arith, few c.args.m c.args.head.now (holds (goal.at.overflow_mul-result c).Else-not-message_holds), c.row_count-rows.ensures)

pub returns-then-out-n : goal.returns-then-out-n
unfolding told meant
returns-then-out-n c =
    let s = c in
    let n = ap (λ (k : ℕ). 4 * k) c.row_count-rows.ensures in
    placed_full s.args.m s.args.head.now s.args.out.now (holds (goal.at.returns-then-out-n c).Else-not-message_holds) _ n (omega arith)

pub put_rows-requires : goal.put_rows-requires
put_rows-requires c =
    let s = c in
    (ap (λ (k : ℕ). fronted k (drop 256 s.args.head.now)) c.row_count-rows.ensures ∙ in_store s.args.m s.args.head.now (holds (goal.at.put_rows-requires c).Else-not-message_holds), omega arith)

pub shape_of-out : goal.shape_of-out
shape_of-out c = c.put_rows.auto.out

pub returns : goal.returns
unfolding told
returns c =
    let s = c in
    let rows = c.row_count-rows.ensures in
    placed_rows s.args.m s.args.head.now s.args.out.now (holds (goal.at.returns c).Else-not-message_holds) _ (omega (arith, rows))
    (rw (sym rows) c.put_rows.ensures)
