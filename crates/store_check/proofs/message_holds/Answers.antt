-- `store_check::message_holds` meets its contract: the numbers keep the type within the store. Assumes nothing.
use mathlib.Core.Path.{sym, ◌∙◌}
use native.Mathlib.Omega.{arith}
use lib.ListN.{length-take}
use Rattle.store_check.proofs.MessageHeld.{numbers_start, numbers_type}
use Rattle.store_check.proofs.message_holds.Goals as goal

pub slice_bounds-type_holds-end : goal.slice_bounds-type_holds-end
slice_bounds-type_holds-end c =
    simp length-take (omega (arith, numbers_start _ _ (sym c.numbers_hold.ensures ∙ c.if-not-numbers_hold.false)))

pub type_holds-requires : goal.type_holds-requires
type_holds-requires c =
    let passed = sym c.numbers_hold.ensures ∙ c.if-not-numbers_hold.false in
    simp length-take (omega (arith, numbers_start _ _ passed, numbers_type _ _ passed))
