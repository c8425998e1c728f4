-- `header::new` meets its contract. Assumes nothing.
use mathlib.Core.Path.{ap, ◌∙◌}
use mathlib.Core.Bool.{Bool, not}
use native.Mathlib.Omega.{arith}
use borrow.Author.Tests.{ltb-false}
use Rattle.format.specs.Bytes.{pasted}
use Rattle.format.specs.Refusals.{refuse_if, not_utf8}
use Rattle.format.specs.Told.{meant}
use Rattle.format.specs.Validators.{header_value}
use Rattle.format.specs.Layout.{empty_header}
use Rattle.validate.proofs.Chains.{let_by}
use Rattle.header.proofs.HeaderChecks.{turned_away, passed_on}
use Rattle.header.proofs.HeaderExits.{made, fresh_laid}
use Rattle.header.proofs.new.Goals as goal

pub returns-in_err-refuse_if : goal.returns-in_err-refuse_if
unfolding meant
returns-in_err-refuse_if c =
    let value = c.args.value.now in
    let store = c.args.store.now in
    made value store _ _
    (turned_away empty_header store _ _ _ _ (c.in_err-refuse_if.ensures ∙ ap (λ (t : Bool). refuse_if (not t) not_utf8) c.is_utf8.ensures) c.from_residual.ensures.1)

pub returns-in_err-validate_cpim_header_value : goal.returns-in_err-validate_cpim_header_value
unfolding meant
returns-in_err-validate_cpim_header_value c =
    let value = c.args.value.now in
    let store = c.args.store.now in
    made value store _ _
    (passed_on empty_header store _ _ _ _ (c.in_ok-refuse_if.ensures ∙ ap (λ (t : Bool). refuse_if (not t) not_utf8) c.is_utf8.ensures)
    (turned_away empty_header store _ (header_value value) _ _ c.in_err-validate_cpim_header_value.ensures c.from_residual-in_err-validate_cpim_header_value.ensures.1))

pub returns-in_err-refuse_if-2 : goal.returns-in_err-refuse_if-2
unfolding meant
returns-in_err-refuse_if-2 c =
    let value = c.args.value.now in
    let store = c.args.store.now in
    made value store _ _
    (passed_on empty_header store _ _ _ _ (c.in_ok-refuse_if.ensures ∙ ap (λ (t : Bool). refuse_if (not t) not_utf8) c.is_utf8.ensures)
    (passed_on empty_header store _ (header_value value) _ _ c.in_ok-validate_cpim_header_value.ensures
    (turned_away empty_header store _ _ _ _ c.in_err-refuse_if-2.ensures c.from_residual-in_err-refuse_if-2.ensures.1)))

pub copy_at-requires : goal.copy_at-requires
copy_at-requires c =
    let room = let_by _ _ c.in_ok-refuse_if-2.ensures in
    omega (arith, ltb-false _ _ room)

pub copy_at-requires-2 : goal.copy_at-requires-2
copy_at-requires-2 c =
    let room = let_by _ _ c.in_ok-refuse_if-2.ensures in
    omega (arith, ltb-false _ _ room)

pub returns : goal.returns
unfolding meant
returns c =
    let value = c.args.value.now in
    let store = c.args.store.now in
    let room = let_by _ _ c.in_ok-refuse_if-2.ensures in
    made value store _ _
    (passed_on empty_header store _ _ _ _ (c.in_ok-refuse_if.ensures ∙ ap (λ (t : Bool). refuse_if (not t) not_utf8) c.is_utf8.ensures)
    (passed_on empty_header store _ (header_value value) _ _ c.in_ok-validate_cpim_header_value.ensures
    (passed_on empty_header store _ _ _ _ c.in_ok-refuse_if-2.ensures
    (fresh_laid value store _ (c.copy_at-2.ensures ∙ ap (pasted 16 value) c.copy_at.ensures) (omega (arith, ltb-false _ _ room))))))
