-- `header::with_param` meets its contract. Assumes nothing.
use mathlib.Core.Path.{sym, ap, ◌∙◌}
use mathlib.Core.Bool.{Bool, not}
use borrow.Author.Tests.{not-true, not-false}
use Rattle.format.specs.Refusals.{refuse_if, not_utf8, nothing_held}
use Rattle.format.specs.Told.{meant}
use Rattle.validate.proofs.Chains.{let_by, stopped}
use Rattle.header.proofs.HeaderChecks.{turned_away, passed_on}
use Rattle.header.proofs.HeaderExits.{not_held, when_held}
use Rattle.header.proofs.with_param.Goals as goal

pub returns-in_err-refuse_if : goal.returns-in_err-refuse_if
unfolding meant
returns-in_err-refuse_if c =
    let args = c.args in
    let refused = stopped _ _ _ c.in_err-refuse_if.ensures in
    not_held args.name.now args.value.now args.h args.store.now _ _ (sym c.header_holds.ensures ∙ not-true _ refused)
    (turned_away args.h args.store.now _ _ _ _ (c.in_err-refuse_if.ensures ∙ ap (λ (t : Bool). refuse_if t nothing_held) refused) c.from_residual.ensures.1)

pub returns-in_err-refuse_if-2 : goal.returns-in_err-refuse_if-2
unfolding meant
returns-in_err-refuse_if-2 c =
    let args = c.args in
    when_held args.name.now args.value.now args.h args.store.now _ _ (sym c.header_holds.ensures ∙ not-false _ (let_by _ _ c.in_ok-refuse_if.ensures))
    (λ k held. turned_away args.h args.store.now _ _ _ _ (c.in_err-refuse_if-2.ensures ∙ ap (λ (t : Bool). refuse_if (not t) not_utf8) c.are_texts.ensures)
    c.from_residual-in_err-refuse_if-2.ensures.1)

pub set_param_held-requires : goal.set_param_held-requires
set_param_held-requires c = sym c.header_holds.ensures ∙ not-false _ (let_by _ _ c.in_ok-refuse_if.ensures)

pub returns : goal.returns
unfolding meant
returns c =
    let args = c.args in
    when_held args.name.now args.value.now args.h args.store.now _ _ (sym c.header_holds.ensures ∙ not-false _ (let_by _ _ c.in_ok-refuse_if.ensures))
    (λ k held. passed_on args.h args.store.now _ _ _ _ (c.in_ok-refuse_if-2.ensures ∙ ap (λ (t : Bool). refuse_if (not t) not_utf8) c.are_texts.ensures)
    (c.set_param_held.ensures k held))
