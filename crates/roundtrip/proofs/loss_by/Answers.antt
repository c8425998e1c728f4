-- `roundtrip::loss_by` meets its contract: nothing is held, or the first half says, or the second. Assumes nothing.
use mathlib.Core.Path.{sym, ap, ◌∙◌}
use Rattle.std.proofs.Common.{◌≡◌, Result, rules}
use Rattle.roundtrip.specs.declared.Lost.{Lost}
use native.Mathlib.Omega.{arith}
use Rattle.store_check.proofs.HeldCases.{used_within}
use Rattle.roundtrip.proofs.LossStores.{none_held, short_held, type_within, headers_in_order, params_in_order, contents_in_order, first_lost, others_say}
use Rattle.roundtrip.specs.Loss.{told}
use Rattle.roundtrip.proofs.Lossless.{err_lost}
use Rattle.roundtrip.proofs.loss_by.Goals as goal

pub returns-then-not-message_holds : goal.returns-then-not-message_holds
unfolding told
returns-then-not-message_holds c =
    let args = c.args in
    λ o held. none_held args.manner args.m args.head.now args.body.now (sym c.message_holds.ensures ∙ c.if-not-message_holds.true) o held

pub returns-then-body-m : goal.returns-then-body-m
unfolding told
returns-then-body-m c =
    let args = c.args in
    λ o held. short_held args.manner args.m args.head.now args.body.now c.if-body-m.true o held

pub overflow_add-from : goal.overflow_add-from
overflow_add-from c =
    let args = c.args in
    omega (arith, used_within args.m args.head.now (sym c.message_holds.ensures ∙ c.if-not-message_holds.false))

pub overflow_add-to : goal.overflow_add-to
overflow_add-to c =
    let args = c.args in
    omega (arith, used_within args.m args.head.now (sym c.message_holds.ensures ∙ c.if-not-message_holds.false))

pub slice_bounds-headers-end : goal.slice_bounds-headers-end
slice_bounds-headers-end c =
    let args = c.args in
    omega (arith, used_within args.m args.head.now (sym c.message_holds.ensures ∙ c.if-not-message_holds.false))

pub slice_bounds-contents-end : goal.slice_bounds-contents-end
slice_bounds-contents-end c =
    let args = c.args in
    omega (arith, used_within args.m args.head.now (sym c.message_holds.ensures ∙ c.if-not-message_holds.false))

pub early_loss-requires : goal.early_loss-requires
early_loss-requires c =
    let args = c.args in
    (headers_in_order args.m args.head.now (sym c.message_holds.ensures ∙ c.if-not-message_holds.false), params_in_order args.m args.head.now (sym c.message_holds.ensures ∙ c.if-not-message_holds.false), contents_in_order args.m args.head.now (sym c.message_holds.ensures ∙ c.if-not-message_holds.false))

pub returns-in_err-early_loss : goal.returns-in_err-early_loss
returns-in_err-early_loss c =
    let args = c.args in
    let gave : c.from_residual.result ≡ c.early_loss.result = search rules in
    λ o held. ap told gave ∙ first_lost args.m args.head.now (sym c.message_holds.ensures ∙ c.if-not-message_holds.false) args.manner args.body.now c.if-body-m.false (told c.early_loss.result) c.early_loss.ensures (λ z. err_lost _ (ap (λ (r : Result (Unit {0}) Lost). (told r).clause) (sym c.in_err-early_loss.was) ∙ z)) o held

pub slice_bounds-late_loss-end : goal.slice_bounds-late_loss-end
slice_bounds-late_loss-end c =
    let args = c.args in
    type_within args.m args.head.now (sym c.message_holds.ensures ∙ c.if-not-message_holds.false)

pub late_loss-requires : goal.late_loss-requires
late_loss-requires c =
    let args = c.args in
    (headers_in_order args.m args.head.now (sym c.message_holds.ensures ∙ c.if-not-message_holds.false), contents_in_order args.m args.head.now (sym c.message_holds.ensures ∙ c.if-not-message_holds.false))

pub returns : goal.returns
unfolding told
returns c =
    let args = c.args in
    others_say args.m args.head.now (sym c.message_holds.ensures ∙ c.if-not-message_holds.false) args.manner args.body.now c.if-body-m.false (told c.early_loss.result) c.early_loss.ensures (ap (λ (r : Result (Unit {0}) Lost). (told r).clause) c.in_ok-early_loss.was) (told c.late_loss.result) c.late_loss.ensures
