-- `header::set_param_held` meets its contract. Assumes nothing.
use mathlib.Core.Path.{sym, subst, ◌∙◌}
use native.Mathlib.Omega.{arith}
use lib.ListN.{length}
use Rattle.format.specs.Validators.{param_name, param_value}
use Rattle.format.specs.Calls.{param_count}
use Rattle.header.proofs.HeaderBounds.{params_fit_lem}
use Rattle.validate.proofs.Chains.{passed}
use Rattle.header.proofs.HeaderChecks.{Leaves, turned_away, passed_on, name_short, value_short, set_steps, count_is, param_set_lem}
use Rattle.header.proofs.set_param_held.Goals as goal

pub returns-in_err-validate_param_name : goal.returns-in_err-validate_param_name
returns-in_err-validate_param_name c =
    let args = c.args in
    let h = args.h in
    let store = args.store.now in
    let name = args.name.now in
    let value = args.value.now in
    λ k held. subst (Leaves h store _ _) (sym (set_steps name value k (length store)))
    (turned_away h store _ (param_name name) _ _ c.in_err-validate_param_name.ensures c.from_residual.ensures.1)

pub returns-in_err-validate_param_value : goal.returns-in_err-validate_param_value
returns-in_err-validate_param_value c =
    let args = c.args in
    let h = args.h in
    let store = args.store.now in
    let name = args.name.now in
    let value = args.value.now in
    λ k held. subst (Leaves h store _ _) (sym (set_steps name value k (length store)))
    (passed_on h store _ (param_name name) _ _ c.in_ok-validate_param_name.ensures
    (turned_away h store _ (param_value value) _ _ c.in_err-validate_param_value.ensures c.from_residual-in_err-validate_param_value.ensures.1))

pub returns-in_err-refuse_if : goal.returns-in_err-refuse_if
returns-in_err-refuse_if c =
    let args = c.args in
    let h = args.h in
    let store = args.store.now in
    let name = args.name.now in
    let value = args.value.now in
    λ k held. subst (Leaves h store _ _) (sym (set_steps name value k (length store)))
    (passed_on h store _ (param_name name) _ _ c.in_ok-validate_param_name.ensures
    (passed_on h store _ (param_value value) _ _ c.in_ok-validate_param_value.ensures
    (turned_away h store _ (param_count (length k.params)) _ _ (c.in_err-refuse_if.ensures ∙ count_is name value k h store held)
    c.from_residual-in_err-refuse_if.ensures.1)))

pub splice_param-requires : goal.splice_param-requires
splice_param-requires c =
    let args = c.args in
    let name = args.name.now in
    let value = args.value.now in
    let n = passed (param_name name) c.in_ok-validate_param_name.ensures in
    let v = passed (param_value value) c.in_ok-validate_param_value.ensures in
    let fit = params_fit_lem args.h args.store.now name _ _ _ c.requires c.params_of-place.ensures in
    record { held = c.requires; within = fit; bytes = (omega (arith, name_short name n), omega (arith, value_short value v)) }

pub returns : goal.returns
returns c =
    let args = c.args in
    let h = args.h in
    let store = args.store.now in
    let name = args.name.now in
    let value = args.value.now in
    λ k held. subst (Leaves h store _ _) (sym (set_steps name value k (length store)))
    (passed_on h store _ (param_name name) _ _ c.in_ok-validate_param_name.ensures
    (passed_on h store _ (param_value value) _ _ c.in_ok-validate_param_value.ensures
    (passed_on h store _ (param_count (length k.params)) _ _ (c.in_ok-refuse_if.ensures ∙ count_is name value k h store held)
    (param_set_lem name value k h store held _ _ _ _ _ (c.params_of-place.ensures k held)
    (λ l g t parted. c.splice_param.ensures k l g t held parted)))))
