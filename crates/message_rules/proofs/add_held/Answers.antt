-- `message_rules::add_held` meets its contract. Assumes nothing.
use mathlib.Core.List.{[]}
use native.Mathlib.Omega.{arith}
use Rattle.format.specs.Validators.{header_name, header_value}
use Rattle.format.specs.Calls.{header_obj_added, header_added}
use Rattle.format.specs.Lending.{head_lent}
use Rattle.validate.proofs.Chains.{passed}
use Rattle.message_rules.proofs.MessageChecks.{turned_away, passed_on, name_short, value_short, plain_fits, plain_spelt}
use Rattle.message_rules.proofs.add_held.Goals as goal

pub returns-in_err-validate_cpim_header_value : goal.returns-in_err-validate_cpim_header_value
unfolding header_added
returns-in_err-validate_cpim_header_value c =
    λ k held. turned_away (λ r. head_lent r c.args.head.now) c.args.m _ (header_value c.args.value.now) _ _ c.in_err-validate_cpim_header_value.ensures
    c.from_residual.ensures.1

pub returns-in_err-validate_header_name : goal.returns-in_err-validate_header_name
unfolding header_added header_obj_added
returns-in_err-validate_header_name c =
    λ k held. passed_on (header_value c.args.value.now) _ c.in_ok-validate_cpim_header_value.ensures
    (turned_away (λ r. head_lent r c.args.head.now) c.args.m _ (header_name c.args.name.now) _ _ c.in_err-validate_header_name.ensures
    c.from_residual-in_err-validate_header_name.ensures.1)

pub append_held-requires-clause-fits : goal.append_held-requires-clause-fits
append_held-requires-clause-fits c =
    let name = c.args.name.now in
    let value = c.args.value.now in
    let v = value_short value (passed (header_value value) c.in_ok-validate_cpim_header_value.ensures) in
    let n = name_short name (passed (header_name name) c.in_ok-validate_header_name.ensures) in
    plain_fits name value _ c.plain-new.ensures (omega arith) (omega arith)

pub returns : goal.returns
unfolding header_added header_obj_added
returns c =
    let name = c.args.name.now in
    let value = c.args.value.now in
    λ k held. passed_on (header_value value) _ c.in_ok-validate_cpim_header_value.ensures
    (passed_on (header_name name) _ c.in_ok-validate_header_name.ensures
    (c.append_held.ensures k (record { name = name; value = value; params = [] }) held (plain_spelt name value _ c.plain-new.ensures)))
