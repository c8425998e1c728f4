-- `message_rules::set_held` meets its contract. Assumes nothing.
use mathlib.Core.Path.{refl, ◌∙◌}
use mathlib.Core.List.{[]}
use native.Mathlib.Omega.{arith}
use lib.ListN.{length}
use Rattle.format.specs.Limits.{max_headers}
use Rattle.format.specs.Refusals.{too_many_headers}
use Rattle.format.specs.Told.{meant}
use Rattle.format.specs.Validators.{header_name, header_value}
use Rattle.format.specs.Message.{name_of, without}
use Rattle.format.specs.Calls.{header_set, header_count}
use Rattle.format.specs.Lending.{head_lent, lengths}
use Rattle.validate.proofs.Chains.{passed}
use Rattle.message_rules.proofs.MessageChecks.{turned_away, passed_on, count_is, name_short, value_short, plain_fits, plain_spelt}
use Rattle.message_rules.proofs.GroupEdits.{others_left, replaced, headers_fit}
use Rattle.message_rules.proofs.set_held.Goals as goal

pub overflow_sub-count : goal.overflow_sub-count
overflow_sub-count c = (headers_fit c.args.m c.args.head.now c.args.name.now _ _ _ c.requires c.headers_of-group.ensures).1

pub returns-in_err-validate_header_name : goal.returns-in_err-validate_header_name
unfolding header_set
returns-in_err-validate_header_name c =
    λ k held. turned_away (λ r. head_lent r c.args.head.now) c.args.m _ (header_name c.args.name.now) _ _ c.in_err-validate_header_name.ensures
    c.from_residual.ensures.1

pub returns-in_err-refuse_if : goal.returns-in_err-refuse_if
unfolding header_set header_count meant
returns-in_err-refuse_if c =
    let m = c.args.m in
    let head = c.args.head.now in
    let name = c.args.name.now in
    λ k held.
    let count = others_left m head k held name _ _ _ (c.headers_of-group.ensures k held) in
    passed_on (header_name name) _ c.in_ok-validate_header_name.ensures
    (turned_away (λ r. head_lent r head) m _ (header_count (length (without name_of name k.headers))) _ _
    (c.in_err-refuse_if.ensures ∙ count_is max_headers too_many_headers _ _ count) c.from_residual-in_err-refuse_if.ensures.1)

pub returns-in_err-validate_cpim_header_value : goal.returns-in_err-validate_cpim_header_value
unfolding header_set header_count meant
returns-in_err-validate_cpim_header_value c =
    let m = c.args.m in
    let head = c.args.head.now in
    let name = c.args.name.now in
    λ k held.
    let count = others_left m head k held name _ _ _ (c.headers_of-group.ensures k held) in
    passed_on (header_name name) _ c.in_ok-validate_header_name.ensures
    (passed_on (header_count (length (without name_of name k.headers))) _ (c.in_ok-refuse_if.ensures ∙ count_is max_headers too_many_headers _ _ count)
    (turned_away (λ r. head_lent r head) m _ (header_value c.args.value.now) _ _ c.in_err-validate_cpim_header_value.ensures
    c.from_residual-in_err-validate_cpim_header_value.ensures.1))

pub splice_header-requires-clause-within : goal.splice_header-requires-clause-within
splice_header-requires-clause-within c = headers_fit c.args.m c.args.head.now c.args.name.now _ _ _ c.requires c.headers_of-group.ensures

pub splice_header-requires-clause-fits : goal.splice_header-requires-clause-fits
splice_header-requires-clause-fits c =
    let name = c.args.name.now in
    let value = c.args.value.now in
    let n = name_short name (passed (header_name name) c.in_ok-validate_header_name.ensures) in
    let v = value_short value (passed (header_value value) c.in_ok-validate_cpim_header_value.ensures) in
    plain_fits name value _ c.plain.ensures (omega arith) (omega arith)

pub returns : goal.returns
unfolding header_set header_count lengths meant
returns c =
    let m = c.args.m in
    let head = c.args.head.now in
    let name = c.args.name.now in
    let value = c.args.value.now in
    λ k held.
    let count = others_left m head k held name _ _ _ (c.headers_of-group.ensures k held) in
    passed_on (header_name name) _ c.in_ok-validate_header_name.ensures
    (passed_on (header_count (length (without name_of name k.headers))) _ (c.in_ok-refuse_if.ensures ∙ count_is max_headers too_many_headers _ _ count)
    (passed_on (header_value value) _ c.in_ok-validate_cpim_header_value.ensures
    (replaced m _ head _ _ k held name _ _ _ (c.headers_of-group.ensures k held) (record { name = name; value = value; params = [] }) refl
    (λ l g h parted. c.splice_header.ensures k l g h (record { name = name; value = value; params = [] }) held parted (plain_spelt name value _ c.plain.ensures)))))
