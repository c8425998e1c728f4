-- `message_rules::content_held` meets its contract. Assumes nothing.
use mathlib.Core.Path.{◌∙◌}
use native.Mathlib.Omega.{arith}
use lib.ListN.{length}
use Rattle.format.specs.Limits.{max_contents}
use Rattle.format.specs.Refusals.{too_many_contents}
use Rattle.format.specs.Told.{meant}
use Rattle.format.specs.Validators.{header_name, content_value}
use Rattle.format.specs.Calls.{content_header_added, content_count}
use Rattle.format.specs.Lending.{head_lent, lengths}
use Rattle.validate.proofs.Chains.{passed}
use Rattle.store_check.proofs.HeldParts.{held_parts}
use Rattle.message_rules.proofs.MessageChecks.{turned_away, passed_on, count_is, name_short, content_short}
use Rattle.message_rules.proofs.GroupEdits.{content_set, contents_fit}
use Rattle.message_rules.proofs.content_held.Goals as goal

pub returns-in_err-validate_header_name : goal.returns-in_err-validate_header_name
unfolding content_header_added
returns-in_err-validate_header_name c =
    λ k held. turned_away (λ r. head_lent r c.args.head.now) c.args.m _ (header_name c.args.name.now) _ _ c.in_err-validate_header_name.ensures
    c.from_residual.ensures.1

pub returns-in_err-validate_content_header_value : goal.returns-in_err-validate_content_header_value
unfolding content_header_added
returns-in_err-validate_content_header_value c =
    λ k held. passed_on (header_name c.args.name.now) _ c.in_ok-validate_header_name.ensures
    (turned_away (λ r. head_lent r c.args.head.now) c.args.m _ (content_value c.args.value.now) _ _ c.in_err-validate_content_header_value.ensures
    c.from_residual-in_err-validate_content_header_value.ensures.1)

pub returns-in_err-refuse_if : goal.returns-in_err-refuse_if
unfolding content_header_added content_count meant
returns-in_err-refuse_if c =
    let m = c.args.m in
    let head = c.args.head.now in
    λ k held. passed_on (header_name c.args.name.now) _ c.in_ok-validate_header_name.ensures
    (passed_on (content_value c.args.value.now) _ c.in_ok-validate_content_header_value.ensures
    (turned_away (λ r. head_lent r head) m _ (content_count (length k.contents)) _ _
    (c.in_err-refuse_if.ensures ∙ count_is max_contents too_many_contents m.contents _ (held_parts (head_lent m head) k held).contents)
    c.from_residual-in_err-refuse_if.ensures.1))

pub splice_content-requires-clause-within : goal.splice_content-requires-clause-within
splice_content-requires-clause-within c =
    contents_fit c.args.m c.args.head.now c.args.name.now _ _ _ c.requires c.contents_of-group.ensures

pub splice_content-requires-clause-bytes : goal.splice_content-requires-clause-bytes
splice_content-requires-clause-bytes c =
    let name = c.args.name.now in
    let value = c.args.value.now in
    let n = name_short name (passed (header_name name) c.in_ok-validate_header_name.ensures) in
    let v = content_short value (passed (content_value value) c.in_ok-validate_content_header_value.ensures) in
    (omega arith, omega arith)

pub returns : goal.returns
unfolding content_header_added content_count lengths meant
returns c =
    let m = c.args.m in
    let head = c.args.head.now in
    let name = c.args.name.now in
    let value = c.args.value.now in
    λ k held. passed_on (header_name name) _ c.in_ok-validate_header_name.ensures
    (passed_on (content_value value) _ c.in_ok-validate_content_header_value.ensures
    (passed_on (content_count (length k.contents)) _
    (c.in_ok-refuse_if.ensures ∙ count_is max_contents too_many_contents m.contents _ (held_parts (head_lent m head) k held).contents)
    (content_set m _ head _ _ k held name _ _ _ (c.contents_of-group.ensures k held) value
    (λ l g h parted. c.splice_content.ensures k l g h held parted))))
