-- `message_rules::append_held` meets its contract. Assumes nothing.
use mathlib.Core.Path.{◌∙◌}
use native.Mathlib.Omega.{arith}
use lib.ListN.{length}
use Rattle.format.specs.Limits.{max_headers}
use Rattle.format.specs.Refusals.{too_many_headers}
use Rattle.format.specs.Told.{meant}
use Rattle.format.specs.Calls.{append, header_count}
use Rattle.format.specs.Lending.{head_lent, lengths}
use Rattle.store_check.proofs.HeldParts.{held_parts}
use Rattle.message_edit.proofs.MessageBounds.{used_within}
use Rattle.message_rules.proofs.MessageChecks.{turned_away, passed_on, count_is}
use Rattle.message_rules.proofs.GroupEdits.{appended, headers_fit}
use Rattle.message_rules.proofs.append_held.Goals as goal

pub returns-in_err-refuse_if : goal.returns-in_err-refuse_if
unfolding append header_count meant
returns-in_err-refuse_if c =
    let m = c.args.m in
    let head = c.args.head.now in
    λ k x held spelt.
    turned_away (λ r. head_lent r head) m _ (header_count (length k.headers)) _ _
    (c.in_err-refuse_if.ensures ∙ count_is max_headers too_many_headers m.headers _ (held_parts (head_lent m head) k held).headers) c.from_residual.ensures.1

pub overflow_add-behind : goal.overflow_add-behind
overflow_add-behind c =
    let fit = headers_fit c.args.m c.args.head.now c.args.new.name.now _ _ _ c.requires.held c.headers_of-group.ensures in
    omega (arith, fit.0, used_within c.args.m c.args.head.now c.requires.held)

pub splice_header-requires-clause-within : goal.splice_header-requires-clause-within
splice_header-requires-clause-within c =
    let fit = headers_fit c.args.m c.args.head.now c.args.new.name.now _ _ _ c.requires.held c.headers_of-group.ensures in
    (omega (arith, fit.0), omega arith)

pub returns : goal.returns
unfolding append lengths header_count meant
returns c =
    let m = c.args.m in
    let head = c.args.head.now in
    λ k x held spelt.
    passed_on (header_count (length k.headers)) _
    (c.in_ok-refuse_if.ensures ∙ count_is max_headers too_many_headers m.headers _ (held_parts (head_lent m head) k held).headers)
    (appended m _ head _ _ k held c.args.new.name.now _ _ _ (c.headers_of-group.ensures k held) x spelt.name_is
    (λ l g h parted. c.splice_header.ensures k l g h x held parted spelt))
