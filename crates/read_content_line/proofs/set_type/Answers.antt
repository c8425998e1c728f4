-- `read_content_line::set_type` meets its contract: the check refuses, or the type is laid over the old one. Assumes nothing.
use native.Mathlib.Omega.{arith}
use Rattle.format.specs.Validators.{content_type}
use Rattle.format.specs.Calls.{with_type}
use Rattle.format.specs.Reading.{read_type}
use Rattle.format.specs.Lending.{head_lent}
use Rattle.format.specs.Told.{told}
use Rattle.format.specs.declared.CpimMessage.{CpimMessage}
use Rattle.format.proofs.Messages.Layout.{content_type_length}
use Rattle.validate.proofs.Chains.{passed}
use Rattle.message_edit.proofs.MessageBounds.{bounds}
use Rattle.message_rules.proofs.MessageChecks.{turned_away, passed_on, does_accepted}
use Rattle.read_content_line.proofs.Typing.{type_laid}
use Rattle.read_content_line.proofs.set_type.Goals as goal

pub returns-in_err-validate_content_type : goal.returns-in_err-validate_content_type
unfolding read_type
returns-in_err-validate_content_type c =
    let head = c.args.head.now in
    λ k held. turned_away (λ (m : CpimMessage). head_lent m head) c.args.m _ (content_type c.args.t.now) _ _
    c.in_err-validate_content_type.ensures c.from_residual.ensures.1

pub put_type-requires : goal.put_type-requires
put_type-requires c =
    let t = c.args.t.now in
    let short = content_type_length t (passed (content_type t) c.in_ok-validate_content_type.ensures) in
    (short, omega (arith, (bounds c.args.m c.args.head.now c.requires).used))

pub returns : goal.returns
unfolding read_type told
returns c =
    let m = c.args.m in
    let head = c.args.head.now in
    let t = c.args.t.now in
    let short = content_type_length t (passed (content_type t) c.in_ok-validate_content_type.ensures) in
    λ k held. passed_on (content_type t) _ c.in_ok-validate_content_type.ensures
    (does_accepted (head_lent m head) _ (with_type k t) (type_laid m head t _ k held short c.put_type.ensures))
