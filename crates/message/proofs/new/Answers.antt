-- `message::new` meets its contract. Each answer goes by the checks that led to it. Assumes nothing.
use mathlib.Core.Path.{refl, ap, ◌∙◌}
use mathlib.Core.Bool.{Bool, not}
use native.Mathlib.Omega.{arith}
use lib.ListN.{length}
use Rattle.format.specs.Bytes.{total, pasted}
use Rattle.format.specs.Limits.{max_body}
use Rattle.format.specs.Refusals.{body_too_long, not_utf8, refuse_if}
use Rattle.format.specs.Told.{meant, told}
use Rattle.format.specs.Validators.{utf8, content_type}
use Rattle.format.specs.Message.{need}
use Rattle.format.specs.Calls.{new, body_length, room, enough, fresh}
use Rattle.format.specs.Layout.{empty_message}
use Rattle.format.specs.Lending.{both_lent, lengths, length_of}
use Rattle.format.proofs.Messages.Layout.{content_type_length}
use Rattle.octets.proofs.Paste.{pasted_start}
use Rattle.validate.proofs.Chains.{passed, within}
use Rattle.message_rules.proofs.MessageChecks.{turned_away, passed_on, limit_is, does_accepted}
use Rattle.message.proofs.BodyStored.{made, type_laid, new_laid}
use Rattle.message.proofs.new.Goals as goal

pub returns-in_err-refuse_if : goal.returns-in_err-refuse_if
unfolding new need total lengths length_of utf8 meant
returns-in_err-refuse_if c =
    let t = c.args.content_type.now in
    let b = c.args.body.now in
    let head = c.args.head.now in
    let store = c.args.store.now in
    made t b head store _ _
    (turned_away (λ r. both_lent r head store) empty_message _ (utf8 t) _ _
    (c.in_err-refuse_if.ensures ∙ ap (λ (x : Bool). refuse_if (not x) not_utf8) c.is_utf8.ensures) c.from_residual.ensures.1)

pub returns-in_err-validate_content_type : goal.returns-in_err-validate_content_type
unfolding new need total lengths length_of utf8 meant
returns-in_err-validate_content_type c =
    let t = c.args.content_type.now in
    let b = c.args.body.now in
    let head = c.args.head.now in
    let store = c.args.store.now in
    made t b head store _ _
    (passed_on (utf8 t) _ (c.in_ok-refuse_if.ensures ∙ ap (λ (x : Bool). refuse_if (not x) not_utf8) c.is_utf8.ensures)
    (turned_away (λ r. both_lent r head store) empty_message _ (content_type t) _ _ c.in_err-validate_content_type.ensures
    c.from_residual-in_err-validate_content_type.ensures.1))

pub returns-in_err-refuse_if-2 : goal.returns-in_err-refuse_if-2
unfolding new need total lengths length_of utf8 body_length meant
returns-in_err-refuse_if-2 c =
    let t = c.args.content_type.now in
    let b = c.args.body.now in
    let head = c.args.head.now in
    let store = c.args.store.now in
    made t b head store _ _
    (passed_on (utf8 t) _ (c.in_ok-refuse_if.ensures ∙ ap (λ (x : Bool). refuse_if (not x) not_utf8) c.is_utf8.ensures)
    (passed_on (content_type t) _ c.in_ok-validate_content_type.ensures
    (turned_away (λ r. both_lent r head store) empty_message _ (body_length b) _ _
    (c.in_err-refuse_if-2.ensures ∙ limit_is max_body body_too_long (length b)) c.from_residual-in_err-refuse_if-2.ensures.1)))

pub returns-in_err-refuse_if-3 : goal.returns-in_err-refuse_if-3
unfolding new need total lengths length_of utf8 body_length room meant
returns-in_err-refuse_if-3 c =
    let t = c.args.content_type.now in
    let b = c.args.body.now in
    let head = c.args.head.now in
    let store = c.args.store.now in
    made t b head store _ _
    (passed_on (utf8 t) _ (c.in_ok-refuse_if.ensures ∙ ap (λ (x : Bool). refuse_if (not x) not_utf8) c.is_utf8.ensures)
    (passed_on (content_type t) _ c.in_ok-validate_content_type.ensures
    (passed_on (body_length b) _ (c.in_ok-refuse_if-2.ensures ∙ limit_is max_body body_too_long (length b))
    (turned_away (λ r. both_lent r head store) empty_message _ (room (length head) 256) _ _ c.in_err-refuse_if-3.ensures
    c.from_residual-in_err-refuse_if-3.ensures.1))))

pub returns-in_err-refuse_if-4 : goal.returns-in_err-refuse_if-4
unfolding new need total lengths length_of utf8 body_length room enough meant
returns-in_err-refuse_if-4 c =
    let t = c.args.content_type.now in
    let b = c.args.body.now in
    let head = c.args.head.now in
    let store = c.args.store.now in
    made t b head store _ _
    (passed_on (utf8 t) _ (c.in_ok-refuse_if.ensures ∙ ap (λ (x : Bool). refuse_if (not x) not_utf8) c.is_utf8.ensures)
    (passed_on (content_type t) _ c.in_ok-validate_content_type.ensures
    (passed_on (body_length b) _ (c.in_ok-refuse_if-2.ensures ∙ limit_is max_body body_too_long (length b))
    (passed_on (room (length head) 256) _ c.in_ok-refuse_if-3.ensures
    (turned_away (λ r. both_lent r head store) empty_message _ (enough (length store) (length b)) _ _ c.in_err-refuse_if-4.ensures
    c.from_residual-in_err-refuse_if-4.ensures.1)))))

pub copy_at-requires : goal.copy_at-requires
copy_at-requires c = omega (arith, within _ _ _ c.in_ok-refuse_if-3.ensures)

pub copy_at-requires-2 : goal.copy_at-requires-2
copy_at-requires-2 c =
    let t = c.args.content_type.now in
    omega (arith, within _ _ _ c.in_ok-refuse_if-3.ensures, content_type_length t (passed (content_type t) c.in_ok-validate_content_type.ensures))

pub copy_at-requires-3 : goal.copy_at-requires-3
copy_at-requires-3 c = omega (arith, within _ _ _ c.in_ok-refuse_if-4.ensures)

pub returns : goal.returns
unfolding new need total lengths length_of utf8 body_length room enough meant told
returns c =
    let t = c.args.content_type.now in
    let b = c.args.body.now in
    let head = c.args.head.now in
    let store = c.args.store.now in
    let short = content_type_length t (passed (content_type t) c.in_ok-validate_content_type.ensures) in
    let heads = c.copy_at-2.ensures ∙ ap (pasted 0 t) c.copy_at.ensures ∙ type_laid 256 t b head refl short in
    made t b head store _ _
    (passed_on (utf8 t) _ (c.in_ok-refuse_if.ensures ∙ ap (λ (x : Bool). refuse_if (not x) not_utf8) c.is_utf8.ensures)
    (passed_on (content_type t) _ c.in_ok-validate_content_type.ensures
    (passed_on (body_length b) _ (c.in_ok-refuse_if-2.ensures ∙ limit_is max_body body_too_long (length b))
    (passed_on (room (length head) 256) _ c.in_ok-refuse_if-3.ensures
    (passed_on (enough (length store) (length b)) _ c.in_ok-refuse_if-4.ensures
    (does_accepted (both_lent empty_message head store) _ (fresh t b) (new_laid t b head store _ _ heads (c.copy_at-3.ensures ∙ pasted_start b store))))))))
