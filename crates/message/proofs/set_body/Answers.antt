-- `message::set_body` meets its contract. Each answer goes by the checks that led to it. Assumes nothing.
use mathlib.Core.Path.{ap, ◌∙◌}
use mathlib.Core.Bool.{Bool, not, ◌&&◌}
use native.Mathlib.Omega.{arith}
use lib.Dec.{leb}
use lib.ListN.{length}
use Rattle.format.specs.Limits.{max_body}
use Rattle.format.specs.Refusals.{body_too_long, nothing_held, refuse_if}
use Rattle.format.specs.Told.{meant, told}
use Rattle.format.specs.Calls.{body_set, body_length, enough, with_body}
use Rattle.format.specs.Lending.{both_lent, lengths, length_of}
use Rattle.octets.proofs.Paste.{pasted_start}
use Rattle.validate.proofs.Chains.{within}
use Rattle.message_rules.proofs.MessageChecks.{turned_away, passed_on, limit_is, does_accepted}
use Rattle.message.proofs.BodyStored.{body_laid, body_unheld, body_done}
use Rattle.message.proofs.set_body.Goals as goal

pub returns-in_err-refuse_if : goal.returns-in_err-refuse_if
unfolding meant
returns-in_err-refuse_if c =
    let m = c.args.m in
    let store = c.args.store.now in
    body_unheld m c.args.head.now store c.args.body.now _ _
    (c.in_err-refuse_if.ensures ∙ ap (λ (t : Bool). refuse_if (not (t && leb m.bodylen (length store))) nothing_held) c.message_holds.ensures)
    c.from_residual.ensures.1

pub returns-in_err-refuse_if-2 : goal.returns-in_err-refuse_if-2
unfolding body_set lengths length_of body_length meant
returns-in_err-refuse_if-2 c =
    let m = c.args.m in
    let head = c.args.head.now in
    let store = c.args.store.now in
    let b = c.args.body.now in
    body_done m head store b _ _
    (c.in_ok-refuse_if.ensures ∙ ap (λ (t : Bool). refuse_if (not (t && leb m.bodylen (length store))) nothing_held) c.message_holds.ensures)
    (λ k h. turned_away (λ r. both_lent r head store) m _ (body_length b) _ _ (c.in_err-refuse_if-2.ensures ∙ limit_is max_body body_too_long (length b))
    c.from_residual-in_err-refuse_if-2.ensures.1)

pub returns-in_err-refuse_if-3 : goal.returns-in_err-refuse_if-3
unfolding body_set lengths length_of body_length enough meant
returns-in_err-refuse_if-3 c =
    let m = c.args.m in
    let head = c.args.head.now in
    let store = c.args.store.now in
    let b = c.args.body.now in
    body_done m head store b _ _
    (c.in_ok-refuse_if.ensures ∙ ap (λ (t : Bool). refuse_if (not (t && leb m.bodylen (length store))) nothing_held) c.message_holds.ensures)
    (λ k h. passed_on (body_length b) _ (c.in_ok-refuse_if-2.ensures ∙ limit_is max_body body_too_long (length b))
    (turned_away (λ r. both_lent r head store) m _ (enough (length store) (length b)) _ _ c.in_err-refuse_if-3.ensures
    c.from_residual-in_err-refuse_if-3.ensures.1))

pub copy_at-requires : goal.copy_at-requires
copy_at-requires c = omega (arith, within _ _ _ c.in_ok-refuse_if-3.ensures)

pub returns : goal.returns
unfolding body_set lengths length_of body_length enough meant told
returns c =
    let m = c.args.m in
    let head = c.args.head.now in
    let store = c.args.store.now in
    let b = c.args.body.now in
    body_done m head store b _ _
    (c.in_ok-refuse_if.ensures ∙ ap (λ (t : Bool). refuse_if (not (t && leb m.bodylen (length store))) nothing_held) c.message_holds.ensures)
    (λ k h. passed_on (body_length b) _ (c.in_ok-refuse_if-2.ensures ∙ limit_is max_body body_too_long (length b))
    (passed_on (enough (length store) (length b)) _ c.in_ok-refuse_if-3.ensures
    (does_accepted (both_lent m head store) _ (with_body k b) (body_laid m head store b _ k h (c.copy_at.ensures ∙ pasted_start b store)))))
