-- `message_edit::splice_content` meets its contract. Assumes nothing.
use mathlib.Core.Path.{refl}
use Rattle.store_splice.proofs.Answered.{made, handed_on}
use Rattle.store_splice.proofs.Plain.{plain_size, plain_bytes}
use Rattle.message_edit.proofs.EntrySplice.{content_put}
use Rattle.message_edit.proofs.splice_content.Goals as goal

pub returns-in_err-replace : goal.returns-in_err-replace
returns-in_err-replace c =
    let args = c.args in
    let size = plain_size _ _ _ c.plain-new.ensures in
    let bytes = plain_bytes _ _ _ c.plain-new.ensures in
    λ k l g h held parted. content_put args.m args.head.now _ _ _ k held args.name.now args.value.now args.place.at args.place.size args.place.many
    l g h parted _ refl (handed_on _ _ _ c.in_err-replace.was c.from_residual.ensures.1)
    (rw size at c.replace.ensures.answered) (rw (size, bytes) at c.replace.ensures.left)

pub returns : goal.returns
returns c =
    let args = c.args in
    let size = plain_size _ _ _ c.plain-new.ensures in
    let bytes = plain_bytes _ _ _ c.plain-new.ensures in
    λ k l g h held parted. content_put args.m args.head.now _ _ _ k held args.name.now args.value.now args.place.at args.place.size args.place.many
    l g h parted _ (rw (c.stored_len.ensures, size) refl) (made _ _ c.in_ok-replace.was)
    (rw size at c.replace.ensures.answered) (rw (size, bytes) at c.replace.ensures.left)
