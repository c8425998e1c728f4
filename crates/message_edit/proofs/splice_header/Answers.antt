-- `message_edit::splice_header` meets its contract. Assumes nothing.
use mathlib.Core.Path.{refl}
use Rattle.store_splice.specs.NewEntries.{value_in}
use Rattle.store_splice.proofs.Answered.{made, handed_on}
use Rattle.message_edit.proofs.EntrySplice.{header_put}
use Rattle.message_edit.proofs.splice_header.Goals as goal

pub returns-in_err-replace : goal.returns-in_err-replace
returns-in_err-replace c =
    let args = c.args in
    λ k l g h x held parted spelt. header_put args.m args.head.now _ _ _ k held args.new.name.now (value_in args.new) args.place.at args.place.size args.place.many
    args.new.params args.new.tail.now l g h x parted spelt _ refl (handed_on _ _ _ c.in_err-replace.was c.from_residual.ensures.1)
    c.replace.ensures.answered c.replace.ensures.left

pub returns : goal.returns
returns c =
    let args = c.args in
    λ k l g h x held parted spelt. header_put args.m args.head.now _ _ _ k held args.new.name.now (value_in args.new) args.place.at args.place.size args.place.many
    args.new.params args.new.tail.now l g h x parted spelt _ (rw c.stored_len.ensures refl) (made _ _ c.in_ok-replace.was)
    c.replace.ensures.answered c.replace.ensures.left
