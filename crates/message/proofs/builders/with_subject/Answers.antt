-- `message::builders::with_subject` meets its contract. Assumes nothing.
use mathlib.Core.Path.{refl}
use Rattle.format.specs.Bytes.{ascii, all}
use Rattle.format.specs.Calls.{with_subject, add_header, arguments, lends, header_held, change}
use Rattle.message.proofs.Wrapping.{wrapped, named_texts}
use Rattle.message.proofs.builders.with_subject.Goals as goal

pub returns : goal.returns
unfolding arguments lends header_held change all
returns c =
    let value = c.args.subject.now in
    wrapped (with_subject value) (add_header (ascii "Subject") value) refl (named_texts (ascii "Subject") value refl) (λ st m. refl) _ _ _
    c.add_header.ensures
