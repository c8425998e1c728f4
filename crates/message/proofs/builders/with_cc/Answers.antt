-- `message::builders::with_cc` meets its contract. Assumes nothing.
use mathlib.Core.Path.{refl}
use Rattle.format.specs.Bytes.{ascii, all}
use Rattle.format.specs.Calls.{with_cc, add_header, arguments, lends, header_held, change}
use Rattle.message.proofs.Wrapping.{wrapped, named_texts}
use Rattle.message.proofs.builders.with_cc.Goals as goal

pub returns : goal.returns
unfolding arguments lends header_held change all
returns c =
    let value = c.args.«cc».now in
    wrapped (with_cc value) (add_header (ascii "cc") value) refl (named_texts (ascii "cc") value refl) (λ st m. refl) _ _ _
    c.add_header.ensures
