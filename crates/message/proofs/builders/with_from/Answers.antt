-- `message::builders::with_from` meets its contract. Assumes nothing.
use mathlib.Core.Path.{refl}
use Rattle.format.specs.Bytes.{ascii, all}
use Rattle.format.specs.Calls.{with_from, set_header, arguments, lends, header_held, change}
use Rattle.message.proofs.Wrapping.{wrapped, named_texts}
use Rattle.message.proofs.builders.with_from.Goals as goal

pub returns : goal.returns
unfolding arguments lends header_held change all
returns c =
    let value = c.args.from.now in
    wrapped (with_from value) (set_header (ascii "From") value) refl (named_texts (ascii "From") value refl) (λ st m. refl) _ _ _
    c.set_header.ensures
