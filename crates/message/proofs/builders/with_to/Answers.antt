-- `message::builders::with_to` meets its contract. Assumes nothing.
use mathlib.Core.Path.{refl}
use Rattle.format.specs.Bytes.{ascii, all}
use Rattle.format.specs.Calls.{with_to, add_header, arguments, lends, header_held, change}
use Rattle.message.proofs.Wrapping.{wrapped, named_texts}
use Rattle.message.proofs.builders.with_to.Goals as goal

pub returns : goal.returns
unfolding arguments lends header_held change all
returns c =
    let value = c.args.to.now in
    wrapped (with_to value) (add_header (ascii "To") value) refl (named_texts (ascii "To") value refl) (λ st m. refl) _ _ _
    c.add_header.ensures
