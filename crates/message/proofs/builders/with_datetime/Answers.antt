-- `message::builders::with_datetime` meets its contract. Assumes nothing.
use mathlib.Core.Path.{refl}
use Rattle.format.specs.Bytes.{ascii, all}
use Rattle.format.specs.Calls.{with_datetime, set_header, arguments, lends, header_held, change}
use Rattle.message.proofs.Wrapping.{wrapped, named_texts}
use Rattle.message.proofs.builders.with_datetime.Goals as goal

pub returns : goal.returns
unfolding arguments lends header_held change all
returns c =
    let value = c.args.datetime.now in
    wrapped (with_datetime value) (set_header (ascii "DateTime") value) refl (named_texts (ascii "DateTime") value refl) (λ st m. refl) _ _ _
    c.set_header.ensures
