-- `message::builders::with_require` meets its contract. Assumes nothing.
use mathlib.Core.Path.{refl}
use Rattle.format.specs.Bytes.{ascii, all}
use Rattle.format.specs.Calls.{with_require, add_header, arguments, lends, header_held, change}
use Rattle.message.proofs.Wrapping.{wrapped, named_texts}
use Rattle.message.proofs.builders.with_require.Goals as goal

pub returns : goal.returns
unfolding arguments lends header_held change all
returns c =
    let value = c.args.feature.now in
    wrapped (with_require value) (add_header (ascii "Require") value) refl (named_texts (ascii "Require") value refl) (λ st m. refl) _ _ _
    c.add_header.ensures
