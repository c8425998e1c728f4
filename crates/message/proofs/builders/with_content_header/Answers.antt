-- `message::builders::with_content_header` meets its contract. Assumes nothing.
use mathlib.Core.Path.{refl}
use Rattle.format.specs.Calls.{with_content_header, add_content_header, arguments, lends, header_held, change}
use Rattle.message.proofs.Wrapping.{wrapped}
use Rattle.message.proofs.builders.with_content_header.Goals as goal

pub returns : goal.returns
unfolding arguments lends header_held change
returns c =
    let args = c.args in
    wrapped (with_content_header args.name.now args.value.now) (add_content_header args.name.now args.value.now) refl refl (λ st m. refl) _ _ _
    c.add_content_header.ensures
