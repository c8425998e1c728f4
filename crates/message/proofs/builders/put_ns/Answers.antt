-- `message::builders::put_ns` meets its contract. Assumes nothing.
use mathlib.Core.Path.{ap, ◌∙◌}
use Rattle.format.specs.Bytes.{pasted}
use Rattle.message.proofs.Wrapping.{ns_pasted}
use Rattle.message.proofs.builders.put_ns.Goals as goal

pub returns : goal.returns
returns c =
    let args = c.args in
    c.copy_at-4.ensures
    ∙ ap (pasted _ _) (c.copy_at-3.ensures ∙ ap (pasted _ _) (c.copy_at-2.ensures ∙ ap (pasted _ _) c.copy_at.ensures))
    ∙ ns_pasted args.prefix.now args.uri.now args.value.now
