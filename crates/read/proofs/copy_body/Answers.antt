-- `read::copy_body` meets its contract: what stands behind the place is the body (`body_crlf`). Assumes nothing.
use mathlib.Core.Path.{sym, ap, ◌∙◌}
use mathlib.Core.Bool.{Bool}
use native.Mathlib.Omega.{arith}
use lib.ListN.{length, drop}
use Rattle.format.proofs.Lists.{rest_is}
use Rattle.octets.proofs.Paste.{pasted_start}
use Rattle.sections.proofs.Joining.{body_crlf}
use Rattle.read_split.specs.TextJudged.{body_behind}
use Rattle.read.specs.TextLines.{copied_over}
use Rattle.read.proofs.copy_body.Goals as goal

pub copy_at-requires : goal.copy_at-requires
copy_at-requires c =
    let behind = drop c.args.rest c.args.text.now in
    rw (rest_is c.args.text.now c.args.rest)
    (omega (arith, ap length (body_crlf behind), ap (λ (b : Bool). length (body_behind b behind)) c.if-in_text.true, c.requires))

pub returns-then-in_text : goal.returns-then-in_text
returns-then-in_text c =
    let behind = drop c.args.rest c.args.text.now in
    c.copy_at.ensures
    ∙ rw (rest_is c.args.text.now c.args.rest) (pasted_start behind c.args.store.now)
    ∙ ap (λ (b : Bool). copied_over b behind c.args.store.now) (sym c.if-in_text.true)
