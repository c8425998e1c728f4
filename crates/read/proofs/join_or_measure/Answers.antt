-- `read::join_or_measure` meets its contract: under CRLFCRLF the body is all that is left. Assumes nothing.
use mathlib.Core.Path.{sym, ap, ◌∙◌}
use mathlib.Core.Bool.{Bool}
use lib.ListN.{length, drop, length-drop}
use Rattle.sections.proofs.Joining.{body_crlf}
use Rattle.read_split.specs.TextJudged.{body_behind}
use Rattle.read.proofs.join_or_measure.Goals as goal

pub returns-then-crlf-clause-length : goal.returns-then-crlf-clause-length
returns-then-crlf-clause-length c =
    let behind = drop c.args.rest c.args.text.now in
    sym (length-drop c.args.rest c.args.text.now) ∙ sym (ap length (body_crlf behind)) ∙ ap (λ (b : Bool). length (body_behind b behind)) (sym c.if-crlf.true)
