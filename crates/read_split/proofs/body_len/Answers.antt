-- `read_split::body_len` meets its contract: under CRLFCRLF the body is all that is left. Assumes nothing.
use mathlib.Core.Path.{sym, ap, ◌∙◌}
use mathlib.Core.List.{List}
use mathlib.Core.Bool.{Bool}
use Prim.Native.Nat.{ℕ}
use lib.ListN.{length, drop, length-drop}
use Rattle.format.proofs.Lists.{rest_is}
use Rattle.sections.specs.Body.{joined}
use Rattle.sections.proofs.Joining.{body_crlf}
use Rattle.read_split.specs.TextJudged.{body_behind}
use Rattle.read_split.proofs.body_len.Goals as goal

pub returns-then-crlf : goal.returns-then-crlf
returns-then-crlf c =
    let args = c.args in
    let s = drop args.rest args.text.now in
    sym (length-drop args.rest args.text.now) ∙ sym (ap length (body_crlf s)) ∙ ap (λ (b : Bool). length (body_behind b s)) (sym c.if-crlf.true)

pub returns : goal.returns
returns c =
    let args = c.args in
    let s = drop args.rest args.text.now in
    c.joined_len.ensures ∙ ap (λ (x : List ℕ). length (joined x)) (rest_is args.text.now args.rest) ∙ ap (λ (b : Bool). length (body_behind b s)) (sym c.if-crlf.false)
