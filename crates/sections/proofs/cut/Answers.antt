-- `sections::cut` meets its contract: a place before the end is that of an occurrence, which lies within the text. Assumes nothing.
use mathlib.Core.Path.{sym, ◌∙◌}
use native.Mathlib.Omega.{arith}
use Rattle.sections.proofs.FirstCut.{some_fits}
use Rattle.sections.proofs.Cutting.{cut_none, cut_some}
use Rattle.sections.proofs.cut.Goals as goal

pub returns-then-end-text : goal.returns-then-end-text
returns-then-end-text c =
    let t = c.args.text.now in
    let p = c.args.pattern.now in
    rw c.find-end.ensures (sym (cut_none p t (omega arith) (omega arith)))

pub overflow_add-result : goal.overflow_add-result
overflow_add-result c =
    let t = c.args.text.now in
    let p = c.args.pattern.now in
    record { fits = omega (arith, some_fits p t (omega arith) (λ e. c.if-end-text.false (c.find-end.ensures ∙ e))) }

pub returns : goal.returns
returns c =
    let t = c.args.text.now in
    let p = c.args.pattern.now in
    rw c.find-end.ensures (sym (cut_some p t (omega arith) (λ e. c.if-end-text.false (c.find-end.ensures ∙ e))))
