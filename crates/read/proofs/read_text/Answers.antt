-- `read::read_text` meets its contract: a refusal of the text, or what its sections give. Assumes nothing.
use mathlib.Core.Path.{sym, ap, ◌∙◌}
use native.Mathlib.Omega.{arith}
use lib.ListN.{length-take}
use Rattle.format.specs.Refusals.{numbers}
use Rattle.format.specs.Reading.{Parts, text_parts}
use Rattle.format.specs.ReadingRfc.{line_reader}
use Rattle.format.specs.Told.{told}
use Rattle.format.specs.declared.CpimMessage.{CpimMessage}
use Rattle.format.proofs.Steps.{accepted_same}
use Rattle.read_split.specs.TextJudged.{Stands}
use Rattle.read_split.proofs.TextJudged.{three, parts_stand, sections_stand}
use Rattle.read.specs.TextLines.{read_lines_with}
use Rattle.read.proofs.LinesLoop.{refused_lines}
use Rattle.read.proofs.Outcomes.{by_went, text_refused}
use Rattle.read.proofs.read_text.Goals as goal
use Rattle.read.proofs.read_text.Goals.{In_ok-crlf}

-- where the sections stand
stands : (c : In_ok-crlf) → Stands c.args.text.now c.in_ok-crlf.field-0
stands c = c.in_ok-crlf.ensures

pub returns-in_err-crlf-clause-read : goal.returns-in_err-crlf-clause-read
unfolding told numbers
returns-in_err-crlf-clause-read c =
    refused_lines CpimMessage _ _ _ c.from_residual.ensures.1 (sym (ap numbers (text_refused (line_reader c.args.manner) _ _ _ c.in_err-crlf.ensures)))

pub slice_bounds-read_sections-end : goal.slice_bounds-read_sections-end
slice_bounds-read_sections-end c =
    let h = three _ _ (stands (goal.at.slice_bounds-read_sections-end c).In_ok-crlf) in
    simp length-take (omega (arith, h.first))

pub slice_bounds-read_sections-count : goal.slice_bounds-read_sections-count
slice_bounds-read_sections-count c =
    let h = three _ _ (stands (goal.at.slice_bounds-read_sections-count c).In_ok-crlf) in
    omega (arith, h.second)

pub slice_bounds-read_sections-start : goal.slice_bounds-read_sections-start
slice_bounds-read_sections-start c =
    let h = three _ _ (stands (goal.at.slice_bounds-read_sections-start c).In_ok-crlf) in
    omega (arith, h.second)

pub slice_bounds-read_sections-end-2 : goal.slice_bounds-read_sections-end-2
slice_bounds-read_sections-end-2 c =
    let h = three _ _ (stands (goal.at.slice_bounds-read_sections-end-2 c).In_ok-crlf) in
    omega (arith, h.second, h.third)

pub slice_bounds-read_sections-count-2 : goal.slice_bounds-read_sections-count-2
slice_bounds-read_sections-count-2 c =
    let h = three _ _ (stands (goal.at.slice_bounds-read_sections-count-2 c).In_ok-crlf) in
    omega (arith, h.third)

pub slice_bounds-read_sections-start-2 : goal.slice_bounds-read_sections-start-2
slice_bounds-read_sections-start-2 c =
    let h = three _ _ (stands (goal.at.slice_bounds-read_sections-start-2 c).In_ok-crlf) in
    omega (arith, h.third)

pub slice_bounds-read_sections-end-3 : goal.slice_bounds-read_sections-end-3
slice_bounds-read_sections-end-3 c =
    let h = three _ _ (stands (goal.at.slice_bounds-read_sections-end-3 c).In_ok-crlf) in
    omega (arith, h.third)

pub read_sections-requires : goal.read_sections-requires
read_sections-requires c = sections_stand _ _ (stands (goal.at.read_sections-requires c).In_ok-crlf)

pub returns-in_err-message-clause-read : goal.returns-in_err-message-clause-read
unfolding read_lines_with
returns-in_err-message-clause-read c =
    refused_lines CpimMessage _ _ _ c.from_residual-in_err-message.ensures.1
    (by_went _ _ (text_parts c.args.text.now) _ _ (parts_stand _ _ (stands (goal.at.returns-in_err-message-clause-read c).In_ok-crlf)) c.in_err-message.ensures).answered

pub returns-clause-read : goal.returns-clause-read
unfolding read_lines_with told
returns-clause-read c =
    by_went _ _ (text_parts c.args.text.now) _ _ (parts_stand _ _ (stands (goal.at.returns-clause-read c).In_ok-crlf)) c.in_ok-message.ensures

pub returns-clause-body : goal.returns-clause-body
returns-clause-body c =
    let at = stands (goal.at.returns-clause-body c).In_ok-crlf in
    λ p h. record {
      short = at.short;
      separated = at.separated;
      within = (three _ _ at).within;
      behind = ap (λ (q : Parts). q.body) (accepted_same p _ (sym h ∙ parts_stand _ _ at));
    }
