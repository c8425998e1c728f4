-- `read::section_lines::read_contents` meets its contract. The invariant: what was read so far is held, and the rest of the lines gives of it what
-- all lines give of the message at the start (`SoFar`). Assumes nothing.
use Rattle.std.specs.Prelude.{Some}
use Rattle.format.specs.declared.CpimMessage.{CpimMessage}
use mathlib.Core.Path.{◌≡◌, sym, ap, ◌∙◌}
use mathlib.Core.Bool.{Bool}
use mathlib.Core.List.{List, ◌∷◌}
use Prim.Native.Nat.{ℕ, ◌+◌, ◌≤◌, ◌<◌}
use native.Mathlib.Omega.{arith}
use lib.ListN.{length, take, drop}
use Rattle.format.specs.Bytes.{Bytes, pieces, split}
use Rattle.format.specs.Refusals.{Out}
use Rattle.format.specs.Message.{Message}
use Rattle.format.specs.Reading.{read_content_line}
use Rattle.format.specs.Lending.{head_lent, lengths}
use Rattle.read_content_line.proofs.ContentLine.{content_line_valid}
use Rattle.message_edit.proofs.MessageBounds.{part_is}
use Rattle.sections.specs.Cuts.{line_end_for}
use Rattle.sections.proofs.Cutting.{lines_are}
use Rattle.read.proofs.LinesLoop.{ok_number, err_number, refused_lines, does_same, lengths_kept, others, next_line, no_others, more_others, end_within, next_within, so_far_start, still_held, line_refused, line-last, line-next}
use Rattle.read.proofs.section_lines.read_contents.Goals as goal
use Rattle.read.proofs.section_lines.read_contents.Goals.{At-loop-so_far, After-cut_line-line}

pub loop-so_far-init : goal.loop-so_far-init
loop-so_far-init c =
    so_far_start (read_content_line (lengths (head_lent c.args.m c.args.head.now))) (line_end_for c.crlf_lines-crlf.result) c.args.section.now c.args.m c.args.head.now
    (lines_are c.args.section.now ∙ ap (λ (b : Bool). pieces (split (line_end_for b) c.args.section.now)) (sym c.crlf_lines-crlf.ensures)) c.requires.text

-- what the loop began with
abbrev section-at : (c : At-loop-so_far) → Bytes
section-at c = c.args.section.now

end : (c : After-cut_line-line) → c.loop-so_far.at + c.cut_line-line.result.end ≤ length (section-at (goal.at.After-cut_line-line c).At-loop-so_far)
end c = end_within c.crlf_lines-crlf.result (section-at (goal.at.After-cut_line-line c).At-loop-so_far) c.loop-so_far.at c.cut_line-line.result c.cut_line-line.ensures c.loop-so_far.invariant.place

pub overflow_add-end : goal.overflow_add-end
overflow_add-end c = record { fits = omega (arith, end (goal.at.overflow_add-end c).After-cut_line-line) }

pub slice_bounds-read_content_line-end : goal.slice_bounds-read_content_line-end
slice_bounds-read_content_line-end c = omega (arith, end (goal.at.slice_bounds-read_content_line-end c).After-cut_line-line)

abbrev step-at : (c : At-loop-so_far) → Bytes → Message → Out Message
step-at c = read_content_line (lengths (head_lent c.args.m c.args.head.now))

abbrev end-at : (c : At-loop-so_far) → Bytes
end-at c = line_end_for c.crlf_lines-crlf.result

pub read_content_line-requires : goal.read_content_line-requires
read_content_line-requires c =
    let at = (goal.at.read_content_line-requires c).At-loop-so_far in
    still_held (step-at at) (end-at at) (section-at at) c.args.m c.args.head.now c.loop-so_far.at c.loop-so_far.so_far c.loop-so_far.head c.loop-so_far.invariant c.requires.held

-- the next line and the others
abbrev line_at : (c : After-cut_line-line) → Bytes
line_at c = take c.cut_line-line.result.end (drop c.loop-so_far.at (section-at (goal.at.After-cut_line-line c).At-loop-so_far))

abbrev others-at : (c : After-cut_line-line) → List Bytes
others-at c = others c.crlf_lines-crlf.result (section-at (goal.at.After-cut_line-line c).At-loop-so_far) c.loop-so_far.at c.cut_line-line.result c.cut_line-line.ensures

cut : (c : After-cut_line-line) → pieces (split (end-at (goal.at.After-cut_line-line c).At-loop-so_far) (drop c.loop-so_far.at (section-at (goal.at.After-cut_line-line c).At-loop-so_far))) ≡ (line_at c) ∷ (others-at c)
cut c = next_line c.crlf_lines-crlf.result (section-at (goal.at.After-cut_line-line c).At-loop-so_far) c.loop-so_far.at c.cut_line-line.result c.cut_line-line.ensures

pub returns-in_err-so_far : goal.returns-in_err-so_far
returns-in_err-so_far c =
    let here = (goal.at.returns-in_err-so_far c).After-cut_line-line in
    let at = (goal.at.returns-in_err-so_far c).At-loop-so_far in
    λ k h. refused_lines CpimMessage _ _ _ c.from_residual.ensures.1
    (line_refused (step-at at) (end-at at) (section-at at) c.args.m c.args.head.now c.loop-so_far.at c.loop-so_far.so_far c.loop-so_far.head c.loop-so_far.invariant (line_at here) (others-at here) (cut here) _ _ _
    (does_same _ _ _ read_content_line _ _ _ _ (lengths_kept _ _ _ _ c.loop-so_far.invariant.kept) (part_is c.loop-so_far.at c.cut_line-line.result.end (section-at at)) c.in_err-so_far.ensures)
    (err_number CpimMessage _) k h).answered

pub returns-in_default : goal.returns-in_default
returns-in_default c =
    let here = (goal.at.returns-in_default c).After-cut_line-line in
    let at = (goal.at.returns-in_default c).At-loop-so_far in
    line-last (step-at at) (end-at at) (section-at at) c.args.m c.args.head.now c.loop-so_far.at c.loop-so_far.so_far c.loop-so_far.head c.loop-so_far.invariant (line_at here) (others-at here) (cut here) _ _ _
    (does_same _ _ _ read_content_line _ _ _ _ (lengths_kept _ _ _ _ c.loop-so_far.invariant.kept) (part_is c.loop-so_far.at c.cut_line-line.result.end (section-at at)) c.in_ok-so_far.ensures)
    (content_line_valid _) (ok_number _)
    (no_others _ _ _ _ c.cut_line-line.ensures c.in_default.is)

-- the place behind a line that others follow
next : (c : After-cut_line-line) (n : ℕ) → c.cut_line-line.result.next ≡ Some n
    → (c.loop-so_far.at + n ≤ length (section-at (goal.at.After-cut_line-line c).At-loop-so_far)) × (0 < n)
next c n h = next_within c.crlf_lines-crlf.result (section-at (goal.at.After-cut_line-line c).At-loop-so_far) c.loop-so_far.at c.cut_line-line.result c.cut_line-line.ensures c.loop-so_far.invariant.place n h

pub overflow_add-at : goal.overflow_add-at
overflow_add-at c =
    let at = (goal.at.overflow_add-at c).After-cut_line-line in
    record { fits = omega (arith, end at, next at _ c.in-Some.is) }

pub loop-so_far-smaller : goal.loop-so_far-smaller
loop-so_far-smaller c =
    omega (arith, next (goal.at.loop-so_far-smaller c).After-cut_line-line _ c.in-Some.is)

pub loop-so_far-preserved : goal.loop-so_far-preserved
loop-so_far-preserved c =
    let here = (goal.at.loop-so_far-preserved c).After-cut_line-line in
    let at = (goal.at.loop-so_far-preserved c).At-loop-so_far in
    line-next (step-at at) (end-at at) (section-at at) c.args.m c.args.head.now c.loop-so_far.at c.loop-so_far.so_far c.loop-so_far.head c.loop-so_far.invariant (line_at here) (others-at here) (cut here) _ _ _
    (does_same _ _ _ read_content_line _ _ _ _ (lengths_kept _ _ _ _ c.loop-so_far.invariant.kept) (part_is c.loop-so_far.at c.cut_line-line.result.end (section-at at)) c.in_ok-so_far.ensures)
    (content_line_valid _) (ok_number _) _
    (next here _ c.in-Some.is).0
    c.read_content_line.auto.head
    (more_others _ _ _ _ c.cut_line-line.ensures _ c.in-Some.is)
