-- `read::section_lines::header_line` meets its contract: an empty line leaves all as it was, any other is read. Assumes nothing.
use mathlib.Core.Path.{sym, ◌∙◌}
use borrow.Author.Tests.{eqb-true, eqb-false}
use Rattle.format.specs.ReadingRfc.{line_reader}
use Rattle.format.specs.Told.{told}
use Rattle.read.proofs.HeaderSectionLine.{line_empty, line_filled}
use Rattle.read.proofs.section_lines.header_line.Goals as goal

pub returns-then-is_empty : goal.returns-then-is_empty
unfolding told
returns-then-is_empty c =
    λ k held. line_empty (line_reader c.args.manner) c.args.m c.args.head.now c.args.line.now k held (eqb-true _ 0 (sym c.is_empty.ensures ∙ c.if-is_empty.true))

pub returns : goal.returns
returns c =
    λ k held. line_filled (line_reader c.args.manner) _ _ _ _ c.args.line.now k (eqb-false _ 0 (sym c.is_empty.ensures ∙ c.if-is_empty.false)) (c.read_header_line.ensures k held)
