-- `report::telling::put_subject` meets its contract: a header, a content header, or nothing. Assumes nothing.
use mathlib.Core.Path.{sym, ap, ◌∙◌}
use mathlib.Core.Option.{Option}
use native.Mathlib.Omega.{arith}
use Rattle.format.specs.Bytes.{Bytes, ascii}
use Rattle.output.proofs.Puts.{puts_as}
use Rattle.report.specs.Words.{entry_words}
use Rattle.report.specs.Telling.{subject}
use Rattle.report.proofs.EntryNames.{header_near, content_near}
use Rattle.report.proofs.TellingCases.{of_header_lem, of_content_lem, of_none}
use Rattle.report.proofs.telling.put_subject.Goals as goal

pub put_entry_words-requires : goal.put_entry_words-requires
put_entry_words-requires c =
    (omega (arith, c.requires.0), header_near c.args.m c.args.head.now c.requires.1 c.args.entry _ c.header_name.ensures)

pub returns-then-of_header : goal.returns-then-of_header
returns-then-of_header c =
    let args = c.args in
    λ k held.
    puts_as (subject k args.clause args.entry) 829
    (ap (λ (o : Option Bytes). entry_words (ascii "header ") args.entry o) (c.header_name.ensures k held) ∙ of_header_lem k args.clause args.entry (sym c.of_header.ensures ∙ c.if-of_header.true)) (omega arith)
    c.put_entry_words.ensures

pub put_entry_words-requires-then-of_content : goal.put_entry_words-requires-then-of_content
put_entry_words-requires-then-of_content c =
    (omega (arith, c.requires.0), content_near c.args.m c.args.head.now c.requires.1 c.args.entry _ c.content_name.ensures)

pub returns-then-of_content : goal.returns-then-of_content
returns-then-of_content c =
    let args = c.args in
    λ k held.
    puts_as (subject k args.clause args.entry) 829
    (ap (λ (o : Option Bytes). entry_words (ascii "content header ") args.entry o) (c.content_name.ensures k held) ∙ of_content_lem k args.clause args.entry (sym c.of_header.ensures ∙ c.if-of_header.false) (sym c.of_content.ensures ∙ c.if-of_content.true)) (omega arith)
    c.put_entry_words-then-of_content.ensures

pub returns-else-of_content : goal.returns-else-of_content
returns-else-of_content c =
    let args = c.args in
    λ k held.
    of_none k args.clause args.entry (sym c.of_header.ensures ∙ c.if-of_header.false) (sym c.of_content.ensures ∙ c.if-of_content.false) args.at args.out.now
