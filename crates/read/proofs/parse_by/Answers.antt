-- `read::parse_by` meets its contract: a refused reading leaves zeros in both stores. Assumes nothing.
use mathlib.Core.Path.{sym, ◌∙◌}
use Rattle.format.specs.ReadingRfc.{line_reader}
use Rattle.read.proofs.Endings.{zeros_kept, whole_refused_by}
use Rattle.read.proofs.parse_by.Goals as goal

pub returns-then-is_err : goal.returns-then-is_err
returns-then-is_err c =
    let read = c.read_both-done in
    whole_refused_by (line_reader c.args.manner) c.args.text.now c.args.head.now _ (zeros_kept read.new.head c.args.head.now _ read.auto.head c.zero_fill.ensures)
    c.args.body.now _ (zeros_kept read.new.body c.args.body.now _ read.auto.body c.zero_fill-then-is_err.ensures)
    read.result (sym c.is_err.ensures.value ∙ c.if-is_err.true) read.ensures.answered
