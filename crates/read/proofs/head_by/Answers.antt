-- `read::head_by` meets its contract: a refused reading leaves zeros. Assumes nothing.
use mathlib.Core.Path.{sym, ◌∙◌}
use Rattle.format.specs.ReadingRfc.{line_reader}
use Rattle.read.proofs.Endings.{zeros_kept, head_refused_by}
use Rattle.read.proofs.head_by.Goals as goal

pub returns-then-is_err : goal.returns-then-is_err
returns-then-is_err c =
    let read = c.read_head-read in
    head_refused_by (line_reader c.args.manner) c.args.text.now c.args.head.now _ (zeros_kept read.new.head c.args.head.now _ read.auto.head c.zero_fill.ensures)
    read.result (sym c.is_err.ensures.value ∙ c.if-is_err.true) read.ensures.answered
