-- `lookup::counts::count_contents` meets its contract. Assumes nothing.
use mathlib.Core.Path.{sym, ◌∙◌}
use Rattle.lookup.proofs.Counting.{none_contents, contents_counted}
use Rattle.lookup.proofs.counts.count_contents.Goals as goal

pub returns-then-message_holds : goal.returns-then-message_holds
returns-then-message_holds c =
    contents_counted c.args.m c.args.head.now (sym c.message_holds.ensures ∙ c.if-message_holds.true)

pub returns-else-message_holds : goal.returns-else-message_holds
returns-else-message_holds c =
    none_contents c.args.m c.args.head.now (sym c.message_holds.ensures ∙ c.if-message_holds.false)
