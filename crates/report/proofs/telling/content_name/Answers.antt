-- `report::telling::content_name` meets its contract. Assumes nothing.
use mathlib.Core.Option.{some}
use Rattle.format.specs.Layout.{message}
use Rattle.report.proofs.EntryNames.{content_none, content_some}
use Rattle.report.proofs.telling.content_name.Goals as goal

pub returns-in_err-header : goal.returns-in_err-header
returns-in_err-header c =
    rw c.from_residual.ensures (λ k held. content_none c.args.n k (c.in_err-header.ensures (some k) (message held)))

pub returns : goal.returns
returns c = λ k held. content_some c.args.n c.in_ok-header.header k (c.in_ok-header.ensures (some k) (message held))
