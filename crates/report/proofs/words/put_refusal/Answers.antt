-- `report::words::put_refusal` meets its contract. Assumes nothing.
use mathlib.Core.Path.{sym}
use Rattle.format.specs.Refusals.{table}
use Rattle.format.specs.Told.{meant}
use Rattle.report.proofs.WordParts.{refusal_put}
use Rattle.report.proofs.words.put_refusal.Goals as goal

pub returns : goal.returns
returns c =
    refusal_put (table (meant c.args.refusal)).number (table (meant c.args.refusal)).carried (c.put-to.ensures.place, c.put-to.ensures.bytes) (rw (sym c.from-number.ensures) c.put_decimal-to.ensures) (c.put-to-2.ensures.place, c.put-to-2.ensures.bytes) c.put_condition-to.ensures (rw (sym c.from-number.ensures) c.put_carried.ensures)
