-- `report::put_number` meets its contract: the parts of a line, one behind another. Assumes nothing.
use native.Mathlib.Omega.{arith}
use Rattle.format.specs.Showing.{decimal}
use Rattle.report.proofs.ShownLines.{line_put}
use Rattle.report.proofs.put_number.Goals as goal

pub returns : goal.returns
returns c =
    line_put c.args.label.now (decimal c.args.n) 20 (omega arith) (c.put-to.ensures.place, c.put-to.ensures.bytes) (c.put_byte-to.ensures.place, c.put_byte-to.ensures.bytes) c.put_decimal-to.ensures (c.put_byte.ensures.place, c.put_byte.ensures.bytes)
