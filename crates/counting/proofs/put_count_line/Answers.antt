-- `counting::put_count_line` meets its contract: the parts of a line, one behind another. Assumes nothing.
use native.Mathlib.Omega.{arith}
use Rattle.counting.proofs.CountLines.{count_line_put}
use Rattle.counting.proofs.put_count_line.Goals as goal

pub returns : goal.returns
returns c =
    let args = c.args in
    count_line_put args.n args.accepted args.refused (omega (arith, c.requires)) (c.put-to.ensures.place, c.put-to.ensures.bytes) c.put_decimal-to.ensures (c.put-to-2.ensures.place, c.put-to-2.ensures.bytes) c.put_decimal-to-2.ensures (c.put-to-3.ensures.place, c.put-to-3.ensures.bytes) c.put_decimal-to-3.ensures (c.put_byte.ensures.place, c.put_byte.ensures.bytes)
