-- `report::put_text` meets its contract: the parts of a line, one behind another. Assumes nothing.
use Prim.Native.Nat.{◌≤◌}
use native.Mathlib.Omega.{arith}
use lib.ListN.{length}
use Rattle.format.specs.Escaping.{escape}
use Rattle.format.proofs.Escaping.Escape.{escape_length}
use Rattle.output.proofs.Puts.{puts}
use Rattle.report.proofs.ShownLines.{line_put}
use Rattle.report.proofs.put_text.Goals as goal

pub escape_header_value-end-requires : goal.escape_header_value-end-requires
escape_header_value-end-requires c =
    omega (arith, escape_length c.args.s.now, c.requires.0, c.requires.1)

pub put_byte-requires : goal.put_byte-requires
put_byte-requires c =
    omega (arith, escape_length c.args.s.now, c.requires.0, c.requires.1, c.escape_header_value-end.ensures.placed)

pub returns : goal.returns
returns c =
    let args = c.args in
    let l : length (escape args.s.now) ≤ 1536 = omega (arith, escape_length args.s.now, c.requires.1) in
    line_put args.label.now (escape args.s.now) 1536 (omega arith) (c.put-end.ensures.place, c.put-end.ensures.bytes) (c.put_byte-end.ensures.place, c.put_byte-end.ensures.bytes) (puts (escape args.s.now) 1536 l (c.escape_header_value-end.ensures.placed, c.escape_header_value-end.ensures.wrote)) (c.put_byte.ensures.place, c.put_byte.ensures.bytes)
