-- `roundtrip::clauses::has_space` meets its contract: a place before the end is that of the byte. Assumes nothing.
use mathlib.Core.Path.{sym}
use Rattle.format.specs.Bytes.{space}
use Rattle.octets.proofs.Find.{found_has}
use Rattle.roundtrip.proofs.clauses.has_space.Goals as goal

pub returns : goal.returns
returns c = sym (found_has space c.args.text.now c.find_byte.result c.find_byte.ensures)
