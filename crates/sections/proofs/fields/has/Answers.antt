-- `sections::fields::has` meets its contract: a place before the end is that of the byte. Assumes nothing.
use mathlib.Core.Path.{sym}
use Rattle.octets.proofs.Find.{found_has}
use Rattle.sections.proofs.fields.has.Goals as goal

pub returns : goal.returns
returns c = sym (found_has c.args.c c.args.s.now c.find_byte.result c.find_byte.ensures)
