-- `output::put_byte` meets its contract. Assumes nothing.
use mathlib.Core.Path.{refl}
use Rattle.octets.proofs.Paste.{pasted_one}
use Rattle.output.proofs.put_byte.Goals as goal

pub returns : goal.returns
returns c = record { place = refl; bytes = pasted_one c.args.at c.args.b c.args.out.now c.requires }
