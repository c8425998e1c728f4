-- `read_header_line::parts::name_of` meets its contract. Assumes nothing.
use mathlib.Core.Path.{refl}
use Rattle.read_header_line.proofs.LineSteps.{found_length}
use Rattle.read_header_line.proofs.LineParts.{name_is}
use Rattle.read_header_line.proofs.parts.name_of.Goals as goal

pub slice_bounds-trim-end : goal.slice_bounds-trim-end
slice_bounds-trim-end c = found_length _ _ _ (c.requires c.in-Source.is)

pub returns-in-Source : goal.returns-in-Source
returns-in-Source c =
    let told = c.in-Source.is in
    rw told (name_is c.args.left.now c.args.stop _ (c.requires told) c.trim.ensures)

pub returns-in-Rfc : goal.returns-in-Rfc
returns-in-Rfc c = rw c.in-Rfc.is refl
