-- `read_header_line::parts::params_of` meets its contract. Assumes nothing.
use mathlib.Core.Path.{◌≡◌, refl, sym, ap, ◌∙◌}
use lib.ListN.{length}
use Rattle.format.specs.Bytes.{space, up_to}
use Rattle.format.specs.declared.Manner.{Manner}
use Rattle.octets.proofs.Find.{found_up_to}
use Rattle.read_header_line.specs.HeaderLine.{space_by}
use Rattle.read_header_line.proofs.LineSteps.{found_length}
use Rattle.read_header_line.proofs.parts.params_of.Goals as goal
use Rattle.read_header_line.proofs.parts.params_of.Goals.{In-Rfc}

-- the place of the first space
found : (c : In-Rfc) → c.args.at ≡ length (up_to space c.args.right.now)
found c = c.requires ∙ ap (λ (r : Manner). space_by r c.args.right.now) c.in-Rfc.is

pub slice_bounds-result-end : goal.slice_bounds-result-end
slice_bounds-result-end c = found_length _ _ _ (found (goal.at.slice_bounds-result-end c).In-Rfc)

pub returns-in-Source : goal.returns-in-Source
returns-in-Source c = rw c.in-Source.is refl

pub returns-in-Rfc : goal.returns-in-Rfc
returns-in-Rfc c =
    rw c.in-Rfc.is
    (sym (found_up_to space c.args.right.now c.args.at (found (goal.at.returns-in-Rfc c).In-Rfc)))
