-- `read_header_line::parts::value_of` meets its contract. Assumes nothing.
use mathlib.Core.Path.{◌≡◌, sym, ap, ◌∙◌}
use Prim.Native.Nat.{◌+◌, ◌<◌}
use native.Mathlib.Omega.{arith}
use lib.ListN.{length}
use Rattle.format.specs.Bytes.{space, up_to}
use Rattle.format.specs.declared.Manner.{Manner}
use Rattle.format.proofs.Lists.{rest_is}
use Rattle.octets.proofs.Find.{found_past}
use Rattle.read_header_line.specs.HeaderLine.{space_by}
use Rattle.read_header_line.proofs.parts.value_of.Goals as goal
use Rattle.read_header_line.proofs.parts.value_of.Goals.{In-Rfc}

-- the space is there
inside : (c : In-Rfc) → c.args.at < length c.args.right.now
inside c = c.requires.1 c.in-Rfc.is

pub slice_bounds-result-count : goal.slice_bounds-result-count
slice_bounds-result-count c = omega (arith, inside (goal.at.slice_bounds-result-count c).In-Rfc)

pub slice_bounds-result-start : goal.slice_bounds-result-start
slice_bounds-result-start c = omega (arith, inside (goal.at.slice_bounds-result-start c).In-Rfc)

pub slice_bounds-result-end : goal.slice_bounds-result-end
slice_bounds-result-end c = omega (arith, inside (goal.at.slice_bounds-result-end c).In-Rfc)

pub returns-in-Source : goal.returns-in-Source
returns-in-Source c = rw c.in-Source.is c.trim.ensures

found : (c : In-Rfc) → c.args.at ≡ length (up_to space c.args.right.now)
found c = c.requires.0 ∙ ap (λ (r : Manner). space_by r c.args.right.now) c.in-Rfc.is

pub returns-in-Rfc : goal.returns-in-Rfc
returns-in-Rfc c =
    let args = c.args in
    rw c.in-Rfc.is
    (rest_is args.right.now (args.at + 1) ∙ sym (found_past space args.right.now args.at (found (goal.at.returns-in-Rfc c).In-Rfc)))
