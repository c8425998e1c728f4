-- `read_header_line::params::read_param_parts` meets its contract. Assumes nothing.
use mathlib.Core.Path.{refl}
use mathlib.Core.List.{[]}
use native.Mathlib.Omega.{arith}
use Rattle.read_header_line.specs.HeaderLine.{param_reader}
use Rattle.octets.proofs.Find.{found_within}
use Rattle.read_header_line.proofs.Yielding.{given}
use Rattle.read_header_line.proofs.ParamTurns.{Turn, blank_stands, part_utf8, rest_utf8, refused_there, ends_there, goes_on}
use Rattle.read_header_line.proofs.params.read_param_parts.Goals as goal
use Rattle.read_header_line.proofs.params.read_param_parts.Goals.{After-split_at}

pub loop-h-init : goal.loop-h-init
loop-h-init c = rw c.none_read-h.ensures (refl, c.requires.text, [], blank_stands c.args.room.now _ c.copy_at.ensures, refl)

pub split_at-requires : goal.split_at-requires
split_at-requires c = omega (arith, found_within 59 c.loop-h.rest.now c.find_byte.result c.find_byte.ensures)

turn : (c : After-split_at) → Turn c.loop-h.rest.now c.split_at.result.0.now c.split_at.result.1.now
turn c = record { k = c.find_byte.result; found = c.find_byte.ensures; front = c.split_at.ensures.front; back = c.split_at.ensures.back }

pub read_param-requires : goal.read_param-requires
read_param-requires c = record {
  standing = (c.loop-h.invariant.2, c.loop-h.invariant.3);
  enough = omega (arith, c.loop-h.invariant.0);
  text = part_utf8 (turn (goal.at.read_param-requires c).After-split_at) c.loop-h.invariant.1;
}

pub returns-in_err-h : goal.returns-in_err-h
returns-in_err-h c =
    let i = c.loop-h.invariant in
    refused_there (turn (goal.at.returns-in_err-h c).After-split_at) (param_reader c.args.manner) i.2 _ i.4 (c.in_err-h.ensures i.2 i.3) _ c.from_residual.ensures.1

pub returns-in_default : goal.returns-in_default
returns-in_default c =
    let i = c.loop-h.invariant in
    ends_there (turn (goal.at.returns-in_default c).After-split_at) (param_reader c.args.manner) i.2 _ i.4 (omega arith) (c.in_ok-h.ensures i.2 i.3)

pub loop-h-preserved : goal.loop-h-preserved
loop-h-preserved c =
    let i = c.loop-h.invariant in
    let t = turn (goal.at.loop-h-preserved c).After-split_at in
    let g = given (c.in_ok-h.ensures i.2 i.3) in
    (omega arith, rest_utf8 t i.1, g.0, g.2, goes_on t (param_reader c.args.manner) i.2 _ i.4 (omega arith) g.0 g.1)
