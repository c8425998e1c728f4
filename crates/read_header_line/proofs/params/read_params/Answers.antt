-- `read_header_line::params::read_params` meets its contract. Assumes nothing.
use native.Mathlib.Omega.{arith}
use Rattle.read_header_line.specs.HeaderLine.{param_reader}
use Rattle.read_header_line.proofs.Gathering.{none_stands, behind_utf8, behind_read}
use Rattle.read_header_line.proofs.params.read_params.Goals as goal

pub returns-then-front-stop : goal.returns-then-front-stop
returns-then-front-stop c =
    none_stands c.args.front.now c.args.stop c.requires.stops (param_reader c.args.manner) _ (omega arith) c.none_read.ensures

pub read_param_parts-requires : goal.read_param_parts-requires
read_param_parts-requires c = record { enough = c.requires.enough; text = behind_utf8 c.args.front.now c.args.stop c.requires.stops c.requires.text }

pub returns : goal.returns
returns c =
    behind_read c.args.front.now c.args.stop c.requires.stops (param_reader c.args.manner) _ (omega arith) c.read_param_parts.ensures
