-- `report::words::put_condition` meets its contract. Assumes nothing.
use mathlib.Core.Path.{ap}
use native.Mathlib.Omega.{arith}
use lib.ListN.{length}
use Rattle.format.specs.Refusals.{table}
use Rattle.format.specs.Told.{meant}
use Rattle.output.proofs.Puts.{puts, puts_as}
use Rattle.report.specs.Words.{condition}
use Rattle.report.proofs.WordRows.{condition_short}
use Rattle.report.proofs.words.put_condition.Goals as goal

pub put-requires : goal.put-requires
put-requires c = omega (arith, ap length c.condition.ensures, condition_short (table (meant c.args.refusal)).number, c.requires)

pub returns : goal.returns
returns c =
    puts_as (condition (table (meant c.args.refusal)).number) 80 c.condition.ensures (omega arith)
    (puts c.condition.result.now 80 (omega (arith, ap length c.condition.ensures, condition_short (table (meant c.args.refusal)).number)) (c.put.ensures.place, c.put.ensures.bytes))
