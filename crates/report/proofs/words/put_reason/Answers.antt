-- `report::words::put_reason` meets its contract. Assumes nothing.
use mathlib.Core.Path.{ap}
use native.Mathlib.Omega.{arith}
use lib.ListN.{length}
use Rattle.output.proofs.Puts.{puts, puts_as}
use Rattle.report.specs.Words.{reason}
use Rattle.report.proofs.WordRows.{reason_short}
use Rattle.report.proofs.words.put_reason.Goals as goal

pub put-requires : goal.put-requires
put-requires c = omega (arith, ap length c.reason.ensures, reason_short c.args.clause, c.requires)

pub returns : goal.returns
returns c =
    puts_as (reason c.args.clause) 80 c.reason.ensures (omega arith)
    (puts c.reason.result.now 80 (omega (arith, ap length c.reason.ensures, reason_short c.args.clause)) (c.put.ensures.place, c.put.ensures.bytes))
