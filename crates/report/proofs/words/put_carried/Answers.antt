-- `report::words::put_carried` meets its contract. Assumes nothing.
use native.Mathlib.Omega.{arith}
use Rattle.report.proofs.WordParts.{none_carried, carried_put}
use Rattle.report.proofs.words.put_carried.Goals as goal

pub returns-then-carried-eq0 : goal.returns-then-carried-eq0
returns-then-carried-eq0 c = none_carried c.args.at c.args.carried c.args.out.now c.if-carried-eq0.true

pub returns : goal.returns
returns c =
    carried_put c.args.carried c.if-carried-eq0.false (omega (arith, c.requires)) (c.put-to.ensures.place, c.put-to.ensures.bytes) c.put_decimal-to.ensures (c.put.ensures.place, c.put.ensures.bytes)
