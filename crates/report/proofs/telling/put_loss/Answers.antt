-- `report::telling::put_loss` meets its contract: nothing is lost, or something is. Assumes nothing.
use native.Mathlib.Omega.{arith}
use Rattle.store_check.proofs.HeldCases.{in_head}
use Rattle.report.proofs.TellingCases.{told_whole, told_lost}
use Rattle.report.proofs.telling.put_loss.Goals as goal

pub returns-then-clause-eq0 : goal.returns-then-clause-eq0
returns-then-clause-eq0 c = λ k held. told_whole k c.args.clause c.args.entry c.if-clause-eq0.true c.put_reason.ensures

pub put_reason-requires-2 : goal.put_reason-requires-2
put_reason-requires-2 c =
    omega (arith, c.requires.0, c.put_subject-to.auto.out, c.put-to.auto.out, c.put-to.ensures.place, (c.put_subject-to.ensures _ (in_head c.args.m c.args.head.now c.requires.1)).within)

pub returns : goal.returns
returns c = λ k held. told_lost k c.args.clause c.args.entry c.if-clause-eq0.false (c.put-to.ensures.place, c.put-to.ensures.bytes) (c.put_subject-to.ensures k held) c.put_reason-2.ensures
