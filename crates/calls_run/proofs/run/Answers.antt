-- `calls_run::run` meets its contract. The invariant: a run of the calls left, from where those before have led to, is a run of all (`Leads`).
-- Assumes nothing.
use mathlib.Core.Path.{refl, ◌∙◌}
use native.Mathlib.Omega.{arith}
use Rattle.format.proofs.Messages.Runs.{run_held}
use Rattle.calls_script.proofs.CallsIn.{calls_stop, calls_next}
use Rattle.calls_run.proofs.RunLoop.{leads_end, leads_on}
use Rattle.calls_run.proofs.run.Goals as goal

pub loop-next-init : goal.loop-next-init
loop-next-init c = (omega arith, refl, refl, λ u q. q)

pub call_end-requires : goal.call_end-requires
call_end-requires c = c.loop-next.invariant.0

pub run_call-so_far-requires : goal.run_call-so_far-requires
run_call-so_far-requires c =
    let n = calls_next c.args.script.now c.loop-next.at _ c.in-Some.ensures in
    record { within = n.within; whole = n.whole }

pub loop-next-smaller : goal.loop-next-smaller
loop-next-smaller c =
    let n = calls_next c.args.script.now c.loop-next.at _ c.in-Some.ensures in
    omega (arith, n.place, n.later)

pub loop-next-preserved : goal.loop-next-preserved
loop-next-preserved c =
    let n = calls_next c.args.script.now c.loop-next.at _ c.in-Some.ensures in
    let called = c.run_call-so_far in (
      n.place,
      called.auto.head ∙ c.loop-next.invariant.1,
      called.auto.body ∙ c.loop-next.invariant.2,
      leads_on _ _ _ _ c.loop-next.invariant.3 _ _ _ n.calls called.ensures,
    )

pub returns : goal.returns
returns c =
    let run = leads_end _ _ _ _ c.loop-next.invariant.3 (calls_stop c.args.script.now c.loop-next.at c.in_default.ensures) in
    record { run = run; held = λ k h. run_held _ _ k _ h run }
