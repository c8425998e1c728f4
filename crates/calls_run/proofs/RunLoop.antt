-- The calls of a script, one by one: a run of those left, from where the calls so far have led to, is a run of all from the start.
-- Assumes nothing.
use mathlib.Core.Path.{◌≡◌, sym, subst}
use mathlib.Core.List.{List, [], ◌++◌}
use Rattle.format.specs.Calls.{Call}
use Rattle.format.specs.Runs.{State, Run, done}
use Rattle.calls_script.proofs.RunSteps.{run_on}

-- whatever the calls left lead to
abbrev pub Leads : State → List Call → State → List Call → Type 0
Leads s left start all = (u : State) → Run s left u → Run start all u

module _ (start s : State) (all left : List Call) (leads : Leads s left start all) where
  -- no call is left
  pub leads_end : left ≡ [] → Run start all s
  leads_end e = leads s (subst (λ (cs : List Call). Run s cs s) (sym e) done)

  -- the first of them has led on
  pub leads_on : (t : State) (first others : List Call) → left ≡ first ++ others → Run s first t → Leads t others start all
  leads_on t first others e run u q = leads u (subst (λ (cs : List Call). Run s cs u) (sym e) (run_on s t u first others run q))
