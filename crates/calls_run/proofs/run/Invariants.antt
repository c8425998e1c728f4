use mathlib.Core.Path.{◌≡◌}
use Prim.Native.Nat.{◌-◌, ◌≤◌}
use lib.ListN.{length, drop}
use Rattle.calls_script.specs.Script.{state, calls_in}
use Rattle.calls_run.proofs.RunLoop.{Leads}
use Rattle.calls_run.proofs.run.Given as goal

abbrev pub invariant-loop-next : goal.invariant-loop-next
invariant-loop-next l =
    (l.at ≤ length l.script) × (length l.head ≡ length l.initial.head) × (length l.body ≡ length l.initial.body) × Leads (state l.so_far l.head l.body) (calls_in (drop l.at l.script)) (state l.initial.so_far l.initial.head l.initial.body) (calls_in l.script)

abbrev pub decreases-loop-next : goal.decreases-loop-next
decreases-loop-next l = length l.script - l.at
