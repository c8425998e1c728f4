use mathlib.Core.Bool.{Bool}
use Rattle.format.specs.Bytes.{Bytes}
use Rattle.store_entries.specs.Passing.{Tests}
use Rattle.store_entries.proofs.EntryWalk.{First, Walk}
use Rattle.store_entries.proofs.groups.pass.Given as goal

abbrev pub invariant-loop-many : goal.invariant-loop-many
invariant-loop-many g l = record {
  first : First l.s l.from l.count l.count l.size l.many;
  walk : (p : Bytes → Bool) → Tests g.F.Fn l.passes p → Walk (λ e. p e.name) l.s l.from l.count l.size l.many;
}
