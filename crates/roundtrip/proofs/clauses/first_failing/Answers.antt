-- `roundtrip::clauses::first_failing` meets its contract. The invariant is `Walked`. Assumes nothing.
use mathlib.Core.Path.{sym, ap, ◌∙◌}
use native.Mathlib.Omega.{arith}
use Rattle.roundtrip.specs.Clauses.{Asks}
use Rattle.roundtrip.proofs.Walking.{walked_start, walked_end, walked_shaped, walked_numbers, walked_size, walked_among, walked_stop, walked_on}
use Rattle.roundtrip.proofs.clauses.first_failing.Goals as goal

pub loop-i-init : goal.loop-i-init
loop-i-init g c = walked_start (Asks g.F.Fn c.args.passes) c.args.entries.bytes.now c.args.entries.count c.requires.shaped

pub entry_at-requires : goal.entry_at-requires
entry_at-requires g c =
    let l = c.loop-i in
    walked_shaped (Asks g.F.Fn c.args.passes) c.args.entries.bytes.now c.args.entries.count l.at l.i l.invariant (omega arith)

pub passes-requires : goal.passes-requires
passes-requires g c =
    let l = c.loop-i in
    c.requires.callable _ (rw c.entry_at.ensures (walked_among (Asks g.F.Fn c.args.passes) c.args.entries.bytes.now c.args.entries.count l.at l.i l.invariant (omega arith)))

pub returns-then-not-passes : goal.returns-then-not-passes
returns-then-not-passes g c =
    let l = c.loop-i in
    λ p a. walked_stop (Asks g.F.Fn c.args.passes) c.args.entries.bytes.now c.args.entries.count l.at l.i l.invariant (omega arith) p a
    (ap p (sym c.entry_at.ensures) ∙ sym (a.says _ _ c.passes.ensures) ∙ c.if-not-passes.true)

pub entry_len-at-requires : goal.entry_len-at-requires
entry_len-at-requires g c =
    let l = c.loop-i in
    walked_numbers (Asks g.F.Fn c.args.passes) c.args.entries.bytes.now c.args.entries.count l.at l.i l.invariant (omega arith)

pub overflow_add-at : goal.overflow_add-at
overflow_add-at g c =
    let l = c.loop-i in
    omega (arith, walked_size (Asks g.F.Fn c.args.passes) c.args.entries.bytes.now c.args.entries.count l.at l.i l.invariant (omega arith), c.entry_len-at.ensures.0)

pub loop-i-preserved : goal.loop-i-preserved
loop-i-preserved g c =
    let l = c.loop-i in
    rw c.entry_len-at.ensures.0
    (walked_on (Asks g.F.Fn c.args.passes) c.args.entries.bytes.now c.args.entries.count l.at l.i l.invariant (omega arith)
    (λ p a. ap p (sym c.entry_at.ensures) ∙ sym (a.says _ _ c.passes.ensures) ∙ c.if-not-passes.false))

pub returns : goal.returns
returns g c =
    let l = c.loop-i in
    walked_end (Asks g.F.Fn c.args.passes) c.args.entries.bytes.now c.args.entries.count l.at l.i l.invariant (omega arith)
