-- `roundtrip::late_loss` meets its contract: the clauses one by one. Assumes nothing.
use mathlib.Core.Path.{sym, ◌∙◌}
use Rattle.std.proofs.Common.{Some, None}
use Rattle.format.specs.Demand3.{clear_content}
use Rattle.roundtrip.specs.Clauses.{as_entry}
use Rattle.roundtrip.specs.Loss.{told}
use Rattle.roundtrip.proofs.CountPassing.{clear_contents}
use Rattle.roundtrip.proofs.Halves.{a_name, a_content, the_type, late_none}
use Rattle.roundtrip.proofs.late_loss.Goals as goal

pub returns-in-Some : goal.returns-in-Some
unfolding told
returns-in-Some c = λ xs ys lx ly. a_name c.args.manner xs ys c.args.kind.now _ (c.in-Some.ensures xs lx)

pub returns-in-Some-first_failing : goal.returns-in-Some-first_failing
unfolding told
returns-in-Some-first_failing c =
    let args = c.args in
    λ xs ys lx ly. a_content args.manner xs ys args.kind.now (c.in_default.ensures xs lx) _
    (clear_contents ys args.contents.bytes.now args.contents.count ly (Some c.in-Some-first_failing.entry) (c.in-Some-first_failing.ensures _ (record { says = λ e b h. h.1 })))

pub returns-then-not-clear_ends : goal.returns-then-not-clear_ends
unfolding told
returns-then-not-clear_ends c =
    let args = c.args in
    λ xs ys lx ly. the_type args.manner xs ys args.kind.now (c.in_default.ensures xs lx)
    (clear_contents ys args.contents.bytes.now args.contents.count ly None (c.in_default-first_failing.ensures (λ e. clear_content (as_entry e)) (record { says = λ e b h. h.1 })))
    (sym c.clear_ends.ensures ∙ c.if-not-clear_ends.true)

pub returns : goal.returns
unfolding told
returns c =
    let args = c.args in
    λ xs ys lx ly. late_none args.manner xs ys args.kind.now (c.in_default.ensures xs lx)
    (clear_contents ys args.contents.bytes.now args.contents.count ly None (c.in_default-first_failing.ensures (λ e. clear_content (as_entry e)) (record { says = λ e b h. h.1 })))
    (sym c.clear_ends.ensures ∙ c.if-not-clear_ends.false)
