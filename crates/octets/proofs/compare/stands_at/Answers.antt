-- `octets::compare::stands_at` meets its contract: the pattern stands there if the rest of it does j bytes on. Assumes nothing.
use mathlib.Core.Path.{refl, sym, ap, ◌∙◌}
use mathlib.Core.List.{map}
use Prim.Native.Nat.{ℕ, ◌+◌}
use native.Mathlib.Nat.{add-zero, add_assoc}
use native.Mathlib.Omega.{arith}
use lib.ListN.{drop, length-map}
use Rattle.format.specs.Bytes.{begins, lower}
use Rattle.octets.proofs.Comparing.{begins_step, begins_differs, begins_end, lower_at}
use Rattle.octets.proofs.compare.stands_at.Goals as goal

pub loop-j-init : goal.loop-j-init
loop-j-init c = simp add-zero refl

pub returns-then-lower-p : goal.returns-then-lower-p
returns-then-lower-p c =
    let text = c.args.text.now in
    let pattern = c.args.pattern.now in
    let at = c.args.at in
    let j = c.loop-j.j in
    sym
    (c.loop-j.invariant
    ∙ begins_differs pattern (map lower text) j (at + j) (omega arith) (simp length-map (omega arith)) (λ e. c.if-lower-p.true (c.lower.ensures ∙ sym (lower_at text (at + j)) ∙ e)))

pub loop-j-preserved : goal.loop-j-preserved
loop-j-preserved c =
    let text = c.args.text.now in
    let pattern = c.args.pattern.now in
    let at = c.args.at in
    let j = c.loop-j.j in
    c.loop-j.invariant
    ∙ begins_step pattern (map lower text) j (at + j) (omega arith) (simp length-map (omega arith)) (lower_at text (at + j) ∙ sym c.lower.ensures ∙ c.if-lower-p.false)
    ∙ ap (λ (k : ℕ). begins (drop (j + 1) pattern) (drop k (map lower text))) (add_assoc at j 1)

pub returns : goal.returns
returns c =
    let args = c.args in
    sym (c.loop-j.invariant ∙ begins_end args.pattern.now (drop (args.at + c.loop-j.j) (map lower args.text.now)) c.loop-j.j (omega arith))
