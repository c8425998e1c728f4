-- Two sets of rules for `simp`: `tests` takes tests apart that are joined by `&&`, `checks` the steps of a `do` block. Each rule says
-- what an equation amounts to, and serves both ways:
--     simp tests at h                   what h says, by place: .0, .1 .0, .1 .1
--     omega (arith, simp tests at h)    a fact about numbers, or a record of such facts
--     search (simp tests at h)          a record of what h says
--     simp tests t                      the tests, where t proves what they say
-- A test that is an abbreviation is seen through; where it has to stay whole, `and_left` and `and_right` serve. Assumes nothing.
use Prim.Native.Nat.{ℕ, ◌≤◌, ◌<◌}
use mathlib.Core.Path.{◌≡◌, ap, ◌∙◌}
use mathlib.Core.Bool.{Bool, true, false, not, ◌&&◌, ◌||◌}
use mathlib.Core.Logic.{◌↔◌}
use lib.Dec.{leb, eqb}
use borrow.Author.Tests.{leb-true, leb-false, le-leb, lt-leb, eqb-true, eq-eqb, not-true, not-false}
use Rattle.format.specs.Refusals.{Refusal, Out, accepted, Check, refuse_if, at_most, passes, ◌>>◌, ◌>>=◌}
use Rattle.format.proofs.Lists.{and_left, and_right, and_intro, or_false_left, or_false_right}
use Rattle.format.proofs.Steps.{then_accepted, then_passes, then_passed, bind_accepted, bind_passed, refuse_if_passes, refuse_if_passed, at_most_passes, at_most_passed}

-- both of two tests
pub and_says : (a b : Bool) → ((a && b) ≡ true) ↔ ((a ≡ true) × (b ≡ true))
and_says a b = (λ h. (and_left a b h, and_right a b h), λ p. and_intro a b p.0 p.1)

-- a number at most another; `ltb m n` is `leb (suc m) n`
pub leb_says : (m n : ℕ) → (leb m n ≡ true) ↔ (m ≤ n)
leb_says m n = (leb-true m n, le-leb m n)

pub eqb_says : (m n : ℕ) → (eqb m n ≡ true) ↔ (m ≡ n)
eqb_says m n = (eqb-true m n, eq-eqb m n)

-- a test that has to fail, and one that does not
pub not_says : (b : Bool) → (not b ≡ true) ↔ (b ≡ false)
not_says b = (not-true b, ap not)

pub not_fails : (b : Bool) → (not b ≡ false) ↔ (b ≡ true)
not_fails b = (not-false b, ap not)

-- neither of two tests
pub or_fails : (a b : Bool) → ((a || b) ≡ false) ↔ ((a ≡ false) × (b ≡ false))
or_fails a b = (λ h. (or_false_left a b h, or_false_right a b h), λ p. rw p.0 p.1)

pub leb_fails : (m n : ℕ) → (leb m n ≡ false) ↔ (n < m)
leb_fails m n = (leb-false m n, lt-leb m n)

-- one check after another
pub then_says : (x y : Check) → (passes (◌>>◌ x y) ≡ true) ↔ ((passes x ≡ true) × (passes y ≡ true))
then_says x y = (then_passes x y, λ p. ap passes (then_passed x y p.0) ∙ p.1)

pub refuse_if_says : (t : Bool) (r : Refusal) → (passes (refuse_if t r) ≡ true) ↔ (t ≡ false)
refuse_if_says t r = (refuse_if_passes t r, refuse_if_passed t r)

pub at_most_says : (limit : ℕ) (r : ℕ → Refusal) (n : ℕ) → (passes (at_most limit r n) ≡ true) ↔ (n ≤ limit)
at_most_says limit r n = (at_most_passes limit r n, at_most_passed limit r n)

-- a check, or a step that hands on what it gives, before what is accepted
pub then_accepts : {B : Type 0} (x : Check) (k : Out B) (b : B) → (◌>>◌ x k ≡ accepted b) ↔ ((passes x ≡ true) × (k ≡ accepted b))
then_accepts x k b = (λ h. ((then_accepted x k b h).1, (then_accepted x k b h).0), λ p. then_passed x k p.0 ∙ p.1)

pub bind_accepts : {A B : Type 0} (x : Out A) (f : A → Out B) (b : B)
    → (◌>>=◌ x f ≡ accepted b) ↔ ((a : A) × (x ≡ accepted a) × (f a ≡ accepted b))
bind_accepts x f b = (bind_accepted x f b, λ p. bind_passed x f p.0 p.1 ∙ p.2)

-- for tests of numbers, negated or joined
pub ruleset tests = (and_says, or_fails, not_says, not_fails, leb_says, leb_fails, eqb_says)

-- for a `do` block that passes, or is accepted
pub ruleset checks = (then_says, refuse_if_says, not_fails, at_most_says, then_accepts, bind_accepts)
