-- Checks in the code and in the definitions: whether one passes; in a chain one that is turned away is the answer, one that passes leaves it to
-- the rest. Assumes nothing.
use Rattle.std.specs.Prelude.{Result, Ok, Err, is_ok}
use Rattle.std.specs.Result.{IsErrAnd}
use Rattle.std.proofs.lemmas.Result.{err_from_is_err_and}
use Prim.Native.Nat.{ℕ, ◌≤◌}
use mathlib.Core.Path.{◌≡◌, refl, sym, ap, ◌∙◌}
use mathlib.Core.Bool.{Bool, true, false}
use lib.Dec.{ltb}
use borrow.Author.Tests.{ltb-false}
use Rattle.format.specs.Refusals.{Out, refused, table, Check, refuse_if, passes, ◌>>◌}
use Rattle.format.specs.Refusals as paper
use Rattle.format.specs.Told.{meant, checked, told}
use Rattle.format.specs.declared.refusal.Refusal.{Refusal}

pub ok_passes : {A : Type 0} (r : Result A Refusal) → is_ok r ≡ passes (checked r)
unfolding checked passes
ok_passes (Ok a) = refl
ok_passes (Err r) = refl

-- what a check that passes says, and one that refuses
pub passed : {u : Unit {0}} (x : Check) → checked (Ok u) ≡ x → passes x ≡ true
unfolding checked passes
passed x h = ap passes (sym h)

pub let_by : {u : Unit {0}} (t : Bool) (r : paper.Refusal) → checked (Ok u) ≡ refuse_if t r → t ≡ false
unfolding checked refuse_if
let_by true r h = absurd (cc)
let_by false r h = refl

pub within : {u : Unit {0}} (m n : ℕ) (r : paper.Refusal) → checked (Ok u) ≡ refuse_if (ltb m n) r → n ≤ m
within m n r h = ltb-false m n (let_by (ltb m n) r h)

pub stopped : (e : Refusal) (t : Bool) (r : paper.Refusal) → checked {A = Unit {0}} (Err e) ≡ refuse_if t r → t ≡ true
unfolding checked refuse_if
stopped e true r h = refl
stopped e false r h = absurd (cc)

pub told_by : (A : Type 0) (e : Refusal) (t : Bool) (r : paper.Refusal) → checked {A = Unit {0}} (Err e) ≡ refuse_if t r → told {A = A} (Err e) ≡ table r
unfolding checked told refuse_if
told_by A e true r h =
    let same : meant e ≡ r = cc in
    ap table same
told_by A e false r h = absurd (cc)

-- a call that hands a refusal on by a `?`
pub handed_on : {A : Type 0} {e : Refusal} (q : Result A Refusal) → IsErrAnd q (λ d. d ≡ e) → q ≡ Err e
handed_on q s =
    let p = err_from_is_err_and q s in
    p.1 ∙ ap (λ (d : Refusal). Err d) p.2

module _ (A : Type 0) where
  pub err_alone : (r : Refusal) → checked {A = A} (Err r) ≡ refused (meant r)
  unfolding checked
  err_alone r = refl

  module _ {B : Type 0} (k : Out B) where
    pub ok_first : (a : A) → ◌>>◌ (checked {A = A} (Ok a)) k ≡ k
    unfolding ◌>>◌ checked
    ok_first a = refl

    pub err_first : (r : Refusal) → ◌>>◌ (checked {A = A} (Err r)) k ≡ refused (meant r)
    unfolding ◌>>◌ checked
    err_first r = refl

pub ruleset chains = (ok_first, err_first, err_alone)
