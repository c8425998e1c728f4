-- One reader after another: a refusal is the answer of the whole, and what the first gives the next goes on with. Assumes nothing.
use Rattle.std.specs.Prelude.{Result, Ok, Err}
use Rattle.std.specs.Result.{IsErrAnd, result_unwrap_or}
use Rattle.std.proofs.lemmas.Result.{err_from_is_err_and}
use Prim.Native.Nat.{ℕ}
use mathlib.Core.Path.{◌≡◌, refl, sym, ap, ◌∙◌, subst}
use native.Mathlib.Omega.{arith}
use Rattle.format.specs.Refusals.{Out, accepted, refused, numbers, table, Check, ◌>>=◌, ◌>>◌}
use Rattle.format.specs.Message.{Message}
use Rattle.format.specs.Layout.{Lent}
use Rattle.format.specs.Lending.{leaves}
use Rattle.format.specs.Told.{told, meant, checked}
use Rattle.format.specs.declared.Numbers.{Numbers}
use Rattle.format.specs.declared.refusal.Refusal.{Refusal}
use Rattle.format.proofs.Steps.{accepted_same, refused_number, bind_passed}
use Rattle.message_edit.specs.Edits.{Does}
use Rattle.read_header_line.specs.Gathered.{Yields}

-- a result is one of two
pub ok_err : {R S : Type 0} (x : R) (e : Refusal) → ◌≡◌ {A = Result R Refusal} (Ok x) (Err e) → S
ok_err x e h = absurd (let z : ◌≡◌ {A = ℕ} 0 1 = cc in omega arith)

module _ {R A : Type 0} {o : Out A} {P : R → A → Type 0} where
  -- something given by both
  pub yields : {x : R} (a : A) → o ≡ accepted a → P x a → Yields (Ok x) o P
  unfolding told numbers
  yields {x} a e p = record {
    answered = sym (ap numbers e);
    there = λ y b h q. subst (λ (z : R). P z b) (let z : x ≡ y = cc in z) (subst (P x) (accepted_same a b (sym e ∙ q)) p);
  }

  -- a refusal by both
  pub refuses : (e : Refusal) → o ≡ refused (meant e) → Yields (Err e) o P
  unfolding told numbers
  refuses e q = record { answered = sym (ap numbers q); there = λ x a h z. ok_err x e (sym h) }

module _ {R A : Type 0} {o : Out A} {P : R → A → Type 0} {result : Result R Refusal} (y : Yields result o P) where
  -- the same answer, said otherwise
  pub yields_as : {p : Out A} → p ≡ o → Yields result p P
  yields_as e = subst (λ (q : Out A). Yields result q P) (sym e) y

  -- something else is there wherever this is
  pub yields_more : {Q : R → A → Type 0} → ((x : R) (a : A) → P x a → Q x a) → Yields result o Q
  yields_more f = record { answered = y.answered; there = λ x a h e. f x a (y.there x a h e) }

  -- nothing comes behind
  pub last : Yields result (◌>>=◌ o accepted) P
  unfolding ◌>>=◌
  last = go o y
    where
      go : (p : Out A) → Yields result p P → Yields result (◌>>=◌ p accepted) P
      go (accepted a) w = w
      go (refused r) w = w

-- What is given.
pub given : {R A : Type 0} {o : Out A} {P : R → A → Type 0} {x : R} → Yields (Ok x) o P → (a : A) × (o ≡ accepted a) × P x a
unfolding told numbers
given {R} {A} {o} {P} {x} y = go o y
  where
    go : (p : Out A) → Yields (Ok x) p P → (a : A) × (p ≡ accepted a) × P x a
    go (accepted a) w = (a, refl, w.there x a refl refl)
    go (refused r) w = absurd (refused_number r (sym (ap (λ (n : Numbers). n.number) w.answered)))

-- what the exit of a `?` gives
err_is : {S : Type 0} (q : Result S Refusal) {e : Refusal} → IsErrAnd q (λ d. d ≡ e) → q ≡ Err e
err_is q s = let p = err_from_is_err_and q s in p.1 ∙ ap (λ (d : Refusal). Err d) p.2

-- a refusal, as the answer of another
pub refusal : {S B : Type 0} {o : Out B} {Q : S → B → Type 0} (q : Result S Refusal) (e : Refusal) → IsErrAnd q (λ d. d ≡ e) → numbers o ≡ table (meant e) → Yields q o Q
unfolding told
refusal {S} {B} {o} {Q} q e s h = subst (λ (r : Result S Refusal). Yields r o Q) (sym (err_is q s)) (record { answered = sym h; there = λ x b z w. ok_err x e (sym z) })

pub does_refusal : {S : Type 0} {o : Out Message} {l j : Lent} (q : Result S Refusal) (e : Refusal) → IsErrAnd q (λ d. d ≡ e) → numbers o ≡ table (meant e) → leaves l o ≡ l → j ≡ l → Does l j (told q) o
unfolding told
does_refusal q e s h k z = record { answered = ap told (err_is q s) ∙ sym h; left = z ∙ sym k }

-- a call that is refused hands back what it was handed
pub handed_back : {S : Type 0} (q : Result S Refusal) (m : S) (e : Refusal) → IsErrAnd q (λ d. d ≡ e) → result_unwrap_or q m ≡ m
handed_back q m e s = ap (λ (r : Result _ Refusal). result_unwrap_or r m) (err_is q s)

-- A refusal ends the whole.
module _ {R A : Type 0} {o : Out A} {P : R → A → Type 0} {e : Refusal} (y : Yields {R = R} (Err e) o P) where
  pub stops : {B : Type 0} (f : A → Out B) → numbers (◌>>=◌ o f) ≡ table (meant e)
  unfolding told numbers ◌>>=◌
  stops {B} f = go o y.answered
    where
      go : (p : Out A) → table (meant e) ≡ numbers p → numbers (◌>>=◌ p f) ≡ table (meant e)
      go (accepted a) h = absurd (refused_number (meant e) (ap (λ (n : Numbers). n.number) h))
      go (refused r) h = sym h

  same_left : {l : Lent} (f : A → Out Message) → leaves l (◌>>=◌ o f) ≡ l
  unfolding told numbers ◌>>=◌ leaves
  same_left {l} f = go o y.answered
    where
      go : (p : Out A) → table (meant e) ≡ numbers p → leaves l (◌>>=◌ p f) ≡ l
      go (accepted a) h = absurd (refused_number (meant e) (ap (λ (n : Numbers). n.number) h))
      go (refused r) h = refl

  -- by a `?`
  pub ended : {S B : Type 0} (f : A → Out B) {Q : S → B → Type 0} (q : Result S Refusal) → IsErrAnd q (λ d. d ≡ e) → Yields q (◌>>=◌ o f) Q
  ended f q s = refusal q e s (stops f)

  -- and leaves all as it was
  pub does_ended : {S : Type 0} {l j : Lent} (f : A → Out Message) (q : Result S Refusal) → IsErrAnd q (λ d. d ≡ e) → j ≡ l → Does l j (told q) (◌>>=◌ o f)
  does_ended f q s z = does_refusal q e s (stops f) (same_left f) z

-- What is given goes on.
pub does_on : {A : Type 0} {o : Out A} {a : A} {l j : Lent} {n : Numbers} (f : A → Out Message) → o ≡ accepted a → Does l j n (f a) → Does l j n (◌>>=◌ o f)
does_on {o = o} {a = a} {l = l} {j = j} {n = n} f e d = subst (Does l j n) (sym (bind_passed o f a e)) d

-- A check by the code, in front of the rest.
module _ {B : Type 0} (x : Check) (k : Out B) where
  pub check_passed : (u : Unit {0}) → checked (Ok u) ≡ x → ◌>>◌ x k ≡ k
  unfolding checked ◌>>◌
  check_passed u h = rw (← h) refl

  pub check_stops : (e : Refusal) → checked {A = Unit {0}} (Err e) ≡ x → ◌>>◌ x k ≡ refused (meant e)
  unfolding checked ◌>>◌
  check_stops e h = rw (← h) refl
