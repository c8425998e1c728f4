-- What a call answers that puts an entry: the refusal of `replace`, or what the call makes. Assumes nothing.
use Rattle.std.specs.Prelude.{Result, Ok, Err}
use Rattle.std.specs.Result.{IsErrAnd}
use Rattle.std.proofs.lemmas.Result.{err_from_is_err_and}
use mathlib.Core.Path.{◌≡◌, refl, sym, ap, ◌∙◌}
use Rattle.format.specs.declared.refusal.Refusal.{Refusal}

abbrev pub answer : {A : Type 0} → Result (Unit {0}) Refusal → A → Result A Refusal
answer (Ok u) a = Ok a
answer (Err e) a = Err e

module _ {A : Type 0} (r : Result (Unit {0}) Refusal) (a : A) where
  pub made : {u : Unit {0}} → r ≡ Ok u → Ok a ≡ answer r a
  made h = rw h refl

  -- by a `?`
  pub handed_on : {e : Refusal} (q : Result A Refusal) → r ≡ Err e → IsErrAnd q (λ d. d ≡ e) → q ≡ answer r a
  handed_on {e = e} q h s =
      let p = err_from_is_err_and q s in
      p.1 ∙ ap (λ (d : Refusal). Err d) p.2 ∙ sym (ap (λ x. answer x a) h)
