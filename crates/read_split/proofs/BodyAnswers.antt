-- The body without a store: what the body is by what was judged, and the answers of the first call. Assumes nothing.
use Rattle.std.specs.Prelude.{if◌then◌else◌, Result, Ok, Err}
use Rattle.std.specs.Result.{IsErrAnd, result_unwrap_or}
use Prim.Native.Nat.{ℕ, ◌≤◌, ◌<◌}
use mathlib.Core.Path.{◌≡◌, refl, sym, ap, ◌∙◌}
use mathlib.Core.Bool.{Bool, true, false}
use native.Mathlib.Omega.{arith}
use lib.ListN.{length}
use borrow.Author.Tests.{lt-ltb}
use Rattle.format.specs.Bytes.{Bytes, over}
use Rattle.format.specs.Limits.{max_body}
use Rattle.format.specs.Refusals.{Out, accepted, refused, numbers, Check, refuse_if, ◌>>◌, ◌>>=◌}
use Rattle.format.specs.Refusals as paper
use Rattle.format.specs.declared.refusal.Refusal.{Refusal}
use Rattle.format.specs.declared.refusal.Refusal.TheVariants as code
use Rattle.format.specs.Told.{meant, told}
use Rattle.format.specs.Reading.{Parts, text_parts}
use Rattle.format.specs.Calls.{body_length, enough}
use Rattle.format.specs.Writing.{writes}
use Rattle.format.specs.LookingUp.{body_of_text, stands_in_text, buffer_for, find_body, body_length_of, buffer_after}
use Rattle.format.proofs.Steps.{at_most_passed, then_passed, then_bind, bind_passed}
use Rattle.format.proofs.Answers.{over_limit, space_enough}

-- what the first call promises
abbrev pub Found : Bytes → Bytes → Bytes → Result ℕ Refusal → Type 0
Found t buffer after r =
    (told r ≡ numbers (find_body t (length buffer))) × ((result_unwrap_or r 0 ≡ body_length_of (find_body t (length buffer))) × (after ≡ buffer_after t buffer))

-- by what the definition gives
found_by : (t buffer after : Bytes) (r : Result ℕ Refusal) (o : Out Bytes) → find_body t (length buffer) ≡ o → told r ≡ numbers o → result_unwrap_or r 0 ≡ body_length_of o
    → after ≡ (if stands_in_text t then buffer else writes buffer o) → Found t buffer after r
unfolding buffer_after
found_by t buffer after r o e a l w =
    (a ∙ sym (ap numbers e), (l ∙ sym (ap body_length_of e), w ∙ sym (ap (λ (x : Out Bytes). if stands_in_text t then buffer else writes buffer x) e)))

unwritten : (b : Bool) (buffer : Bytes) → buffer ≡ (if b then buffer else buffer)
unwritten true buffer = refl
unwritten false buffer = refl

-- a refused step is the answer
pub bind_refused : {A B : Type 0} (x : Out A) (f : A → Out B) (r : paper.Refusal) → x ≡ refused r → ◌>>=◌ x f ≡ refused r
unfolding ◌>>=◌
bind_refused x f r h = rw h refl

-- refused, the buffer stays as it was
found_refused : (t buffer : Bytes) (r : Refusal) → find_body t (length buffer) ≡ refused (meant r) → Found t buffer buffer (Err r)
unfolding told numbers body_length_of writes
found_refused t buffer r e = found_by t buffer buffer (Err r) (refused (meant r)) e refl refl (unwritten (stands_in_text t) buffer)

-- 1, 24 or 2
module _ (t : Bytes) (r : Refusal) (h : text_parts t ≡ refused (meant r)) where
  pub no_body : body_of_text t ≡ refused (meant r)
  unfolding body_of_text
  no_body = bind_refused (text_parts t) _ (meant r) h

  found_none : (buffer : Bytes) → Found t buffer buffer (Err r)
  unfolding find_body
  found_none buffer = found_refused t buffer r (bind_refused (body_of_text t) _ _ no_body)

  -- as it is passed on
  pub found_passed : (buffer : Bytes) (q : Result ℕ Refusal) → IsErrAnd q (λ x. x ≡ r) → Found t buffer buffer q
  found_passed buffer (Ok n) h = absurd h
  found_passed buffer (Err x) h = rw h (found_none buffer)

-- The text's parts are p, whose body has n bytes.
module _ (t : Bytes) (p : Parts) (e : text_parts t ≡ accepted p) (n : ℕ) (size : n ≡ length p.body) where
  body_is : body_of_text t ≡ ◌>>◌ (body_length p.body) (accepted p.body)
  unfolding body_of_text
  body_is = bind_passed (text_parts t) _ p e

  find_is : (k : ℕ) → find_body t k ≡ ◌>>◌ (body_length p.body) (◌>>◌ (buffer_for (stands_in_text t) k (length p.body)) (accepted p.body))
  unfolding find_body
  find_is k =
      ap (λ (o : Out Bytes). ◌>>=◌ o (λ b. ◌>>◌ (buffer_for (stands_in_text t) k (length b)) (accepted b))) body_is
      ∙ then_bind (body_length p.body) p.body (λ b. ◌>>◌ (buffer_for (stands_in_text t) k (length b)) (accepted b))

  -- 23
  module _ (long : max_body < n) where
    refused_23 : {A : Type 0} (o : Out A) → ◌>>◌ (body_length p.body) o ≡ refused (paper.body_too_long n)
    unfolding body_length ◌>>◌
    refused_23 o = rw (← size) (ap (λ (c : Check). ◌>>◌ c o) (over_limit max_body paper.body_too_long n long))

    pub found_long : (buffer : Bytes) → Found t buffer buffer (Err (code.BodyTooLong n))
    unfolding meant
    found_long buffer = found_refused t buffer (code.BodyTooLong n) (find_is (length buffer) ∙ refused_23 _)

    pub long_body_lem : body_of_text t ≡ refused (paper.body_too_long n)
    long_body_lem = body_is ∙ refused_23 (accepted p.body)

  module _ (short : n ≤ max_body) where
    passed_23 : {A : Type 0} (o : Out A) → ◌>>◌ (body_length p.body) o ≡ o
    unfolding body_length
    passed_23 o = then_passed (body_length p.body) o (at_most_passed max_body paper.body_too_long (length p.body) (omega arith))

    pub short_body : body_of_text t ≡ accepted p.body
    short_body = body_is ∙ passed_23 (accepted p.body)

    -- under CRLFCRLF
    module _ (inside : stands_in_text t ≡ true) where
      pub found_inside : (buffer : Bytes) → Found t buffer buffer (Ok n)
      unfolding buffer_for ◌>>◌ told numbers body_length_of
      found_inside buffer =
          found_by t buffer buffer (Ok n) (accepted p.body) (find_is (length buffer) ∙ passed_23 _ ∙ rw inside refl) refl size (rw inside refl)

    -- under LFLF
    module _ (outside : stands_in_text t ≡ false) where
      checked : (k : ℕ) → find_body t k ≡ ◌>>◌ (enough k n) (accepted p.body)
      unfolding buffer_for
      checked k = find_is k ∙ passed_23 _ ∙ rw (outside, ← size) refl

      pub found_short : (buffer : Bytes) → length buffer < n → Found t buffer buffer (Err (code.TooShort n))
      unfolding meant enough refuse_if ◌>>◌
      found_short buffer h = found_refused t buffer (code.TooShort n) (checked (length buffer) ∙ rw (lt-ltb (length buffer) n h) refl)

      pub found_outside : (buffer after : Bytes) → n ≤ length buffer → after ≡ over p.body buffer → Found t buffer after (Ok n)
      unfolding told numbers body_length_of writes
      found_outside buffer after h w =
          found_by t buffer after (Ok n) (accepted p.body) (checked (length buffer) ∙ then_passed (enough (length buffer) n) _ (space_enough (length buffer) n h)) refl
          size (w ∙ rw outside refl)
