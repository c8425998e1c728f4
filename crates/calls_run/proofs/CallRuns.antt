-- A call by its kind: what stands behind its number, and the run that it is. Assumes nothing.
use Prim.Native.Nat.{ℕ, ◌+◌, ◌≤◌}
use mathlib.Core.Path.{◌≡◌, sym, ap, subst, ◌∙◌}
use mathlib.Core.Bool.{true}
use mathlib.Core.List.{List, [], ◌∷◌}
use native.Mathlib.Omega.{arith}
use lib.ListN.{length, drop, length-drop}
use lib.Seq.{drop-drop}
use Rattle.format.specs.Bytes.{Bytes}
use Rattle.format.specs.Calls.{Call, head_alone, lends, set_body, add_header_obj}
use Rattle.format.specs.Lending.{head_lent, both_lent, Changed, HeaderAdded}
use Rattle.format.specs.Runs.{State, Run, done}
use Rattle.format.specs.declared.Numbers.{Numbers}
use Rattle.format.specs.declared.CpimMessage.{CpimMessage}
use Rattle.format.specs.declared.CpimHeader.{CpimHeader}
use Rattle.format.proofs.Rulesets.{tests}
use Rattle.calls_script.specs.Script.{state, held_alone, number_in, whole, argument, argument_size, behind, header_record, both_whole, header_whole, Form, one, two, header, unknown, complete, called}
use Rattle.calls_script.proofs.ArgumentEnds.{next_behind, next_store}
use Rattle.calls_script.proofs.RunSteps.{held_alone_lem, head_step, body_step, header_step_lem}

-- One call on the head store alone.
pub head_run : (m r : CpimMessage) (head left : Bytes) (n : Numbers) (c : Call) → lends c ≡ head_alone
    → Changed c (head_lent m head) (head_lent r left) n → (body : Bytes) → Run (state m head body) (c ∷ []) (state r left body)
head_run m r head left n c l h body = head_step m r head left body n [] (state r left body) c l h done

pub body_run : (m r : CpimMessage) (head store left a : Bytes) (n : Numbers)
    → Changed (set_body a) (both_lent m head store) (both_lent r head left) n
    → Run (state m head store) (set_body a ∷ []) (state r head left)
body_run m r head store left a n h = body_step m r head store left a n [] (state r head left) h done

-- What stands behind the number of a whole call, by its form f.
module _ (t : Bytes) (f : Form) where
  pub text_whole : (c : Bytes → Call) → one c ≡ f → complete f t ≡ true → whole t ≡ true
  unfolding complete
  text_whole c e h = ap (λ (g : Form). complete g t) e ∙ h

  pub pair_whole : (c : Bytes → Bytes → Call) → two c ≡ f → complete f t ≡ true → both_whole t ≡ true
  unfolding complete
  pair_whole c e h = ap (λ (g : Form). complete g t) e ∙ h

  pub object_whole : header ≡ f → complete f t ≡ true → header_whole t ≡ true
  unfolding complete
  object_whole e h = ap (λ (g : Form). complete g t) e ∙ h

  pub text_run : (c : Bytes → Call) (s u : State) (a : Bytes) → one c ≡ f → a ≡ argument t → Run s (c a ∷ []) u → Run s (called f t) u
  unfolding called
  text_run c s u a e p run = subst (λ (cs : List Call). Run s cs u) (ap (λ (x : Bytes). c x ∷ []) p ∙ ap (λ (g : Form). called g t) e) run

  pub pair_run : (c : Bytes → Bytes → Call) (s u : State) (a b : Bytes) → two c ≡ f → a ≡ argument t → b ≡ argument (behind t)
      → Run s (c a b ∷ []) u → Run s (called f t) u
  unfolding called
  pair_run c s u a b e p q run = subst (λ (cs : List Call). Run s cs u) ((λ i. c (p i) (q i) ∷ []) ∙ ap (λ (g : Form). called g t) e) run

  pub form_run : (s u : State) → header ≡ f → Run s (called header t) u → Run s (called f t) u
  form_run s u e run = subst (λ (g : Form). Run s (called g t) u) e run

  -- a number that is no call's runs nothing
  pub no_run : (s : State) → unknown ≡ f → Run s (called f t) s
  unfolding called
  no_run s e = subst (λ (g : Form). Run s (called g t) s) e done

module _ (t : Bytes) where
  pub header_run : (m r : CpimMessage) (head left a b : Bytes) (h : CpimHeader) (n : Numbers) → a ≡ argument t → h ≡ header_record (behind t) → b ≡ argument (drop 12 (behind t))
      → HeaderAdded a (record { header = h; store = b }) (head_lent m head) (head_lent r left) n
      → (body : Bytes) → Run (state m head body) (called header t) (state r left body)
  unfolding called
  header_run m r head left a b h n p q w added body =
      subst (λ (cs : List Call). Run (state m head body) cs (state r left body)) (λ i. add_header_obj (p i) (held_alone (q i) (w i)) ∷ [])
      (header_step_lem m r head left body a (record { header = h; store = b }) (held_alone h b) n [] (state r left body) (held_alone_lem h b) added done)

-- Two arguments, or a name and a header, at a place of a script.
module _ (s : Bytes) (at : ℕ) where
  pub first_whole : both_whole (drop at s) ≡ true → whole (drop at s) ≡ true
  unfolding both_whole
  first_whole h = (simp tests at h).0

  pub name_whole : header_whole (drop at s) ≡ true → whole (drop at s) ≡ true
  unfolding header_whole
  name_whole h = (simp tests at h).0

  module _ (next : ℕ) (w : whole (drop at s) ≡ true) (next_is : next ≡ at + argument_size (drop at s)) where
    pub second_whole : both_whole (drop at s) ≡ true → whole (drop next s) ≡ true
    unfolding both_whole
    second_whole h = ap whole (next_behind s at next w next_is) ∙ (simp tests at h).1

    pub second_is : argument (drop next s) ≡ argument (behind (drop at s))
    second_is = ap argument (next_behind s at next w next_is)

    pub record_within : header_whole (drop at s) ≡ true → next + 12 ≤ length s
    unfolding header_whole
    record_within h =
        omega (arith, simp tests at h, ap length (next_behind s at next w next_is), length-drop next s)

    pub store_whole : header_whole (drop at s) ≡ true → whole (drop (next + 12) s) ≡ true
    unfolding header_whole
    store_whole h = ap whole (next_store s at next w next_is) ∙ (simp tests at h).1.1

    pub store_is : argument (drop (next + 12) s) ≡ argument (drop 12 (behind (drop at s)))
    store_is = ap argument (next_store s at next w next_is)

    pub record_is : (v p z : ℕ) → v ≡ number_in (drop next s) → p ≡ number_in (drop (next + 4) s) → z ≡ number_in (drop (next + 8) s)
        → record { valuelen = v; params = p; size = z } ≡ header_record (behind (drop at s))
    unfolding header_record
    record_is v p z a b c =
        let d = next_behind s at next w next_is in
        let bs = b ∙ ap number_in (sym (drop-drop 4 next s) ∙ ap (drop 4) d) in
        let cs = c ∙ ap number_in (sym (drop-drop 8 next s) ∙ ap (drop 8) d) in
        let vs = a ∙ ap number_in d in
        λ i. record { valuelen = vs i; params = bs i; size = cs i }
