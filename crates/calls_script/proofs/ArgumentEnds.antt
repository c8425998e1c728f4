-- Where the arguments of a call end, by its form. Assumes nothing.
use Prim.Native.Nat.{ℕ, zero, suc, ◌+◌, ◌-◌, ◌≤◌, ◌<◌}
use mathlib.Core.Path.{◌≡◌, refl, sym, ap, ◌∙◌}
use mathlib.Core.Bool.{true, false}
use mathlib.Core.List.{List, [], ◌∷◌}
use mathlib.Core.Option.{Option, none}
use Rattle.format.specs.Calls.{Call}
use native.Mathlib.Omega.{arith}
use lib.ListN.{length, drop, get_or, length-drop, drop_of_length-le}
use lib.Seq.{drop-drop}
use borrow.Author.Tests.{le-leb, lt-leb}
use Rattle.format.specs.Bytes.{Bytes}
use Rattle.calls_script.specs.Script.{whole, argument_size, behind, both_whole, both_size, header_whole, header_size, Form, one, two, header, unknown, forms, form_of, complete, size_of, end_of}
use Rattle.calls_script.proofs.ArgumentPlaces.{false_left, false_right, end_none, behind_is, size_within}

-- An argument, and what is behind it.
module _ (s : Bytes) (at : ℕ) where
  pub both_cut : whole (drop at s) ≡ false → none ≡ end_of (both_whole (drop at s)) (at + both_size (drop at s))
  unfolding both_whole
  both_cut h = end_none _ _ (false_left _ _ h)

  pub header_cut : whole (drop at s) ≡ false → none ≡ end_of (header_whole (drop at s)) (at + header_size (drop at s))
  unfolding header_whole
  header_cut h = end_none _ _ (false_left _ _ h)

  module _ (next : ℕ) (w : whole (drop at s) ≡ true) (e : next ≡ at + argument_size (drop at s)) where
    pub next_within : next ≤ length s
    next_within = omega (arith, size_within s at w)

    pub next_behind : drop next s ≡ behind (drop at s)
    next_behind = ap (λ (n : ℕ). drop n s) e ∙ sym (behind_is s at)

    pub next_store : drop (next + 12) s ≡ drop 12 (behind (drop at s))
    next_store = sym (drop-drop 12 next s) ∙ ap (drop 12) next_behind

    pub both_end : (r : Option ℕ) → r ≡ end_of (whole (drop next s)) (next + argument_size (drop next s)) → r ≡ end_of (both_whole (drop at s)) (at + both_size (drop at s))
    unfolding both_whole both_size
    both_end r h =
        let n : next + argument_size (drop next s) ≡ at + (argument_size (drop at s) + argument_size (behind (drop at s))) = omega (arith, ap argument_size next_behind) in
        h ∙ (λ i. end_of (whole (next_behind i)) (n i)) ∙ rw w refl

    pub record_cut : length s - next < 12 → none ≡ end_of (header_whole (drop at s)) (at + header_size (drop at s))
    unfolding header_whole
    record_cut h =
        end_none _ _
        (false_right _ _ w (false_left _ _ (lt-leb 12 (length (behind (drop at s))) (omega (arith, ap length next_behind, length-drop next s)))))

    pub header_end : 12 ≤ length s - next → (r : Option ℕ) → r ≡ end_of (whole (drop (next + 12) s)) (next + 12 + argument_size (drop (next + 12) s))
        → r ≡ end_of (header_whole (drop at s)) (at + header_size (drop at s))
    unfolding header_whole header_size
    header_end p r h =
        let long = le-leb 12 (length (behind (drop at s))) (omega (arith, ap length next_behind, length-drop next s)) in
        let n : next + 12 + argument_size (drop (next + 12) s) ≡ at + (argument_size (drop at s) + (12 + argument_size (drop 12 (behind (drop at s))))) =
        omega (arith, ap argument_size next_store) in
        h ∙ (λ i. end_of (whole (next_store i)) (n i)) ∙ rw (w, long) refl

-- past the table's end stands no call
past_end : {A : Type 0} (l : List A) (n : ℕ) (d : A) → length l ≤ n → get_or l n d ≡ d
past_end [] n d h = refl
past_end (x ∷ l) zero d h = absurd (omega arith)
past_end (x ∷ l) (suc n) d h = past_end l n d (omega arith)

pub no_form : (n : ℕ) → 14 ≤ n → unknown ≡ form_of n
no_form n h = sym (past_end forms n unknown h)

-- Where a call ends, by its form f.
module _ (t : Bytes) (at : ℕ) (r : Option ℕ) (f : Form) where
  pub one_end : (c : Bytes → Call) → one c ≡ f → r ≡ end_of (whole t) (at + argument_size t) → r ≡ end_of (complete f t) (at + size_of f t)
  unfolding complete size_of
  one_end c e h = rw (← e) h

  pub two_end : (c : Bytes → Bytes → Call) → two c ≡ f → r ≡ end_of (both_whole t) (at + both_size t) → r ≡ end_of (complete f t) (at + size_of f t)
  unfolding complete size_of
  two_end c e h = rw (← e) h

  pub three_end : header ≡ f → r ≡ end_of (header_whole t) (at + header_size t) → r ≡ end_of (complete f t) (at + size_of f t)
  unfolding complete size_of
  three_end e h = rw (← e) h

-- no call has no form
pub other_end : (t : Bytes) (n : ℕ) (f : Form) → unknown ≡ f → none ≡ end_of (complete f t) n
unfolding complete
other_end t n f e = end_none _ _ (rw (← e) refl)

-- nothing stands at the script's end
pub nothing_whole : (f : Form) → complete f [] ≡ false
unfolding complete whole both_whole header_whole
nothing_whole (one c) = refl
nothing_whole (two c) = refl
nothing_whole header = refl
nothing_whole unknown = refl

pub at_end : (s : Bytes) (at n : ℕ) (f : Form) → at ≡ length s → none ≡ end_of (complete f (drop (at + 1) s)) n
at_end s at n f e = end_none _ _ (ap (complete f) (drop_of_length-le s {i = at + 1} (omega arith)) ∙ nothing_whole f)
