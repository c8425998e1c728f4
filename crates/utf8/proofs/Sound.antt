-- The tests of the specification hold exactly where Sound does, each answer of the code being one of them. Assumes nothing.
use Prim.Native.Nat.{ℕ, zero, suc, ◌+◌, ◌≤◌, ◌<◌}
use mathlib.Core.Path.{◌≡◌, refl, sym, subst, ◌∙◌}
use mathlib.Core.Bool.{Bool, true, false, not, ◌&&◌, ◌||◌, beq}
use mathlib.Core.Logic.{◌⊎◌, ⊎_elim, inl, inr}
use native.Mathlib.Omega.{arith}
use native.Mathlib.Numerals.{add-one}
use lib.Dec.{leb, ltb, eqb}
use lib.ListN.{get_or}
use borrow.Author.Count.{below_none, below_more}
use borrow.Author.Tests.{le-ltb, le-leb, lt-leb, eq-eqb, ne_eqb}
use Rattle.std.specs.Prelude.{if◌then◌else◌}
use Rattle.std.proofs.lemmas.Bool.Decides.{nat_tests}
use Rattle.format.specs.Bytes.{Bytes}
use Rattle.format.proofs.Lists.{bcase, below, clash, or_intro_right}
use Rattle.format.proofs.Rulesets.{tests}
use Rattle.utf8.specs.Sound.{Trailing, Sound, SoundAt, is_trailing, is_leading, is_owed, in_turn, least_behind, greatest_behind, is_sound, is_sound_at, all_sound, is_pair, all_pairs}

-- the tests give what they test
trailing_from : (b : ℕ) → is_trailing b ≡ true → Trailing b
unfolding is_trailing
trailing_from b e = simp tests at e

leading_from : (b : ℕ) → is_leading b ≡ true → (b < 0x80) ⊎ (0xC2 ≤ b)
unfolding is_leading
leading_from b e =
    ⊎_elim
    (λ l. inl l)
    (λ l. ⊎_elim (λ m. clash e (rw (le-ltb b 0x80 l, lt-leb 0xC2 b m) refl)) (λ m. inr m) (below b 0xC2))
    (below b 0x80)

-- what is owed behind three bytes
module _ (p3 p2 p1 : ℕ) where
  pub owed_first : 0xC2 ≤ p1 → is_owed p3 p2 p1 ≡ true
  unfolding is_owed
  owed_first h = rw (le-leb 0xC2 p1 h) refl

  pub owed_second : 0xE0 ≤ p2 → is_owed p3 p2 p1 ≡ true
  unfolding is_owed
  owed_second h = or_intro_right (leb 0xC2 p1) (leb 0xE0 p2 || leb 0xF0 p3) (rw (le-leb 0xE0 p2 h) refl)

  pub owed_third : 0xF0 ≤ p3 → is_owed p3 p2 p1 ≡ true
  unfolding is_owed
  owed_third h =
      or_intro_right (leb 0xC2 p1) (leb 0xE0 p2 || leb 0xF0 p3) (or_intro_right (leb 0xE0 p2) (leb 0xF0 p3) (le-leb 0xF0 p3 h))

  pub owed_none : p1 < 0xC2 → p2 < 0xE0 → p3 < 0xF0 → is_owed p3 p2 p1 ≡ false
  unfolding is_owed
  owed_none x y z = rw (lt-leb 0xC2 p1 x, lt-leb 0xE0 p2 y, lt-leb 0xF0 p3 z) refl

-- the least and the greatest byte behind each lead byte
pub least_E0 : (p : ℕ) → p ≡ 0xE0 → least_behind p ≡ 0xA0
unfolding least_behind
least_E0 p e = rw (eq-eqb p 0xE0 e) refl

pub least_F0 : (p : ℕ) → p ≡ 0xF0 → least_behind p ≡ 0x90
unfolding least_behind
least_F0 p e = rw (ne_eqb p 0xE0 (λ f. omega arith), eq-eqb p 0xF0 e) refl

pub least_other : (p : ℕ) → (p ≡ 0xE0 → ⊥) → (p ≡ 0xF0 → ⊥) → least_behind p ≡ 0
unfolding least_behind
least_other p x y = rw (ne_eqb p 0xE0 x, ne_eqb p 0xF0 y) refl

pub greatest_ED : (p : ℕ) → p ≡ 0xED → greatest_behind p ≡ 0x9F
unfolding greatest_behind
greatest_ED p e = rw (eq-eqb p 0xED e) refl

pub greatest_F4 : (p : ℕ) → p ≡ 0xF4 → greatest_behind p ≡ 0x8F
unfolding greatest_behind
greatest_F4 p e = rw (ne_eqb p 0xED (λ f. omega arith), eq-eqb p 0xF4 e) refl

pub greatest_other : (p : ℕ) → (p ≡ 0xED → ⊥) → (p ≡ 0xF4 → ⊥) → greatest_behind p ≡ 0xF4
unfolding greatest_behind
greatest_other p x y = rw (ne_eqb p 0xED x, ne_eqb p 0xF4 y) refl

greatest_least : (p : ℕ) → greatest_behind p ≤ 0xF4
unfolding greatest_behind
greatest_least p =
    ⊎_elim
    (λ t. rw t (omega arith))
    (λ f. rw f (⊎_elim (λ t. rw t (omega arith)) (λ g. rw g (omega arith)) (bcase (eqb p 0xF4))))
    (bcase (eqb p 0xED))

-- the byte b behind three bytes
module _ (p3 p2 p1 b : ℕ) where
  turn_owed : is_owed p3 p2 p1 ≡ true → in_turn p3 p2 p1 b ≡ is_trailing b
  unfolding in_turn
  turn_owed o = rw o refl

  turn_free : is_owed p3 p2 p1 ≡ false → in_turn p3 p2 p1 b ≡ is_leading b
  unfolding in_turn
  turn_free o = rw o refl

  -- a byte that passes the test is sound
  sound_from : is_sound p3 p2 p1 b ≡ true → Sound p3 p2 p1 b
  unfolding is_sound
  sound_from e =
      let p = simp tests at e in
      let turn = p.0 in
      let low = p.1.0 in
      let high = p.1.1 in
      let trails : is_owed p3 p2 p1 ≡ true → Trailing b = λ o. trailing_from b (sym (turn_owed o) ∙ turn) in
      record {
        first = λ p. trails (owed_first p3 p2 p1 p);
        second = λ p. trails (owed_second p3 p2 p1 p);
        third = λ p. trails (owed_third p3 p2 p1 p);
        leading = λ p q r. leading_from b (sym (turn_free (owed_none p3 p2 p1 p q r)) ∙ turn);
        greatest = omega (arith, greatest_least p1);
        behind_E0 = λ p. omega (arith, least_E0 p1 p);
        behind_ED = λ p. omega (arith, greatest_ED p1 p);
        behind_F0 = λ p. omega (arith, least_F0 p1 p);
        behind_F4 = λ p. omega (arith, greatest_F4 p1 p);
      }

-- the places that the loop counts
at_from : (s : Bytes) (k : ℕ) → is_sound_at s k ≡ true → SoundAt s k
unfolding is_sound_at
at_from s k e =
    let one : k + 1 ≡ suc k = omega arith in
    let two : k + 2 ≡ suc (suc k) = omega arith in
    let three : k + 3 ≡ suc (suc (suc k)) = omega arith in
    subst (λ (n : ℕ). Sound (get_or s k 0) (get_or s (suc k) 0) (get_or s (suc (suc k)) 0) (get_or s n 0)) three
    (subst (λ (n : ℕ). Sound (get_or s k 0) (get_or s (suc k) 0) (get_or s n 0) (get_or s (k + 3) 0)) two
    (subst (λ (n : ℕ). Sound (get_or s k 0) (get_or s n 0) (get_or s (k + 2) 0) (get_or s (k + 3) 0)) one
    (sound_from (get_or s k 0) (get_or s (k + 1) 0) (get_or s (k + 2) 0) (get_or s (k + 3) 0) e)))

-- where all pass the test each byte is sound
pub all_from : (s : Bytes) (n : ℕ) → all_sound n s ≡ true → (i : ℕ) → i < n → SoundAt s i
unfolding all_sound
all_from s zero e = below_none (SoundAt s)
all_from s (suc n) e =
    λ i h.
    below_more (SoundAt s) n (all_from s n (simp tests at e).0) (at_from s n (simp tests at e).1) i
    (omega arith)

-- The tests of the code, which look at all of a byte's ways to stand wrong.
wrong_turn : (o : Bool) (l g b : ℕ) → ((((not (beq (is_trailing b) o) || ltb b l) || ltb g b) || eqb b 0xC0) || eqb b 0xC1) ≡ not ((if o then is_trailing b else is_leading b) && (leb l b && leb b g))
unfolding is_trailing is_leading
wrong_turn true l g b = grind (arith, nat_tests)
wrong_turn false l g b = grind (arith, nat_tests)

pub fault_is : (p3 p2 p1 b : ℕ)
    → ((((not (beq (is_trailing b) (is_owed p3 p2 p1)) || ltb b (least_behind p1)) || ltb (greatest_behind p1) b) || eqb b 0xC0) || eqb b 0xC1) ≡ not (is_sound p3 p2 p1 b)
unfolding is_sound in_turn
fault_is p3 p2 p1 b = wrong_turn (is_owed p3 p2 p1) (least_behind p1) (greatest_behind p1) b

wrong_pair : (o : Bool) (b : ℕ) → (((not (beq (is_trailing b) o) || ltb 0xDF b) || eqb b 0xC0) || eqb b 0xC1) ≡ not (ltb b 0xE0 && (if o then is_trailing b else is_leading b))
unfolding is_trailing is_leading
wrong_pair true b = grind (arith, nat_tests)
wrong_pair false b = grind (arith, nat_tests)

pub pair_is : (p1 b : ℕ) → (((not (beq (is_trailing b) (is_owed 0 0 p1)) || ltb 0xDF b) || eqb b 0xC0) || eqb b 0xC1) ≡ not (is_pair p1 b)
unfolding is_pair in_turn
pair_is p1 b = wrong_pair (is_owed 0 0 p1) b

-- one more byte is judged
not_both : (a b w f : Bool) → w ≡ not a → f ≡ not b → (w || f) ≡ not (a && b)
not_both true b w f e g = rw e g
not_both false b w f e g = rw e refl

pub faults_more : (s : Bytes) (k : ℕ) (w f : Bool) → w ≡ not (all_sound k s) → f ≡ not (is_sound (get_or s k 0) (get_or s (k + 1) 0) (get_or s (k + 2) 0) (get_or s (k + 3) 0)) → (w || f) ≡ not (all_sound (k + 1) s)
unfolding all_sound is_sound_at
faults_more s k w f e g = rw (add-one k) (not_both (all_sound k s) (is_sound (get_or s k 0) (get_or s (k + 1) 0) (get_or s (k + 2) 0) (get_or s (k + 3) 0)) w f e g)

pub pairs_more : (s : Bytes) (k : ℕ) (w f : Bool) → w ≡ not (all_pairs k s) → f ≡ not (is_pair (get_or s (k + 2) 0) (get_or s (k + 3) 0)) → (w || f) ≡ not (all_pairs (k + 1) s)
unfolding all_pairs
pairs_more s k w f e g = rw (add-one k) (not_both (all_pairs k s) (is_pair (get_or s (k + 2) 0) (get_or s (k + 3) 0)) w f e g)

-- b behind p1 where no character has more than two bytes
module _ (p1 b : ℕ) where
  pair_below : is_pair p1 b ≡ true → b < 0xE0
  unfolding is_pair
  pair_below e = (simp tests at e).0

  -- such a byte is sound behind bytes that lead no character of more than two
  module _ (p3 p2 : ℕ) (h3 : p3 < 0xE0) (h2 : p2 < 0xE0) (h1 : p1 < 0xE0) (e : is_pair p1 b ≡ true) where
    pair_owes : is_owed p3 p2 p1 ≡ is_owed 0 0 p1
    unfolding is_owed
    pair_owes = rw (lt-leb 0xE0 p2 h2, lt-leb 0xF0 p3 (omega arith)) refl

    pair_in_turn : in_turn p3 p2 p1 b ≡ true
    unfolding in_turn is_pair
    pair_in_turn = rw pair_owes (simp tests at e).1

    pair_sound : is_sound p3 p2 p1 b ≡ true
    unfolding is_sound
    pair_sound =
        let below = pair_below e in
        rw (pair_in_turn, least_other p1 (λ x. omega arith) (λ x. omega arith), le-leb 0 b (omega arith), greatest_other p1 (λ x. omega arith) (λ x. omega arith), le-leb b 0xF4 (omega arith)) refl

-- so are all
pub pairs_sound : (s : Bytes) (n : ℕ) → get_or s 0 0 < 0xE0 → get_or s 1 0 < 0xE0 → get_or s 2 0 < 0xE0 → all_pairs n s ≡ true
    → (all_sound n s ≡ true) × (get_or s n 0 < 0xE0) × (get_or s (n + 1) 0 < 0xE0) × (get_or s (n + 2) 0 < 0xE0)
unfolding all_pairs all_sound is_sound_at
pairs_sound s zero h0 h1 h2 e = (refl, h0, h1, h2)
pairs_sound s (suc n) h0 h1 h2 e =
    let p = simp tests at e in
    let before = pairs_sound s n h0 h1 h2 p.0 in
    let pair = p.1 in
    let one : n + 1 ≡ suc n = omega arith in
    let two : n + 2 ≡ suc n + 1 = omega arith in
    let three : n + 3 ≡ suc n + 2 = omega arith in (
      simp tests (before.0, pair_sound (get_or s (n + 2) 0) (get_or s (n + 3) 0) (get_or s n 0) (get_or s (n + 1) 0) before.1 before.2 before.3 pair),
      subst (λ (k : ℕ). get_or s k 0 < 0xE0) one before.2,
      subst (λ (k : ℕ). get_or s k 0 < 0xE0) two before.3,
      subst (λ (k : ℕ). get_or s k 0 < 0xE0) three (pair_below (get_or s (n + 2) 0) (get_or s (n + 3) 0) pair),
    )

-- where no pair is wrong
pub no_fault : (a : Bool) → false ≡ not a → a ≡ true
no_fault true e = refl
no_fault false e = e
