-- Laws of `chars_end`: where it stays, one character more, and over ASCII; what lies before it is UTF-8, and before stop it is where
-- UTF-8 ends. Assumes nothing.
use Prim.Native.Nat.{ℕ, zero, suc, ◌+◌, ◌-◌, ◌≤◌, ◌<◌}
use mathlib.Core.Path.{◌≡◌, refl, ap, ◌∙◌}
use mathlib.Core.Bool.{true, false, and-false}
use mathlib.Core.Logic.{⊎_elim}
use mathlib.Core.List.{List, [], ◌∷◌}
use native.Mathlib.Omega.{arith}
use native.Mathlib.Numerals.{add-one}
use lib.Dec.{ltb}
use lib.ListN.{length, take, drop, get_or, length-take, length-drop}
use lib.Seq.{drop-cons, drop-drop}
use borrow.Author.Tests.{lt-ltb, le-ltb}
use Rattle.format.specs.Bytes.{Bytes, all}
use Rattle.format.specs.Characters.{well_formed, chars}
use Rattle.format.proofs.Lists.{below}
use Rattle.format.proofs.Rulesets.{tests}
use Rattle.format.proofs.Characters.Chars.{ascii_whole, chars_ascii}
use Rattle.characters.specs.Lengths.{subpart_len, char_len, utf8_end, Passed}
use Rattle.characters.proofs.Utf8End.{subpart_chars, subpart_inside, char_whole, char_ill, stays, passed_on, char_step, end_ill}
use Rattle.utf8.specs.Blocks.{blocks_end}
use Rattle.utf8.proofs.Passed.{blocks_end_passed}
use Rattle.utf8.specs.CharsEnd.{part_end, gone_over, chars_end}

over_cons : (stop at : ℕ) (g : Bytes) (gs : List Bytes) → at < stop → well_formed g ≡ true → gone_over stop at (g ∷ gs) ≡ gone_over stop (at + length g) gs
unfolding gone_over
over_cons stop at g gs h w = rw (lt-ltb at stop h, w) refl

over_ill : (stop at : ℕ) (g : Bytes) (gs : List Bytes) → well_formed g ≡ false → gone_over stop at (g ∷ gs) ≡ at
unfolding gone_over
over_ill stop at g gs w = rw (w, and-false (ltb at stop)) refl

over_stop : (stop at : ℕ) (gs : List Bytes) → stop ≤ at → gone_over stop at gs ≡ at
unfolding gone_over
over_stop stop at [] h = refl
over_stop stop at (g ∷ gs) h = rw (le-ltb at stop h) refl

module _ (s : Bytes) (at stop : ℕ) where
  -- at stop, or where no character stands
  pub chars_stop : stop ≤ at → chars_end s at stop ≡ at
  unfolding chars_end
  chars_stop h = over_stop stop at (chars (drop at s)) h

  pub chars_ill : at < length s → char_len (drop at s) ≡ 0 → chars_end s at stop ≡ at
  unfolding chars_end
  chars_ill h e =
      let l : 0 < length (drop at s) = omega (arith, length-drop at s) in
      rw (subpart_chars (drop at s) l)
      (over_ill stop at (take (subpart_len (drop at s)) (drop at s)) (chars (drop (subpart_len (drop at s)) (drop at s))) (char_ill (drop at s) l e))

  -- one character more
  pub chars_more : (n : ℕ) → at < stop → n ≡ char_len (drop at s) → (n ≡ 0 → ⊥) → chars_end s at stop ≡ chars_end s (at + n) stop
  unfolding chars_end
  chars_more n h e m =
      let w = char_whole (drop at s) (omega arith) in
      let f : n ≡ subpart_len (drop at s) = e ∙ w.1 in
      let i = subpart_inside (drop at s) in
      let l : 0 < length (drop at s) = omega arith in
      let len : length (take n (drop at s)) ≡ n = length-take n (drop at s) ∙ omega arith in
      ap (gone_over stop at) (subpart_chars (drop at s) l ∙ rw (← f) refl)
      ∙ over_cons stop at (take n (drop at s)) (chars (drop n (drop at s))) h (rw e w.0)
      ∙ rw (len, drop-drop n at s) refl

  chars_one : at < stop → at < length s → get_or s at 0 < 0x80 → chars_end s at stop ≡ chars_end s (suc at) stop
  unfolding chars_end
  chars_one h i l =
      rw (drop-cons s at 0 i, chars_ascii (get_or s at 0) (drop (suc at) s) l)
      (over_cons stop at (get_or s at 0 ∷ []) (chars (drop (suc at) s)) h (ascii_whole (get_or s at 0) l) ∙ rw (add-one at) refl)

-- ASCII bytes up to stop are gone over; k of them are left
pub chars-ascii-part :
    (k : ℕ) (s : Bytes) (at stop : ℕ) → at + k ≡ stop → stop ≤ length s → all (λ b. ltb b 0x80) (take k (drop at s)) ≡ true → chars_end s at stop ≡ stop
unfolding all
chars-ascii-part zero s at stop e f a = chars_stop s at stop (omega arith) ∙ omega arith
chars-ascii-part (suc k) s at stop e f a =
    let h : at < length s = omega arith in
    let p = simp tests at (rw (drop-cons s at 0 h) at a) in
    chars_one s at stop (omega arith) h p.0 ∙ chars-ascii-part k s (suc at) stop (omega arith) f p.1

-- What lies before r is UTF-8, and before stop r is where UTF-8 ends.
pub record Gone (s : Bytes) (at stop r : ℕ) : Type 0 where
  pub over : Passed s at r
  pub ends : r < stop → utf8_end s r ≡ r

-- the number bounds the characters left
gone : (k : ℕ) (s : Bytes) (at stop : ℕ) → length s ≤ at + k → at ≤ length s → stop ≤ length s → Gone s at stop (chars_end s at stop)
gone zero s at stop b h i = rw (chars_stop s at stop (omega arith)) (record { over = stays s at h; ends = λ l. absurd (omega arith) })
gone (suc k) s at stop b h i =
    ⊎_elim
    (λ l.
    ⊎_elim
    (λ z. let e : char_len (drop at s) ≡ 0 = omega arith in rw (chars_ill s at stop (omega arith) e) (record { over = stays s at h; ends = λ x. end_ill s at (omega arith) e }))
    (λ p.
    let n = char_len (drop at s) in
    let m : n ≡ 0 → ⊥ = λ z. omega arith in
    let o : Passed s at (at + n) = char_step s at n refl m in
    let g : Gone s (at + n) stop (chars_end s (at + n) stop) = gone k s (at + n) stop (omega arith) o.inside i in
    rw (chars_more s at stop n l refl m) (record { over = passed_on o g.over; ends = g.ends }))
    (below (char_len (drop at s)) 1))
    (λ l. rw (chars_stop s at stop l) (record { over = stays s at h; ends = λ x. absurd (omega arith) }))
    (below at stop)

pub chars_gone : (s : Bytes) (at stop r : ℕ) → r ≡ chars_end s at stop → at ≤ length s → stop ≤ length s → Gone s at stop r
chars_gone s at stop r e h i = rw e (gone (length s) s at stop (omega arith) h i)

-- One turn of the walk: over blocks to run, then over the characters of the part that ends at stop.
module _ (s : Bytes) (at run stop r : ℕ) (h : at < length s) (b : run ≡ blocks_end s at) (e : stop ≡ part_end s run) (f : r ≡ chars_end s run stop) where
  blocks_over : Passed s at run
  blocks_over = blocks_end_passed s at run b (omega arith)

  part_over : Gone s run stop r
  part_over = chars_gone s run stop r f blocks_over.inside (omega arith)

  turn_over : Passed s at r
  turn_over = passed_on blocks_over part_over.over

  pub turn_keeps : utf8_end s at ≡ utf8_end s r
  turn_keeps = turn_over.keeps

  pub turn_ends : r < stop → utf8_end s at ≡ r
  turn_ends l = turn_keeps ∙ part_over.ends l

  -- it goes on by a byte at least
  pub turn_less : stop ≤ r → length s - r < length s - at
  turn_less l =
      let p = blocks_over in
      let q = part_over.over in
      omega (arith, p.onward, p.inside, q.onward, q.inside)
