-- The first three sections by their places, and what reading makes of a text that has them or has them not. Assumes nothing.
use Rattle.std.specs.Prelude.{Option, None, Some}
use Prim.Native.Nat.{ℕ, ◌+◌, ◌-◌, ◌≤◌, ◌<◌}
use mathlib.Core.Path.{◌≡◌, refl, sym, ap, subst, ◌∙◌}
use mathlib.Core.Bool.{Bool, true, false}
use mathlib.Core.List.{List, [], ◌∷◌}
use native.Mathlib.Omega.{arith}
use lib.ListN.{length, take, drop, length-drop}
use lib.Seq.{length-take-le}
use Rattle.format.specs.Bytes.{Bytes, pieces, split}
use Rattle.format.specs.Refusals.{too_few_sections, accepted, refused}
use Rattle.format.specs.Reading.{body_of, parts_of}
use Rattle.format.proofs.Lists.{rest_is}
use Rattle.sections.specs.declared.Piece.{Piece}
use Rattle.sections.specs.declared.Places.{Places}
use Rattle.sections.specs.Cuts.{cut_of, separator_for, line_end_for, placed, places_of, parts_at}
use Rattle.sections.proofs.Cutting.{by_next, More, cut_more, cut_last, rest_more, rest_last}

pub separator_long : (crlf : Bool) → 0 < length (separator_for crlf)
separator_long true = omega arith
separator_long false = omega arith

pub line_end_long : (crlf : Bool) → 0 < length (line_end_for crlf)
line_end_long true = omega arith
line_end_long false = omega arith

-- a piece is as long as the cut says
more_long : (p t rest : Bytes) (r : Piece) (n : ℕ) → More p t rest r n → length (take r.end t) ≡ r.end
more_long p t rest r n m = length-take-le r.end t (omega arith)

-- a text of one, two and three pieces
pub few_one : (p t : Bytes) → pieces (split p t) ≡ t ∷ [] → places_of p t ≡ None
unfolding places_of placed
few_one p t h = ap (placed (length p)) h

-- the places of the first three of four pieces or more
abbrev pub places_at : Piece → ℕ → Piece → ℕ → Piece → ℕ → Places
places_at a start2 b start3 c rest = record { end1 = a.end; start2 = start2; end2 = start2 + b.end; start3 = start3; end3 = start3 + c.end; rest = rest }

module _ (p t u : Bytes) (a : Piece) (m : ℕ) (one : More p t u a m) where
  pub few_two : pieces (split p u) ≡ u ∷ [] → places_of p t ≡ None
  unfolding places_of placed
  few_two h = ap (placed (length p)) (one.pieces_are ∙ ap (λ (s : List Bytes). take a.end t ∷ s) h)

  module _ (v : Bytes) (b : Piece) (n : ℕ) (two : More p u v b n) where
    two_pieces : pieces (split p t) ≡ take a.end t ∷ take b.end u ∷ pieces (split p v)
    two_pieces = one.pieces_are ∙ ap (λ (s : List Bytes). take a.end t ∷ s) two.pieces_are

    pub few_three : pieces (split p v) ≡ v ∷ [] → places_of p t ≡ None
    unfolding places_of placed
    few_three h = ap (placed (length p)) (two_pieces ∙ ap (λ (s : List Bytes). take a.end t ∷ take b.end u ∷ s) h)

    -- and of four or more
    pub four : (w : Bytes) (c : Piece) (o : ℕ) → More p v w c o → places_of p t ≡ Some (places_at a m b (m + n) c (m + n + o))
    unfolding places_of placed
    four w c o three =
        ap (placed (length p)) (two_pieces ∙ ap (λ (s : List Bytes). take a.end t ∷ take b.end u ∷ s) three.pieces_are)
        ∙ rw (more_long p t u a m one, more_long p u v b n two, more_long p v w c o three, one.behind, two.behind, three.behind) refl

-- fewer than 4 sections: 2
few_refused_by : (n : ℕ) (ss : List Bytes) → placed n ss ≡ None → parts_of ss ≡ refused too_few_sections
unfolding parts_of placed
few_refused_by n [] h = refl
few_refused_by n (a ∷ []) h = refl
few_refused_by n (a ∷ b ∷ []) h = refl
few_refused_by n (a ∷ b ∷ c ∷ []) h = refl
few_refused_by n (a ∷ b ∷ c ∷ d ∷ rest) h = absurd (cc)

pub few_refused : (p t : Bytes) → places_of p t ≡ None → parts_of (pieces (split p t)) ≡ refused too_few_sections
unfolding places_of
few_refused p t h = few_refused_by (length p) (pieces (split p t)) h

-- The first three sections as parts of the text, and the text whose pieces are the others.
pub record Three (p t : Bytes) (s : Places) : Type 0 where
  pub pieces_are : pieces (split p t)
      ≡ take s.end1 t ∷ take (s.end2 - s.start2) (drop s.start2 t) ∷ take (s.end3 - s.start3) (drop s.start3 t) ∷ pieces (split p (drop s.rest t))
  pub first : s.end1 ≤ s.start2
  pub second : (s.start2 ≤ s.end2) × (s.end2 ≤ s.start3)
  pub third : (s.start3 ≤ s.end3) × (s.end3 ≤ s.rest)
  pub within : s.rest ≤ length t

-- what the answer says of the text
abbrev Says : Bytes → Bytes → Option Places → Type 0
Says p t None = Unit
Says p t (Some s) = Three p t s

three_are : (p t : Bytes) (a b c : Piece) (m n o : ℕ) → More p t (drop m t) a m
    → More p (drop m t) (drop (m + n) t) b n
    → More p (drop (m + n) t) (drop (m + n + o) t) c o
    → Three p t (places_at a m b (m + n) c (m + n + o))
three_are p t a b c m n o one two three =
    let h = length-drop m t in
    let k = length-drop (m + n) t in
    let e : m + b.end - m ≡ b.end = omega arith in
    let f : m + n + c.end - (m + n) ≡ c.end = omega arith in
    record {
      pieces_are = rw (e, f)
          (two_pieces p t (drop m t) a m one (drop (m + n) t) b n two ∙ ap (λ (s : List Bytes). take a.end t ∷ take b.end (drop m t) ∷ s) three.pieces_are);
      first = omega arith;
      second = (omega arith, omega arith);
      third = (omega arith, omega arith);
      within = omega arith;
    }

-- the cut of what is left, taken as it stands
module _ (p t : Bytes) (l : 0 < length p) where
  abbrev left : ℕ → Piece
  left at = cut_of p (drop at t)

  left_more : (at n : ℕ) → (left at).next ≡ Some n → More p (drop at t) (drop (at + n) t) (left at) n
  left_more at n h = rest_more p t at (left at) (ap (cut_of p) (sym (rest_is t at))) n l h

  left_last : (at : ℕ) → (left at).next ≡ None → pieces (split p (drop at t)) ≡ drop at t ∷ []
  left_last at h = cut_last p (drop at t) (left at) refl h

  few : places_of p t ≡ None → Says p t (places_of p t)
  few h = subst (Says p t) (sym h) tt

  says : Says p t (places_of p t)
  says = by_next (cut_of p t).next (λ h. few (few_one p t (cut_last p t (cut_of p t) refl h))) (λ m h. behind m (cut_more p t (cut_of p t) m l refl h))
    where
      last : (m n : ℕ) → More p t (drop m t) (cut_of p t) m → More p (drop m t) (drop (m + n) t) (left m) n → Says p t (places_of p t)
      last m n one two =
          by_next (left (m + n)).next (λ h. few (few_three p t (drop m t) (cut_of p t) m one (drop (m + n) t) (left m) n two (left_last (m + n) h)))
          (λ o h. let three = left_more (m + n) o h in
          subst (Says p t) (sym (four p t (drop m t) (cut_of p t) m one (drop (m + n) t) (left m) n two (drop (m + n + o) t) (left (m + n)) o three))
          (three_are p t (cut_of p t) (left m) (left (m + n)) m n o one two three))

      behind : (m : ℕ) → More p t (drop m t) (cut_of p t) m → Says p t (places_of p t)
      behind m one =
          by_next (left m).next (λ h. few (few_two p t (drop m t) (cut_of p t) m one (left_last m h))) (λ n h. last m n one (left_more m n h))

  -- four sections or more
  pub four_three : (s : Places) → places_of p t ≡ Some s → Three p t s
  four_three s h = subst (Says p t) h says

  pub four_accepted : (s : Places) → places_of p t ≡ Some s
      → parts_of (pieces (split p t))
      ≡ accepted (record {
        mime = take s.end1 t;
        headers = take (s.end2 - s.start2) (drop s.start2 t);
        contents = take (s.end3 - s.start3) (drop s.start3 t);
        body = body_of (pieces (split p (drop s.rest t)));
      })
  unfolding parts_of
  four_accepted s h = ap parts_of (four_three s h).pieces_are

  -- what the places say is what reading makes of the pieces
  pub parts_are : (q : Option Places) → q ≡ places_of p t → parts_at p t q ≡ parts_of (pieces (split p t))
  unfolding parts_at
  parts_are None h = sym (few_refused p t (sym h))
  parts_are (Some s) h = sym (four_accepted s (sym h))

-- What the three cuts say: each place lies within the text, and where the third found a separator there are four sections or more.
module _ (crlf : Bool) (t : Bytes) (a : Piece) (cut_a : a ≡ cut_of (separator_for crlf) t) where
  abbrev from : ℕ → Bytes
  from at = take (length t - at) (drop at t)

  pub none_one : a.next ≡ None → None ≡ places_of (separator_for crlf) t
  none_one h = sym (few_one (separator_for crlf) t (cut_last (separator_for crlf) t a cut_a h))

  module _ (m : ℕ) (more_a : a.next ≡ Some m) where
    first_more : More (separator_for crlf) t (drop m t) a m
    first_more = cut_more (separator_for crlf) t a m (separator_long crlf) cut_a more_a

    pub first_within : m ≤ length t
    first_within = first_more.within

    module _ (b : Piece) (cut_b : b ≡ cut_of (separator_for crlf) (from m)) where
      pub none_two : b.next ≡ None → None ≡ places_of (separator_for crlf) t
      none_two h = sym (few_two (separator_for crlf) t (drop m t) a m first_more (rest_last (separator_for crlf) t m b cut_b h))

      module _ (n : ℕ) (more_b : b.next ≡ Some n) where
        second_more : More (separator_for crlf) (drop m t) (drop (m + n) t) b n
        second_more = rest_more (separator_for crlf) t m b cut_b n (separator_long crlf) more_b

        pub second_within : (b.end ≤ n) × (m + n ≤ length t)
        second_within = (omega (arith, second_more.behind), omega (arith, second_more.within, first_within, length-drop m t))

        module _ (c : Piece) (cut_c : c ≡ cut_of (separator_for crlf) (from (m + n))) where
          pub none_three : c.next ≡ None → None ≡ places_of (separator_for crlf) t
          none_three h = sym (few_three (separator_for crlf) t (drop m t) a m first_more (drop (m + n) t) b n second_more (rest_last (separator_for crlf) t (m + n) c cut_c h))

          module _ (o : ℕ) (more_c : c.next ≡ Some o) where
            third_more : More (separator_for crlf) (drop (m + n) t) (drop (m + n + o) t) c o
            third_more = rest_more (separator_for crlf) t (m + n) c cut_c o (separator_long crlf) more_c

            pub third_within : (c.end ≤ o) × (m + n + o ≤ length t)
            third_within = (omega (arith, third_more.behind), omega (arith, third_more.within, second_within.1, length-drop (m + n) t))

            pub all_three : Some (places_at a m b (m + n) c (m + n + o)) ≡ places_of (separator_for crlf) t
            all_three = sym (four (separator_for crlf) t (drop m t) a m first_more (drop (m + n) t) b n second_more (drop (m + n + o) t) c o third_more)
