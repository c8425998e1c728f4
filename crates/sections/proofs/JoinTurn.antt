-- One turn of the joining: the first section of what is left of a text is cut off, its part of the store is filled and put back, and the
-- parts that are left are those of the sections behind it. Assumes nothing.
use Rattle.std.specs.Prelude.{if◌then◌else◌, None, Some}
use Prim.Native.Nat.{ℕ, ◌+◌, ◌-◌, ◌≤◌, ◌<◌}
use mathlib.Core.Path.{◌≡◌, sym, ap, ◌∙◌}
use mathlib.Core.Bool.{Bool, true}
use mathlib.Core.List.{List, [], ◌∷◌, ◌++◌}
use native.Mathlib.Omega.{arith}
use lib.ListN.{length, take, drop}
use lib.Seq.{length-take-le, take-length, drop-drop}
use Rattle.format.specs.Bytes.{Bytes, lf_lf_text, pieces, split, total, pasted}
use Rattle.octets.proofs.Paste.{length_pasted}
use Rattle.sections.specs.declared.Piece.{Piece}
use Rattle.sections.specs.Body.{joined, led, parts_from, filled}
use Rattle.sections.specs.Cuts.{cut_of}
use Rattle.sections.proofs.Cutting.{by_next, rest_more, rest_last, rest_within, rest_whole}
use Rattle.sections.proofs.BodyParts.{led_length, parts_total, filled_next, filled_short}

-- the parts of a text's sections
abbrev pub parts_in : Bool → Bytes → List Bytes
parts_in ahead t = parts_from ahead (pieces (split lf_lf_text t))

-- the section from a place on, so many bytes, as it is lent
abbrev pub section_at : Bytes → ℕ → ℕ → Bytes
section_at rest from n = take (from + n - from) (drop from rest)

-- r cuts the first section off what is left of the rest from a place on; its part has n bytes
module _ (rest : Bytes) (from : ℕ) (ahead : Bool) (r : Piece) (cut : r ≡ cut_of lf_lf_text (take (length rest - from) (drop from rest)))
    (n : ℕ) (size : n ≡ (if ahead then 4 else 0) + r.end) where
  cut_section : take r.end (drop from rest) ≡ section_at rest from r.end
  cut_section =
      let e : r.end ≡ from + r.end - from = omega arith in
      ap (λ (k : ℕ). take k (drop from rest)) e

  pub part_size : length (led ahead (section_at rest from r.end)) ≡ n
  part_size =
      led_length ahead (section_at rest from r.end)
      ∙ ap (λ (k : ℕ). (if ahead then 4 else 0) + k)
      (ap length (sym cut_section) ∙ length-take-le r.end (drop from rest) (rest_within lf_lf_text rest from r cut))
      ∙ sym size

  -- the parts that are left: another section follows, or none
  pub parts_more : (next : ℕ) → r.next ≡ Some next → parts_in ahead (drop from rest) ≡ led ahead (section_at rest from r.end) ∷ parts_in true (drop (from + next) rest)
  unfolding parts_from
  parts_more next h =
      ap (parts_from ahead) (rest_more lf_lf_text rest from r cut next (omega arith) h).pieces_are
      ∙ ap (λ (s : Bytes). led ahead s ∷ parts_in true (drop (from + next) rest)) cut_section

  pub parts_last : r.next ≡ None → parts_in ahead (drop from rest) ≡ led ahead (section_at rest from r.end) ∷ []
  unfolding parts_from
  parts_last h =
      ap (parts_from ahead) (rest_last lf_lf_text rest from r cut h)
      ∙ ap (λ (s : Bytes). led ahead s ∷ [])
      (sym (take-length (drop from rest)) ∙ ap (λ (k : ℕ). take k (drop from rest)) (sym (rest_whole lf_lf_text rest from r cut h)) ∙ cut_section)

  module _ (to : ℕ) (out : Bytes) where
    -- the part does not fit
    pub turn_short : length out < to + n → filled to (parts_in ahead (drop from rest)) out ≡ out
    turn_short h = by_next r.next (λ l. by [] (parts_last l)) (λ next m. by _ (parts_more next m))
      where
        by : (ps : List Bytes) → parts_in ahead (drop from rest) ≡ led ahead (section_at rest from r.end) ∷ ps → filled to (parts_in ahead (drop from rest)) out ≡ out
        by ps e = ap (λ (qs : List Bytes). filled to qs out) e ∙ filled_short to (led ahead (section_at rest from r.end)) ps out (omega (arith, part_size))

    -- it fits, and is put back filled
    module _ (fits : to + n ≤ length out) (part : Bytes) (full : part ≡ led ahead (section_at rest from r.end)) where
      put_back : take to out ++ (part ++ drop (to + n - to) (drop to out)) ≡ pasted to (led ahead (section_at rest from r.end)) out
      unfolding pasted
      put_back =
          let e : to + (to + n - to) ≡ to + length (led ahead (section_at rest from r.end)) = omega (arith, part_size) in
          ap (λ (s : Bytes). take to out ++ (s ++ drop (to + n - to) (drop to out))) full
          ∙ ap (λ (s : Bytes). take to out ++ (led ahead (section_at rest from r.end) ++ s)) (drop-drop (to + n - to) to out ∙ ap (λ (k : ℕ). drop k out) e)

      pub turn_kept : length (take to out ++ (part ++ drop (to + n - to) (drop to out))) ≡ length out
      turn_kept = ap length put_back ∙ length_pasted to (led ahead (section_at rest from r.end)) out (omega (arith, part_size))

      turn_on : (ps : List Bytes) → parts_in ahead (drop from rest) ≡ led ahead (section_at rest from r.end) ∷ ps
          → filled to (parts_in ahead (drop from rest)) out ≡ filled (to + n) ps (take to out ++ (part ++ drop (to + n - to) (drop to out)))
      turn_on ps e =
          ap (λ (qs : List Bytes). filled to qs out) e
          ∙ filled_next to (led ahead (section_at rest from r.end)) ps out (omega (arith, part_size))
          ∙ ap (λ (k : ℕ). filled (to + k) ps (pasted to (led ahead (section_at rest from r.end)) out)) part_size
          ∙ ap (filled (to + n) ps) (sym put_back)

      pub turn_more : (next : ℕ) → r.next ≡ Some next
          → filled to (parts_in ahead (drop from rest)) out ≡ filled (to + n) (parts_in true (drop (from + next) rest)) (take to out ++ (part ++ drop (to + n - to) (drop to out)))
      turn_more next h = turn_on _ (parts_more next h)

      pub turn_last : r.next ≡ None → filled to (parts_in ahead (drop from rest)) out ≡ take to out ++ (part ++ drop (to + n - to) (drop to out))
      unfolding filled
      turn_last h = turn_on [] (parts_last h)

  -- the bytes that are left to be counted
  pub count_more : (next : ℕ) → r.next ≡ Some next → total length (parts_in ahead (drop from rest)) ≡ n + total length (parts_in true (drop (from + next) rest))
  unfolding total
  count_more next h = ap (total length) (parts_more next h) ∙ ap (λ (k : ℕ). k + total length (parts_in true (drop (from + next) rest))) part_size

  pub count_last : r.next ≡ None → total length (parts_in ahead (drop from rest)) ≡ n
  unfolding total
  count_last h = ap (total length) (parts_last h) ∙ omega (arith, part_size)

  -- the length of all that is left
  pub left_count : (next : ℕ) → r.next ≡ Some next → total length (parts_in ahead (drop from rest)) ≡ n + 4 + length (joined (drop (from + next) rest))
  left_count next h = omega (arith, count_more next h, parts_total true (split lf_lf_text (drop (from + next) rest)))
