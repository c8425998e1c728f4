-- The n-th of elements laid out one behind another: where it stands, and that name and value stand there. Assumes nothing.
use Prim.Native.Nat.{ℕ, zero, suc, ◌+◌, ◌-◌, ◌≤◌, ◌<◌}
use mathlib.Core.Path.{◌≡◌, refl, sym, ap, ◌∙◌}
use mathlib.Core.Bool.{true}
use mathlib.Core.List.{List, [], ◌∷◌, ◌++◌, map, append_assoc}
use mathlib.Core.Option.{Option, none, some}
use native.Mathlib.Omega.{arith}
use lib.ListN.{length, take, drop, length-take, length-drop, take-append-drop}
use lib.Seq.{drop-drop, drop-append-add, length-take-le}
use Rattle.format.specs.Bytes.{Bytes, total, texts}
use Rattle.format.specs.Message.{Entry, need_entry}
use Rattle.format.specs.Layout.{layout_entry}
use Rattle.format.specs.LookingUp.{nth}
use Rattle.format.proofs.Messages.Layout.{layout_entry_length}
use Rattle.store_entries.specs.Stored.{Stored, stored_bytes, stored_size, stored_entry, size_in, stored_in, name_length, value_length, shaped_all, entries_in}
use Rattle.store_entries.proofs.EntryShape.{within_numbers}
use Rattle.store_entries.proofs.Layouts.{entry_bytes_lem, entry_size_lem, laid_read, laid_size}
use Rattle.lookup_nth.specs.Listed.{Listed}
use Rattle.lookup_nth.proofs.NthPlace.{nth_none, place_shaped}
use Rattle.lookup_places.specs.Rows.{item_size}
use Rattle.lookup_places.proofs.Laid.{Begins, item_in, begins}
use Rattle.lookup_places.specs.Spots.{no_part, no_pair, PartIs, PairIs, entry_place}

-- what was found stands at the place: o is there, and some bytes behind it
pub record There {A : Type 0} (f : A → Bytes) (s : Bytes) (at : ℕ) (o : Option A) : Type 0 where
  pub it : A
  pub more : Bytes
  pub is : o ≡ some it
  pub bytes : drop at s ≡ f it ++ more

-- the first n entries read from bytes are the first n of all of them
pub entries_take : (n count : ℕ) (s : Bytes) → n ≤ count → entries_in n s ≡ take n (entries_in count s)
unfolding entries_in
entries_take zero count s h = refl
entries_take (suc n) zero s h = absurd (omega arith)
entries_take (suc n) (suc count) s h = ap (λ (es : List Stored). stored_in s ∷ es) (entries_take n count (drop (size_in s) s) (omega arith))

pub take_map : {A B : Type 0} (f : A → B) (n : ℕ) (xs : List A) → take n (map f xs) ≡ map f (take n xs)
take_map f zero xs = refl
take_map f (suc n) [] = refl
take_map f (suc n) (x ∷ xs) = ap (λ ys. f x ∷ ys) (take_map f n xs)

module _ {A : Type 0} (f : A → Bytes) (need : A → ℕ) (sized : (x : A) → length (f x) ≡ need x) where
  pub nth_there : (n : ℕ) (xs : List A) (rest : Bytes) → n < length xs → There f (texts f xs ++ rest) (total need (take n xs)) (nth n xs)
  unfolding texts total nth
  nth_there n [] rest h = absurd (omega arith)
  nth_there zero (x ∷ xs) rest h = record { it = x; more = texts f xs ++ rest; is = refl; bytes = append_assoc (f x) (texts f xs) rest }
  nth_there (suc n) (x ∷ xs) rest h =
      let t = nth_there n xs rest (omega arith) in
      record {
        it = t.it;
        more = t.more;
        is = t.is;
        bytes =
            ap (drop (need x + total need (take n xs))) (append_assoc (f x) (texts f xs) rest)
            ∙ ap (λ (k : ℕ). drop (k + total need (take n xs)) (f x ++ (texts f xs ++ rest))) (sym (sized x))
            ∙ drop-append-add (f x) (texts f xs ++ rest) (total need (take n xs))
            ∙ t.bytes;
      }

  -- elements in a part of a store
  pub listed_there : (xs : List A) (s : Bytes) (from to n : ℕ) → take (to - from) (drop from s) ≡ texts f xs → n < length xs
      → There f s (from + total need (take n xs)) (nth n xs)
  listed_there xs s from to n e h =
      let rest = drop (to - from) (drop from s) in
      let t = nth_there n xs rest h in
      let whole : drop from s ≡ texts f xs ++ rest = sym (take-append-drop (to - from) (drop from s)) ∙ ap (λ (x : Bytes). x ++ rest) e in
      record {
        it = t.it;
        more = t.more;
        is = t.is;
        bytes = sym (drop-drop (total need (take n xs)) from s) ∙ ap (drop (total need (take n xs))) whole ∙ t.bytes;
      }

-- the bytes of the first n, as `pass_first` counts them
module _ {A : Type 0} (stored : A → Stored) (bytes : A → Bytes) (same : (x : A) → bytes x ≡ stored_bytes (stored x)) (need : A → ℕ) (sized : (x : A) → stored_size (stored x) ≡ need x) where
  pub passed_as : (xs : List A) (s : Bytes) (count n at : ℕ) → Listed bytes xs s count → n < count → at ≡ total stored_size (entries_in n (drop 0 s)) → at ≡ total need (take n xs)
  passed_as xs s count n at l h e =
      e
      ∙ ap (total stored_size)
      (entries_take n count s (omega arith)
      ∙ ap (take n) ((λ i. entries_in (l.entries i) (l.bytes i)) ∙ laid_read stored bytes same xs)
      ∙ take_map stored n xs)
      ∙ laid_size stored bytes same need sized (take n xs)

-- An entry at a place, and what is answered of it.
module _ (s : Bytes) (at : ℕ) (inside : at ≤ length s) (e : Entry) (more : Bytes) (h : drop at s ≡ layout_entry e ++ more) where
  entry_begins : Begins (item_in (stored_entry e)) (drop at s)
  entry_begins = rw (h, entry_bytes_lem e) (begins (stored_entry e) more)

  pub pair_there : (name value : ℕ) → name ≡ name_length (drop at s) → value ≡ value_length (drop at s)
      → PairIs s (at + 16) (some e) (record { found = true; start = at + 16; name = name; value = value })
  unfolding stored_entry item_size
  pair_there name value f g =
      let b = entry_begins in
      let n = f ∙ b.name_number in
      let v = g ∙ b.value_number in
      let k : at + (16 + length e.name) ≡ at + 16 + length e.name = omega arith in
      record {
        told = λ i. record { found = true; start = at + 16; name = n i; value = v i };
        there =
            rw (n, v)
            (λ i. some (record {
              name = (ap (take (length e.name)) (sym (drop-drop 16 at s)) ∙ b.name_part) i;
              value = (ap (λ (j : ℕ). take (length e.value) (drop j s)) (sym k) ∙ ap (take (length e.value)) (sym (drop-drop (16 + length e.name) at s)) ∙ b.value_part_lem) i;
            }));
        within = omega (arith, n, v, b.within, length-drop at s);
      }

-- What `nth_pair` answers.
module _ (s : Bytes) (from to count n : ℕ) (low : from ≤ to) (high : to ≤ length s) (es : List Entry)
    (l : Listed layout_entry es (take (to - from) (drop from s)) count) where
  pub pair_absent : count ≤ n → PairIs s (entry_place from es n) (nth n es) no_pair
  pair_absent h = rw (nth_none n es (omega (arith, l.entries))) (record { told = refl; there = refl; within = omega arith })

  passed_bytes : n < count → (at : ℕ) → at ≡ total stored_size (entries_in n (drop 0 (take (to - from) (drop from s)))) → at ≡ total need_entry (take n es)
  passed_bytes h at e = passed_as stored_entry layout_entry entry_bytes_lem need_entry entry_size_lem es (take (to - from) (drop from s)) count n at l h e

  pub pair_found : n < count → (at name value : ℕ) → at ≡ total stored_size (entries_in n (drop 0 (take (to - from) (drop from s))))
      → from + at ≤ length s
      → name ≡ name_length (drop (from + at) s) → value ≡ value_length (drop (from + at) s)
      → PairIs s (entry_place from es n) (nth n es) (record { found = true; start = from + at + 16; name = name; value = value })
  pair_found h at name value e inside f g =
      let p = passed_bytes h at e in
      let t = listed_there layout_entry need_entry layout_entry_length es s from to n l.bytes (omega (arith, l.entries)) in
      rw (t.is, sym p) (pair_there s (from + at) inside t.it t.more (rw p t.bytes) name value f g)

-- the place that `pass_first` finds is within the store
pub passed_within : (s : Bytes) (from to count n at : ℕ) → from ≤ to → to ≤ length s → shaped_all count (take (to - from) (drop from s)) ≡ true → n < count
    → at ≡ total stored_size (entries_in n (drop 0 (take (to - from) (drop from s)))) → from + at + 16 ≤ length s
passed_within s from to count n at low high shape more e =
    let part = take (to - from) (drop from s) in
    omega (arith, within_numbers part at (place_shaped part count n at shape more e), length-take (to - from) (drop from s), length-drop from s)

-- A part at a place, and what is answered of it.
pub part_there : (s : Bytes) (at n : ℕ) (b : Bytes) → at + n ≤ length s → take n (drop at s) ≡ b
    → PartIs s at (some b) (record { found = true; start = at; length = n })
part_there s at n b inside e =
    let l : n ≡ length b = sym (length-take-le n (drop at s) (omega (arith, length-drop at s))) ∙ ap length e in
    record { told = λ i. record { found = true; start = at; length = l i }; there = λ i. some (e i); within = inside }

pub part_absent : (s : Bytes) (at : ℕ) → PartIs s at none no_part
part_absent s at = record { told = refl; there = refl; within = omega arith }

pub pair_none : (s : Bytes) (at : ℕ) → PairIs s at none no_pair
pair_none s at = record { told = refl; there = refl; within = omega arith }
