-- An entry's bytes and the entry read from them are one another's: bytes of the shape are those of the entry read, and the entry read
-- from an entry's bytes is that entry. Assumes nothing.
use Prim.Native.Nat.{ℕ, ◌+◌, ◌*◌, ◌≤◌, ◌<◌, ◌%◌, ◌/◌}
use mathlib.Core.Path.{◌≡◌, refl, sym, ap, ◌∙◌}
use mathlib.Core.List.{[], ◌∷◌, ◌++◌, append_assoc}
use native.Mathlib.Nat.{add_assoc}
use native.Mathlib.Omega.{arith}
use lib.ListN.{length, take, drop, get_or, replicate, length-append, length-drop, take-append-drop}
use lib.Seq.{take-append_seam, drop-append_seam, drop-append-add, drop_at, drop-drop, take-add, length-take-le}
use Rattle.format.specs.Bytes.{Bytes}
use Rattle.format.specs.Layout.{fixed, entry_bytes}
use Rattle.store_entries.specs.Stored.{Stored, stored_bytes, stored_size, name_length, value_length, param_count, tail_length, size_in, name_in, value_in, tail_in, stored_in}
use Rattle.store_entries.proofs.EntryShape.{Shape}
use Rattle.store_entries.proofs.Zeros.{all_zero, zero_all}

-- the numbers of an entry and what they count, one behind another
six : (s : Bytes) → 6 ≤ length s → s ≡ get_or s 0 0 ∷ get_or s 1 0 ∷ get_or s 2 0 ∷ get_or s 3 0 ∷ get_or s 4 0 ∷ get_or s 5 0 ∷ drop 6 s
six (a ∷ b ∷ c ∷ d ∷ e ∷ f ∷ s) h = refl
six [] h = absurd (omega arith)
six (a ∷ []) h = absurd (omega arith)
six (a ∷ b ∷ []) h = absurd (omega arith)
six (a ∷ b ∷ c ∷ []) h = absurd (omega arith)
six (a ∷ b ∷ c ∷ d ∷ []) h = absurd (omega arith)
six (a ∷ b ∷ c ∷ d ∷ e ∷ []) h = absurd (omega arith)

two_low : (a b : ℕ) → a < 256 → (a + 256 * b) % 256 ≡ a
two_low a b h = omega arith

two_high : (a b : ℕ) → a < 256 → (a + 256 * b) / 256 ≡ b
two_high a b h = omega arith

two_whole : (n : ℕ) → n % 256 + 256 * (n / 256) ≡ n
two_whole n = omega arith

four_parts : (a b c d : ℕ) (s : Bytes) → take (a + (b + (c + d))) s ≡ take a s ++ (take b (drop a s) ++ (take c (drop (a + b) s) ++ take d (drop (a + (b + c)) s)))
four_parts a b c d s =
    take-add a (b + (c + d)) s
    ∙ ap (λ (x : Bytes). take a s ++ x)
    (take-add b (c + d) (drop a s)
    ∙ ap (λ (x : Bytes). take b (drop a s) ++ x)
    (ap (take (c + d)) (drop-drop b a s)
    ∙ take-add c d (drop (a + b) s)
    ∙ ap (λ (x : Bytes). take c (drop (a + b) s) ++ take d x) (drop-drop c (a + b) s ∙ ap (λ (n : ℕ). drop n s) (add_assoc a b c))))

module _ (s : Bytes) (h : Shape s) where
  pub name_length_lem : length (name_in s) ≡ name_length s
  unfolding name_in size_in
  name_length_lem = length-take-le (name_length s) (drop 16 s) (simp length-drop (omega (arith, h.whole)))

  pub value_length_lem : length (value_in s) ≡ value_length s
  unfolding value_in size_in
  value_length_lem = length-take-le (value_length s) (drop (16 + name_length s) s) (simp length-drop (omega (arith, h.whole)))

  pub tail_length_lem : length (tail_in s) ≡ tail_length s
  unfolding tail_in size_in
  tail_length_lem = length-take-le (tail_length s) (drop (16 + (name_length s + value_length s)) s) (simp length-drop (omega (arith, h.whole)))

  pub stored_size_lem : stored_size (stored_in s) ≡ size_in s
  unfolding stored_size stored_in size_in
  stored_size_lem = rw (name_length_lem, value_length_lem, tail_length_lem) refl

  -- the first 16 bytes
  fixed_bytes : take 16 s ≡ fixed (length (name_in s)) (length (value_in s)) (param_count s) (length (tail_in s))
  unfolding fixed name_length value_length param_count tail_length
  fixed_bytes =
      let zeros : take 10 (drop 6 s) ≡ replicate 10 0 =
      all_zero (take 10 (drop 6 s)) h.zeros ∙ ap (λ (n : ℕ). replicate n 0) (length-take-le 10 (drop 6 s) (simp length-drop (omega (arith, h.numbers)))) in
      let low = two_low (get_or s 1 0) (get_or s 2 0) h.value_low in
      let high = two_high (get_or s 1 0) (get_or s 2 0) h.value_low in
      let tlow = two_low (get_or s 4 0) (get_or s 5 0) h.tail_low in
      let thigh = two_high (get_or s 4 0) (get_or s 5 0) h.tail_low in
      ap (take 16) (six s (omega (arith, h.numbers)))
      ∙ rw (name_length_lem, value_length_lem, tail_length_lem, low, high, tlow, thigh, sym zeros) refl

  -- bytes of the shape are those of the entry read from them, and the rest
  pub shape_bytes : s ≡ stored_bytes (stored_in s) ++ drop (size_in s) s
  unfolding stored_bytes stored_in entry_bytes name_in value_in tail_in size_in
  shape_bytes =
      let n = name_length s in
      let v = value_length s in
      let t = tail_length s in
      sym (take-append-drop (16 + (n + (v + t))) s)
      ∙ ap (λ (x : Bytes). x ++ drop (16 + (n + (v + t))) s)
      (four_parts 16 n v t s
      ∙ ap (λ (x : Bytes). x ++ (take n (drop 16 s) ++ (take v (drop (16 + n) s) ++ take t (drop (16 + (n + v)) s)))) fixed_bytes)

-- The entry read from an entry's bytes.
module _ (e : Stored) (rest : Bytes) where
  pub read_size : size_in (stored_bytes e ++ rest) ≡ stored_size e
  unfolding size_in stored_size stored_bytes entry_bytes fixed name_length value_length tail_length
  read_size = rw (two_whole (length e.value), two_whole (length e.tail)) refl

  pub size_length : length (stored_bytes e) ≡ stored_size e
  unfolding stored_bytes entry_bytes fixed stored_size
  size_length = simp length-append (omega arith)

  pub read_rest : drop (size_in (stored_bytes e ++ rest)) (stored_bytes e ++ rest) ≡ rest
  read_rest = drop_at (stored_bytes e) rest (size_in (stored_bytes e ++ rest)) (size_length ∙ sym read_size)

  -- its parts, one behind another
  abbrev numbers : Bytes
  numbers = fixed (length e.name) (length e.value) e.params (length e.tail)

  parts : stored_bytes e ++ rest ≡ numbers ++ (e.name ++ (e.value ++ (e.tail ++ rest)))
  unfolding stored_bytes entry_bytes
  parts =
      append_assoc numbers (e.name ++ (e.value ++ e.tail)) rest
      ∙ ap (λ (x : Bytes). numbers ++ x)
      (append_assoc e.name (e.value ++ e.tail) rest ∙ ap (λ (x : Bytes). e.name ++ x) (append_assoc e.value e.tail rest))

  name_number : name_length (stored_bytes e ++ rest) ≡ length e.name
  unfolding name_length stored_bytes entry_bytes fixed
  name_number = refl

  value_number : value_length (stored_bytes e ++ rest) ≡ length e.value
  unfolding value_length stored_bytes entry_bytes fixed
  value_number = two_whole (length e.value)

  tail_number : tail_length (stored_bytes e ++ rest) ≡ length e.tail
  unfolding tail_length stored_bytes entry_bytes fixed
  tail_number = two_whole (length e.tail)

  pub read_name : name_in (stored_bytes e ++ rest) ≡ e.name
  unfolding name_in fixed
  read_name =
      ap (λ (n : ℕ). take n (drop 16 (stored_bytes e ++ rest))) name_number
      ∙ ap (λ (x : Bytes). take (length e.name) (drop 16 x)) parts
      ∙ take-append_seam e.name (e.value ++ (e.tail ++ rest))

  pub read_value_lem : value_in (stored_bytes e ++ rest) ≡ e.value
  unfolding value_in fixed
  read_value_lem =
      let n = length e.name in
      let v = length e.value in
      rw (name_number, value_number)
      (ap (λ (x : Bytes). take v (drop (16 + n) x)) parts
      ∙ ap (take v) (drop-append-add numbers (e.name ++ (e.value ++ (e.tail ++ rest))) n ∙ drop-append_seam e.name (e.value ++ (e.tail ++ rest)))
      ∙ take-append_seam e.value (e.tail ++ rest))

  pub read_tail : tail_in (stored_bytes e ++ rest) ≡ e.tail
  unfolding tail_in fixed
  read_tail =
      let n = length e.name in
      let v = length e.value in
      let t = length e.tail in
      rw (name_number, value_number, tail_number)
      (ap (λ (x : Bytes). take t (drop (16 + (n + v)) x)) parts
      ∙ ap (take t)
      (drop-append-add numbers (e.name ++ (e.value ++ (e.tail ++ rest))) (n + v)
      ∙ drop-append-add e.name (e.value ++ (e.tail ++ rest)) v
      ∙ drop-append_seam e.value (e.tail ++ rest))
      ∙ take-append_seam e.tail rest)

  pub read_stored : stored_in (stored_bytes e ++ rest) ≡ e
  unfolding stored_in param_count stored_bytes entry_bytes fixed
  read_stored = λ i. record { name = read_name i; value = read_value_lem i; params = e.params; tail = read_tail i }

  pub read_shape : Shape (stored_bytes e ++ rest)
  unfolding stored_bytes entry_bytes fixed stored_size
  read_shape =
      let long : length (stored_bytes e ++ rest) ≡ stored_size e + length rest = length-append (stored_bytes e) rest ∙ ap (λ (n : ℕ). n + length rest) size_length in
      record {
        numbers = omega (arith, long);
        zeros = zero_all 10;
        whole = omega (arith, long, read_size);
        value_low = omega arith;
        tail_low = omega arith;
      }
