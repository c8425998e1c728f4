-- An entry written part by part is the entry pasted, and an entry pasted before moved bytes is the used bytes spliced.
-- Assumes nothing.
use Prim.Native.Nat.{ℕ, ◌+◌, ◌-◌, ◌≤◌}
use mathlib.Core.Path.{◌≡◌, refl, sym, ap, ◌∙◌}
use mathlib.Core.List.{List, ◌∷◌, ◌++◌, append_assoc}
use native.Mathlib.Omega.{arith}
use lib.ListN.{length, take, drop, length-append, length-take, length-drop}
use lib.Seq.{length-take-le, take-take, take-append_seam, drop-append-add, drop-append_seam}
use Rattle.format.specs.Bytes.{Bytes, total, texts, pasted, over}
use Rattle.format.specs.Layout.{fixed, entry_bytes}
use Rattle.format.proofs.Lists.{texts_append, total_append}
use Rattle.octets.proofs.Paste.{pasted_pasted, pasted_front, drop_take}
use Rattle.store_splice.specs.Spliced.{entry_size, spliced, Parted}

pub entry_length : (n v : Bytes) (k : ℕ) (t : Bytes) → length (entry_bytes n v k t) ≡ entry_size n v t
unfolding entry_bytes fixed
entry_length n v k t = simp length-append (omega arith)

-- the four parts of an entry, its value of this size
pub entry_pasted : (at : ℕ) (n v : Bytes) (size k : ℕ) (t d : Bytes) → size ≡ length v → at ≤ length d
    → pasted (at + 16 + length n + size) t (pasted (at + 16 + length n) v (pasted (at + 16) n (pasted at (fixed (length n) size k (length t)) d)))
    ≡ pasted at (entry_bytes n v k t) d
unfolding entry_bytes fixed
entry_pasted at n v size k t d e h =
    let f = fixed (length n) (length v) k (length t) in
    let two = pasted_pasted at f n d h in
    let three : pasted (at + 16 + length n) v (pasted at (f ++ n) d) ≡ pasted at ((f ++ n) ++ v) d =
    ap (λ (i : ℕ). pasted i v (pasted at (f ++ n) d)) (omega (arith, length-append f n)) ∙ pasted_pasted at (f ++ n) v d h in
    let four : pasted (at + 16 + length n + length v) t (pasted at ((f ++ n) ++ v) d) ≡ pasted at (((f ++ n) ++ v) ++ t) d =
    ap (λ (i : ℕ). pasted i t (pasted at ((f ++ n) ++ v) d)) (omega (arith, length-append f n, length-append (f ++ n) v)) ∙ pasted_pasted at ((f ++ n) ++ v) t d h in
    ap (λ (z : ℕ). pasted (at + 16 + length n + z) t (pasted (at + 16 + length n) v (pasted (at + 16) n (pasted at (fixed (length n) z k (length t)) d)))) e
    ∙ ap (λ (x : Bytes). pasted (at + 16 + length n + length v) t (pasted (at + 16 + length n) v x)) two
    ∙ ap (pasted (at + 16 + length n + length v) t) three
    ∙ four
    ∙ ap (λ (x : Bytes). pasted at x d) (append_assoc (f ++ n) v t ∙ append_assoc f n (v ++ t))

-- bytes moved behind the place, and an entry pasted there
pub splice_pasted : (at old used size : ℕ) (e d : Bytes) → length e ≡ size → at + old ≤ used → used ≤ length d → used - old + size ≤ length d
    → pasted at e (pasted (at + size) (take (used - (at + old)) (drop (at + old) d)) d) ≡ over (spliced at old used e d) d
unfolding spliced pasted
splice_pasted at old used size e d same a b c =
    let t = take (used - (at + old)) (drop (at + old) d) in
    let moved : length t ≡ used - (at + old) = length-take-le (used - (at + old)) (drop (at + old) d) (simp length-drop (omega arith)) in
    let n : used ≡ at + old + (used - (at + old)) = omega arith in
    let part : drop (at + old) (take used d) ≡ t =
    ap (λ (k : ℕ). drop (at + old) (take k d)) n ∙ drop_take (at + old) (used - (at + old)) d in
    let front = take at d ++ (e ++ drop (at + old) (take used d)) in
    let whole : front ≡ take at d ++ (e ++ t) = ap (λ (x : Bytes). take at d ++ (e ++ x)) part in
    let long : length front ≡ at + length (e ++ t) =
    ap length whole ∙ length-append (take at d) (e ++ t) ∙ ap (λ (k : ℕ). k + length (e ++ t)) (length-take-le at d (omega arith)) in
    ap (λ (k : ℕ). pasted at e (pasted (at + k) t d)) (sym same)
    ∙ pasted_front at e t d (omega arith)
    ∙ sym (append_assoc (take at d) (e ++ t) (drop (at + length (e ++ t)) d))
    ∙ ap (λ (x : Bytes). x ++ drop (at + length (e ++ t)) d) (sym whole)
    ∙ ap (λ (k : ℕ). front ++ drop k d) (sym long)

-- the used bytes in parts, of which one is replaced
pub spliced_parts : (used : ℕ) (store a g b e : Bytes) → take used store ≡ a ++ (g ++ b) → spliced (length a) (length g) used e store ≡ a ++ (e ++ b)
unfolding spliced
spliced_parts used store a g b e h =
    let long : length a ≤ used = omega (arith, length-take used store, ap length h, length-append a (g ++ b)) in
    let front : take (length a) store ≡ a =
    sym (take-take (length a) used store long) ∙ ap (take (length a)) h ∙ take-append_seam a (g ++ b) in
    let back : drop (length a + length g) (take used store) ≡ b =
    ap (drop (length a + length g)) h ∙ drop-append-add a (g ++ b) (length g) ∙ drop-append_seam g b in
    rw (front, back) refl

-- Elements laid out one behind another, between other bytes: an element in the place of some of them.
module _ {A : Type 0} (bytes : A → Bytes) (need : A → ℕ) (sized : (xs : List A) → length (texts bytes xs) ≡ total need xs) where
  pub section_spliced : (front back store : Bytes) (used : ℕ) (xs l g h : List A) (x : A) (at old many : ℕ)
      → take used store ≡ front ++ (texts bytes xs ++ back) → Parted need xs l g h at old many
      → spliced (length front + at) old used (bytes x) store ≡ front ++ (texts bytes (l ++ (x ∷ h)) ++ back)
  unfolding texts
  section_spliced front back store used xs l g h x at old many laid p =
      let a = front ++ texts bytes l in
      let b = texts bytes h ++ back in
      let inner : texts bytes xs ≡ texts bytes l ++ (texts bytes g ++ texts bytes h) =
      ap (texts bytes) p.parts ∙ texts_append bytes l (g ++ h) ∙ ap (λ (y : Bytes). texts bytes l ++ y) (texts_append bytes g h) in
      let whole : take used store ≡ a ++ (texts bytes g ++ b) =
      laid ∙ ap (λ (y : Bytes). front ++ (y ++ back)) inner ∙ simp append_assoc refl in
      let at-is : length front + at ≡ length a = omega (arith, p.place, sized l, length-append front (texts bytes l)) in
      let old-is : old ≡ length (texts bytes g) = p.bytes ∙ sym (sized g) in
      let after : texts bytes (l ++ (x ∷ h)) ≡ texts bytes l ++ (bytes x ++ texts bytes h) = texts_append bytes l (x ∷ h) in
      let assoc : a ++ (bytes x ++ b) ≡ front ++ ((texts bytes l ++ (bytes x ++ texts bytes h)) ++ back) = simp append_assoc refl in
      ap (λ (i : ℕ). spliced i old used (bytes x) store) at-is
      ∙ ap (λ (o : ℕ). spliced (length a) o used (bytes x) store) old-is
      ∙ spliced_parts used store a (texts bytes g) b (bytes x) whole
      ∙ assoc
      ∙ ap (λ (y : Bytes). front ++ (y ++ back)) (sym after)

  -- what the elements need then
  pub section_need : (xs l g h : List A) (x : A) (at old many : ℕ) → Parted need xs l g h at old many
      → total need (l ++ (x ∷ h)) + old ≡ total need xs + need x
  unfolding total
  section_need xs l g h x at old many p =
      omega (arith, p.bytes, ap (total need) p.parts ∙ total_append need l (g ++ h), total_append need g h, total_append need l (x ∷ h))

  pub section_count : (xs l g h : List A) (x : A) (at old many : ℕ) → Parted need xs l g h at old many
      → length (l ++ (x ∷ h)) + many ≡ length xs + 1
  section_count xs l g h x at old many p =
      omega (arith, p.entries, ap length p.parts ∙ length-append l (g ++ h), length-append g h, length-append l (x ∷ h))

  pub section_within : (xs l g h : List A) (at old many : ℕ) → Parted need xs l g h at old many → (at + old ≤ total need xs) × (many ≤ length xs)
  section_within xs l g h at old many p = (
    omega (arith, p.place, p.bytes, ap (total need) p.parts ∙ total_append need l (g ++ h), total_append need g h),
    omega (arith, p.entries, ap length p.parts ∙ length-append l (g ++ h), length-append g h),
  )
