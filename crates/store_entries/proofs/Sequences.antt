-- Entries one behind another: their bytes and the entries read from them are one another's, and the first of them comes off. Assumes nothing.
use Prim.Native.Nat.{ℕ, zero, suc, ◌-◌, ◌<◌}
use mathlib.Core.Path.{◌≡◌, refl, ap, ◌∙◌}
use mathlib.Core.Bool.{true, false≢true}
use mathlib.Core.List.{List, [], ◌∷◌, ◌++◌}
use native.Mathlib.Omega.{arith}
use lib.ListN.{length, drop}
use Rattle.format.specs.Bytes.{Bytes, is_empty, texts}
use Rattle.format.proofs.Rulesets.{tests}
use Rattle.store_entries.specs.Stored.{Stored, stored_bytes, size_in, stored_in, shaped, shaped_all, entries_in}
use Rattle.store_entries.proofs.EntryShape.{shape, shape_shaped}
use Rattle.store_entries.proofs.EntryRead.{shape_bytes, read_rest, read_stored, read_shape}

pub entries_bytes : (n : ℕ) (s : Bytes) → shaped_all n s ≡ true → s ≡ texts stored_bytes (entries_in n s)
unfolding shaped_all entries_in texts is_empty
entries_bytes zero [] h = refl
entries_bytes zero (b ∷ s) h = absurd (false≢true h)
entries_bytes (suc n) s h =
    let p = simp tests at h in
    shape_bytes s (shape s p.0) ∙ ap (λ (x : Bytes). stored_bytes (stored_in s) ++ x) (entries_bytes n (drop (size_in s) s) p.1)

pub entries_length : (n : ℕ) (s : Bytes) → length (entries_in n s) ≡ n
unfolding entries_in
entries_length zero s = refl
entries_length (suc n) s = ap suc (entries_length n (drop (size_in s) s))

pub entries_read : (es : List Stored) → entries_in (length es) (texts stored_bytes es) ≡ es
unfolding entries_in texts
entries_read [] = refl
entries_read (e ∷ es) =
    let rest = texts stored_bytes es in
    λ i. read_stored e rest i ∷ (ap (entries_in (length es)) (read_rest e rest) ∙ entries_read es) i

pub entries_shaped : (es : List Stored) → shaped_all (length es) (texts stored_bytes es) ≡ true
unfolding shaped_all texts is_empty
entries_shaped [] = refl
entries_shaped (e ∷ es) =
    let rest = texts stored_bytes es in
    simp tests (shape_shaped (stored_bytes e ++ rest) (read_shape e rest), ap (shaped_all (length es)) (read_rest e rest) ∙ entries_shaped es)

pub suc_less : (n : ℕ) → suc n - 1 ≡ n
suc_less n = omega arith

-- the first of some entries, and those behind it
pub next_shaped : (n : ℕ) (s : Bytes) → 0 < n → shaped_all n s ≡ true → (shaped s ≡ true) × (shaped_all (n - 1) (drop (size_in s) s) ≡ true)
unfolding shaped_all
next_shaped zero s h a = absurd (omega arith)
next_shaped (suc n) s h a = rw (suc_less n) (simp tests at a)

pub next_entry : (n : ℕ) (s : Bytes) → 0 < n → entries_in n s ≡ stored_in s ∷ entries_in (n - 1) (drop (size_in s) s)
unfolding entries_in
next_entry zero s h = absurd (omega arith)
next_entry (suc n) s h = rw (suc_less n) refl

pub no_entry : (n : ℕ) (s : Bytes) → n ≡ 0 → entries_in n s ≡ []
unfolding entries_in
no_entry zero s h = refl
no_entry (suc n) s h = absurd (omega arith)
