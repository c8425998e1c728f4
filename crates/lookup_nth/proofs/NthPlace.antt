-- The place behind the first n entries is that of the n-th. Assumes nothing.
use Prim.Native.Nat.{ℕ, zero, suc, ◌+◌, ◌≤◌, ◌<◌}
use mathlib.Core.Path.{◌≡◌, refl, sym, ap, ◌∙◌}
use mathlib.Core.Bool.{true}
use mathlib.Core.List.{List, [], ◌∷◌}
use mathlib.Core.Option.{Option, none, some}
use native.Mathlib.Omega.{arith}
use lib.ListN.{length, drop}
use lib.Seq.{drop-drop}
use Rattle.format.specs.Bytes.{Bytes, total}
use Rattle.format.specs.LookingUp.{nth}
use Rattle.format.proofs.Rulesets.{tests}
use Rattle.store_entries.specs.Stored.{Stored, stored_size, size_in, stored_in, shaped, shaped_all, entries_in}
use Rattle.store_entries.proofs.EntryShape.{shape}
use Rattle.store_entries.proofs.EntryRead.{stored_size_lem}
use Rattle.store_entries.proofs.Sequences.{entries_length}

-- there are too few
pub nth_none : {A : Type 0} (n : ℕ) (xs : List A) → length xs ≤ n → nth n xs ≡ none
unfolding nth
nth_none n [] h = refl
nth_none zero (x ∷ xs) h = absurd (omega arith)
nth_none (suc n) (x ∷ xs) h = nth_none n xs (omega arith)

pub too_few : (n count : ℕ) (s : Bytes) → count ≤ n → nth n (entries_in count s) ≡ none
too_few n count s h = nth_none n (entries_in count s) (omega (arith, entries_length count s))

-- an entry stands at the place
record Stands (s : Bytes) (at : ℕ) (o : Option Stored) : Type 0 where
  shape_is : shaped (drop at s) ≡ true
  entry_is : o ≡ some (stored_in (drop at s))

stands : (n count : ℕ) (s : Bytes) → shaped_all count s ≡ true → n < count → Stands s (total stored_size (entries_in n s)) (nth n (entries_in count s))
unfolding nth shaped_all entries_in total
stands n zero s h l = absurd (omega arith)
stands zero (suc count) s h l = record { shape_is = (simp tests at h).0; entry_is = refl }
stands (suc n) (suc count) s h l =
    let t = drop (size_in s) s in
    let p = simp tests at h in
    let rest = stands n count t p.1 (omega arith) in
    let behind : drop (total stored_size (entries_in n t)) t ≡ drop (stored_size (stored_in s) + total stored_size (entries_in n t)) s =
    drop-drop (total stored_size (entries_in n t)) (size_in s) s
    ∙ ap (λ (k : ℕ). drop (k + total stored_size (entries_in n t)) s) (sym (stored_size_lem s (shape s p.0))) in
    record { shape_is = ap shaped (sym behind) ∙ rest.shape_is; entry_is = rest.entry_is ∙ ap (λ (x : Bytes). some (stored_in x)) behind }

-- as `pass_first` finds it
module _ (s : Bytes) (count n at : ℕ) (h : shaped_all count s ≡ true) (more : n < count) (found : at ≡ total stored_size (entries_in n (drop 0 s))) where
  pub place_shaped : shaped (drop at s) ≡ true
  place_shaped = rw found (stands n count s h more).shape_is

  pub place_entry : nth n (entries_in count s) ≡ some (stored_in (drop at s))
  place_entry = rw found (stands n count s h more).entry_is
