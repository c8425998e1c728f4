-- The need as a measure: what is read back of a header or content header needs at most what it needed itself, and where the sums
-- are equal nothing was stripped from any of them. A sum of parts, none of which grows, is equal only where each
-- part is. Assumes nothing.
use Rattle.std.specs.Prelude.{if◌then◌else◌}
use Prim.Native.Nat.{ℕ, ◌≤◌}
use mathlib.Core.Path.{◌≡◌, refl, sym, ap, ◌∙◌}
use mathlib.Core.Bool.{Bool, true, false, not, ◌&&◌}
use mathlib.Core.Logic.{⊎_elim}
use mathlib.Core.List.{List, [], ◌∷◌}
use native.Mathlib.Omega.{arith}
use Rattle.format.specs.Bytes.{Bytes, ascii, all, total, same_letters}
use Rattle.format.specs.Characters.{is_white, trim, clear_ends}
use Rattle.format.specs.Message.{Entry, entry, Header, need_entry, need_alone, need_header}
use Rattle.format.specs.Demand3.{not_type, clear_name, clear_content}
use Rattle.format.proofs.Lists.{bcase, and_intro, all_cons}
use Rattle.format.proofs.Characters.Trim.{trim_clear, trim_shorter, trim_full}

-- Where f is at most g on every element, and the sums are equal, f is g on every element; q is what follows of an element from that.
module _ {A : Type 0} (f g : A → ℕ) (below : (x : A) → f x ≤ g x) where
  total_below : (xs : List A) → total f xs ≤ total g xs
  unfolding total
  total_below [] = omega arith
  total_below (x ∷ xs) = omega (arith, below x, total_below xs)

  pub total_full : (q : A → Bool) → ((x : A) → f x ≡ g x → q x ≡ true) → (xs : List A) → total g xs ≤ total f xs → all q xs ≡ true
  unfolding total all
  total_full q e [] h = refl
  total_full q e (x ∷ xs) h =
      let a = below x in
      let b = total_below xs in
      all_cons q x xs (e x (omega arith)) (total_full q e xs (omega arith))

-- what is read back of a header without parameters
abbrev pub kept_header : Header → Header
kept_header h = record { name = trim h.name; value = h.value; params = [] }

abbrev pub kept_entry : Entry → Entry
kept_entry e = entry (trim e.name) (trim e.value)

-- a line of this name is read as one that sets the type
abbrev pub sets_type : Bytes → Bool
sets_type n = same_letters (ascii "Content-type") n

-- the need of what is read back of a content header: nothing where it sets the type
unfoldable pub kept_need : Entry → ℕ
kept_need e = if sets_type (trim e.name) then 0 else need_entry (kept_entry e)

pub header_below : (h : Header) → need_header (kept_header h) ≤ need_header h
unfolding need_header need_alone total
header_below h = omega (arith, trim_shorter is_white h.name)

pub header_full : (h : Header) → need_header (kept_header h) ≡ need_header h → clear_name h ≡ true
unfolding need_header need_alone total clear_name
header_full h e =
    let a = trim_shorter is_white h.name in
    trim_full is_white h.name (omega arith)

entry_below : (e : Entry) → kept_need e ≤ need_entry e
unfolding kept_need need_entry
entry_below e = ⊎_elim (λ h. rw h (omega arith)) (λ h. rw h (omega (arith, trim_shorter is_white e.name, trim_shorter is_white e.value))) (bcase (sets_type (trim e.name)))

entry_full : (e : Entry) → kept_need e ≡ need_entry e → (not_type e && clear_content e) ≡ true
unfolding kept_need need_entry not_type clear_content
entry_full e h = ⊎_elim typed other (bcase (sets_type (trim e.name)))
  where
    typed : sets_type (trim e.name) ≡ true → (not_type e && clear_content e) ≡ true
    typed s =
        let k = rw s at h in
        absurd (omega arith)

    other : sets_type (trim e.name) ≡ false → (not_type e && clear_content e) ≡ true
    other s =
        let k = rw s at h in
        let a = trim_shorter is_white e.name in
        let b = trim_shorter is_white e.value in
        let n = trim_full is_white e.name (omega arith) in
        let v = trim_full is_white e.value (omega arith) in
        and_intro (not (sets_type e.name)) (clear_ends is_white e.name && clear_ends is_white e.value)
        (ap not (sym (ap sets_type (trim_clear is_white e.name n)) ∙ s))
        (and_intro (clear_ends is_white e.name) (clear_ends is_white e.value) n v)

-- Where the content headers read back need as much as the content headers, none has lost anything.
pub contents_full : (es : List Entry) → total need_entry es ≤ total kept_need es → all (λ e. not_type e && clear_content e) es ≡ true
contents_full es k = total_full kept_need need_entry entry_below (λ e. not_type e && clear_content e) entry_full es k
