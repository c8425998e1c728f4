-- A parameter put into a header that is held: by what `replace` answers and writes, the call does what the answer asks for.
-- Assumes nothing.
use Rattle.std.specs.Prelude.{if◌then◌else◌, Result, Ok, Err}
use Rattle.std.specs.Result.{result_unwrap_or}
use Prim.Native.Nat.{ℕ, ◌+◌, ◌-◌, ◌≤◌}
use mathlib.Core.Path.{◌≡◌, refl, sym, ap, ◌∙◌, subst}
use mathlib.Core.Bool.{Bool, true, false}
use mathlib.Core.List.{List, [], ◌∷◌, ◌++◌, append_assoc, append-nil}
use native.Mathlib.Omega.{arith}
use lib.Dec.{ltb}
use lib.ListN.{length, take, replicate, length-append}
use Rattle.format.specs.Bytes.{Bytes, total, texts, over}
use Rattle.format.specs.Refusals.{accepted, numbers, table, refuse_if, ◌>>◌, no_room}
use Rattle.format.specs.Message.{Entry, LoneHeader, entry, need_entry, need_alone}
use Rattle.format.specs.Calls.{room, if_room_alone}
use Rattle.format.specs.Layout.{HoldsAlone, entry_bytes, layout_entry, layout_alone, header_of}
use Rattle.format.specs.Lending.{laid_alone, leaves_header}
use Rattle.format.specs.Told.{checked, told, meant}
use Rattle.format.specs.declared.CpimHeader.{CpimHeader}
use Rattle.format.specs.declared.refusal.Refusal.{Refusal}
use Rattle.format.proofs.Messages.Layout.{entries_length}
use Rattle.store_splice.specs.Spliced.{entry_size, spliced, Parted}
use Rattle.store_splice.proofs.Answered.{answer}
use Rattle.store_splice.proofs.Splicing.{section_spliced, section_need, section_count, section_within}
use Rattle.store_check.proofs.HeldParts.{AloneParts, alone_parts}
use Rattle.header.specs.Alone.{alone_in, with_params, DoesAlone}

-- Room is judged, and the header laid: what the record and the store then are is what the answer asks for.
module _ (m new : CpimHeader) (store after : Bytes) (k : LoneHeader) where
  placed_by : (short : Bool) (r : Result (Unit {0}) Refusal) → checked r ≡ refuse_if short (no_room (need_alone k))
      → after ≡ (if short then store else over (layout_alone k) store) → new ≡ header_of k
      → DoesAlone (alone_in m store) (alone_in (result_unwrap_or (answer r new) m) after) (told (answer r new)) (◌>>◌ (refuse_if short (no_room (need_alone k))) (accepted k))
  unfolding refuse_if numbers leaves_header laid_alone ◌>>◌ checked told
  placed_by true (Err e) a s made =
      let same : meant e ≡ no_room (need_alone k) = cc in
      record { answered = ap table same; left = λ i. record { header = m; store = s i } }
  placed_by false (Ok u) a s made = record { answered = refl; left = λ i. record { header = made i; store = s i } }
  placed_by true (Ok u) a s made = absurd (cc)
  placed_by false (Err e) a s made = absurd (cc)

  placed : (r : Result (Unit {0}) Refusal) (q : Result CpimHeader Refusal) → q ≡ answer r new
      → checked r ≡ room (length store) (need_alone k)
      → after ≡ (if ltb (length store) (need_alone k) then store else over (layout_alone k) store) → new ≡ header_of k
      → DoesAlone (alone_in m store) (alone_in (result_unwrap_or q m) after) (told q) (if_room_alone (length store) k)
  unfolding if_room_alone room
  placed r q e a s made =
      subst (λ (x : Result CpimHeader Refusal). DoesAlone (alone_in m store) (alone_in (result_unwrap_or x m) after) (told x) (if_room_alone (length store) k)) (sym e)
      (placed_by (ltb (length store) (need_alone k)) r a s made)

-- The store with a parameter spliced in is the layout of the header with that parameter.
param_laid : (k : LoneHeader) (store : Bytes) → take (need_alone k) store ≡ layout_alone k
    → (l g t : List Entry) (x : Entry) (at old many : ℕ) → Parted need_entry k.params l g t at old many
    → spliced (16 + length k.value + at) old (need_alone k) (layout_entry x) store ≡ layout_alone (with_params k (l ++ (x ∷ t)))
unfolding layout_alone
param_laid k store laid l g t x at old many p =
    let front = replicate 16 0 ++ k.value in
    let long : 16 + length k.value ≡ length front = sym (length-append (replicate 16 0) k.value) in
    let new = texts layout_entry (l ++ (x ∷ t)) in
    let whole : take (need_alone k) store ≡ front ++ (texts layout_entry k.params ++ []) =
    laid
    ∙ sym (append_assoc (replicate 16 0) k.value (texts layout_entry k.params))
    ∙ ap (λ (y : Bytes). front ++ y) (sym (append-nil (texts layout_entry k.params))) in
    ap (λ (i : ℕ). spliced (i + at) old (need_alone k) (layout_entry x) store) long
    ∙ section_spliced layout_entry need_entry entries_length front [] store (need_alone k) k.params l g t x at old many whole p
    ∙ ap (λ (y : Bytes). front ++ y) (append-nil new)
    ∙ append_assoc (replicate 16 0) k.value new

module _ (m : CpimHeader) (store after : Bytes) (r : Result (Unit {0}) Refusal) (q : Result CpimHeader Refusal) (k : LoneHeader) (held : HoldsAlone m store k)
    (name value : Bytes) (at old many : ℕ) (l g t : List Entry) (p : Parted need_entry k.params l g t at old many) where
  sizes : AloneParts m store k
  sizes = alone_parts m store k held

  x : Entry
  x = entry name value

  count : length (l ++ (x ∷ t)) + many ≡ m.params + 1
  count = section_count layout_entry need_entry entries_length k.params l g t x at old many p ∙ ap (λ (i : ℕ). i + 1) (sym sizes.params)

  size : total need_entry (l ++ (x ∷ t)) + old ≡ total need_entry k.params + entry_size name value []
  unfolding need_entry x
  size = omega (arith, section_need layout_entry need_entry entries_length k.params l g t x at old many p)

  within : (at + old ≤ total need_entry k.params) × (many ≤ length k.params)
  within = section_within layout_entry need_entry entries_length k.params l g t at old many p

  need_param : m.size - old + entry_size name value [] ≡ need_alone (with_params k (l ++ (x ∷ t)))
  unfolding need_alone
  need_param = omega (arith, sizes.used, sizes.valuelen, size, within.0)

  record-param :
      record m { params = m.params - many + 1; size = m.size - old + entry_size name value [] }
      ≡ header_of (with_params k (l ++ (x ∷ t)))
  unfolding header_of
  record-param =
      let a : m.params - many + 1 ≡ length (l ++ (x ∷ t)) = omega (arith, sizes.params, count, within.1) in
      let b : m.size - old + entry_size name value [] ≡ need_alone (with_params k (l ++ (x ∷ t))) = omega (arith, need_param) in
      λ i. record { valuelen = sizes.valuelen i; params = a i; size = b i }

  laid_param : spliced (16 + m.valuelen + at) old m.size (entry_bytes name value 0 []) store ≡ layout_alone (with_params k (l ++ (x ∷ t)))
  unfolding layout_entry x
  laid_param =
      ap (λ (i : ℕ). spliced (16 + i + at) old m.size (entry_bytes name value 0 []) store) sizes.valuelen
      ∙ ap (λ (u : ℕ). spliced (16 + length k.value + at) old u (entry_bytes name value 0 []) store) sizes.size
      ∙ param_laid k store held.laid l g t x at old many p

  pub param_put : (new : CpimHeader) → new ≡ record m { params = m.params - many + 1; size = m.size - old + entry_size name value [] }
      → q ≡ answer r new
      → checked r ≡ room (length store) (m.size - old + entry_size name value [])
      → after ≡ (if ltb (length store) (m.size - old + entry_size name value []) then store else over (spliced (16 + m.valuelen + at) old m.size (entry_bytes name value 0 []) store) store)
      → DoesAlone (alone_in m store) (alone_in (result_unwrap_or q m) after) (told q) (if_room_alone (length store) (with_params k (l ++ (entry name value ∷ t))))
  unfolding x
  param_put new is answers checks left =
      let made = with_params k (l ++ (x ∷ t)) in
      placed m new store after made r q answers
      (checks ∙ ap (room (length store)) need_param)
      (left
      ∙ ap (λ (i : ℕ). if ltb (length store) i then store else over (spliced (16 + m.valuelen + at) old m.size (entry_bytes name value 0 []) store) store) need_param
      ∙ ap (λ (s : Bytes). if ltb (length store) (need_alone made) then store else over s store) laid_param)
      (is ∙ record-param)
