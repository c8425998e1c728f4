-- What is handed out of a list of elements that are laid out: the n-th element. The laws hold for every kind of element. Assumes nothing.
use Rattle.std.specs.Prelude as std
use Rattle.std.proofs.Common.{option_map}
use Prim.Native.Nat.{ℕ, zero, suc}
use mathlib.Core.Path.{◌≡◌, refl, ap, ◌∙◌}
use mathlib.Core.Bool.{true}
use mathlib.Core.List.{List, [], ◌∷◌, map}
use mathlib.Core.Option.{Option, none, some}
use lib.ListN.{length}
use Rattle.format.specs.Bytes.{Bytes, total}
use Rattle.format.specs.Message as message
use Rattle.format.specs.Layout.{layout_entry, layout_header}
use Rattle.format.specs.LookingUp.{nth, mapped}
use Rattle.format.specs.Told.{given}
use Rattle.store_entries.specs.Stored.{Stored, stored_bytes, stored_entry, stored_header, shaped_all, entries_in}
use Rattle.store_entries.proofs.Layouts.{entry_bytes_lem, header_bytes, laid_read, laid_shaped}
use Rattle.lookup_nth.specs.Listed.{Listed, stored_of, entry_of}
use Rattle.lookup_nth.specs.declared.Entry.{Entry}

nth_map : {A B : Type 0} (f : A → B) (n : ℕ) (xs : List A) → nth n (map f xs) ≡ mapped f (nth n xs)
unfolding nth
nth_map f n [] = refl
nth_map f zero (x ∷ xs) = refl
nth_map f (suc n) (x ∷ xs) = nth_map f n xs

module _ {A : Type 0} (stored : A → Stored) (bytes : A → Bytes) (same : (x : A) → bytes x ≡ stored_bytes (stored x)) (xs : List A) (s : Bytes) (many : ℕ)
    (l : Listed bytes xs s many) where
  shaped_as : shaped_all many s ≡ true
  shaped_as = rw (l.bytes, l.entries) (laid_shaped stored bytes same xs)

  read_as_lem : entries_in many s ≡ map stored xs
  read_as_lem = rw (l.bytes, l.entries) (laid_read stored bytes same xs)

  nth_as : (n : ℕ) → nth n (entries_in many s) ≡ mapped stored (nth n xs)
  nth_as n = ap (nth n) read_as_lem ∙ nth_map stored n xs

-- parameters and content headers
module _ (es : List message.Entry) (s : Bytes) (many : ℕ) (l : Listed layout_entry es s many) where
  pub entries_shaped : shaped_all many s ≡ true
  entries_shaped = shaped_as stored_entry layout_entry entry_bytes_lem es s many l

  -- the n-th
  pub nth_entry : (n : ℕ) (r : std.Option Entry) → given (option_map stored_of r) ≡ nth n (entries_in many s) → given (option_map entry_of r) ≡ nth n es
  unfolding stored_entry
  nth_entry n r h = by r (nth n es) (h ∙ nth_as stored_entry layout_entry entry_bytes_lem es s many l n)
    where
      by : (r : std.Option Entry) (o : Option message.Entry) → given (option_map stored_of r) ≡ mapped stored_entry o → given (option_map entry_of r) ≡ o
      by std.None none e = refl
      by std.None (some x) e = cc
      by (std.Some r) none e = cc
      by (std.Some r) (some x) e =
          let same : stored_of r ≡ stored_entry x = cc in
          λ i. some (record { name = (same i).name; value = (same i).value })

-- headers
module _ (hs : List message.Header) (s : Bytes) (many : ℕ) (l : Listed layout_header hs s many) where
  pub headers_shaped : shaped_all many s ≡ true
  headers_shaped = shaped_as stored_header layout_header header_bytes hs s many l

  -- the n-th
  pub nth_header_lem : (n : ℕ) → nth n (entries_in many s) ≡ mapped stored_header (nth n hs)
  nth_header_lem n = nth_as stored_header layout_header header_bytes hs s many l n

  -- the parameters of all
  pub headers_params : total (λ e. e.params) (entries_in many s) ≡ total (λ h. length h.params) hs
  unfolding stored_header total
  headers_params = ap (total (λ e. e.params)) (read_as_lem stored_header layout_header header_bytes hs s many l) ∙ sums hs
    where
      sums : (hs : List message.Header) → total (λ e. e.params) (map stored_header hs) ≡ total (λ h. length h.params) hs
      sums [] = refl
      sums (h ∷ hs) = rw (sums hs) refl

-- a header that is handed out: its value, and its parameters as entries
pub header_stored : (r : Entry) (h : message.Header) → stored_of r ≡ stored_header h → (r.value.now ≡ h.value) × Listed layout_entry h.params r.params.bytes.now r.params.count
unfolding stored_header
header_stored r h e = (ap (λ (e : Stored). e.value) e, record { bytes = ap (λ (e : Stored). e.tail) e; entries = ap (λ (e : Stored). e.params) e })
