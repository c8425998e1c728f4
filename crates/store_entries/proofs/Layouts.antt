-- What is laid out entry by entry is read back entry by entry: the parameters and content headers, and the headers, of
-- crates/format/specs/Layout.antt are entries as they are stored. Assumes nothing.
use Prim.Native.Nat.{ℕ}
use mathlib.Core.Path.{◌≡◌, refl, sym}
use mathlib.Core.Bool.{true}
use mathlib.Core.List.{List, [], ◌∷◌, map}
use native.Mathlib.Omega.{arith}
use lib.ListN.{length, length-map}
use Rattle.format.specs.Bytes.{Bytes, total, texts}
use Rattle.format.specs.Message.{Entry, Header, need_entry, need_alone, need_header}
use Rattle.format.specs.Layout.{layout_entry, layout_header}
use Rattle.format.proofs.Messages.Layout.{entries_length}
use Rattle.store_entries.specs.Stored.{Stored, stored_bytes, stored_size, stored_entry, stored_header, shaped_all, entries_in}
use Rattle.store_entries.proofs.Sequences.{entries_read, entries_shaped}

-- one
pub entry_bytes_lem : (e : Entry) → layout_entry e ≡ stored_bytes (stored_entry e)
unfolding layout_entry stored_bytes stored_entry
entry_bytes_lem e = refl

pub header_bytes : (h : Header) → layout_header h ≡ stored_bytes (stored_header h)
unfolding layout_header stored_bytes stored_header
header_bytes h = refl

pub entry_size_lem : (e : Entry) → stored_size (stored_entry e) ≡ need_entry e
unfolding stored_size stored_entry need_entry
entry_size_lem e = omega arith

pub header_size_lem : (h : Header) → stored_size (stored_header h) ≡ need_header h
unfolding stored_size stored_header need_header need_alone
header_size_lem h = omega (arith, entries_length h.params)

-- Many: elements of any kind, laid out as the entry that each is stored as.
module _ {A : Type 0} (stored : A → Stored) (bytes : A → Bytes) (same : (x : A) → bytes x ≡ stored_bytes (stored x)) where
  pub laid_bytes : (xs : List A) → texts bytes xs ≡ texts stored_bytes (map stored xs)
  unfolding texts
  laid_bytes [] = refl
  laid_bytes (x ∷ xs) = rw (same x, laid_bytes xs) refl

  pub laid_read : (xs : List A) → entries_in (length xs) (texts bytes xs) ≡ map stored xs
  laid_read xs = rw (laid_bytes xs, sym (length-map xs stored)) (entries_read (map stored xs))

  pub laid_shaped : (xs : List A) → shaped_all (length xs) (texts bytes xs) ≡ true
  laid_shaped xs = rw (laid_bytes xs, sym (length-map xs stored)) (entries_shaped (map stored xs))

  pub laid_size : (need : A → ℕ) → ((x : A) → stored_size (stored x) ≡ need x) → (xs : List A) → total stored_size (map stored xs) ≡ total need xs
  unfolding total
  laid_size need sized [] = refl
  laid_size need sized (x ∷ xs) = rw (sized x, laid_size need sized xs) refl

-- parameters or content headers
module _ (es : List Entry) where
  pub contents_bytes : texts layout_entry es ≡ texts stored_bytes (map stored_entry es)
  contents_bytes = laid_bytes stored_entry layout_entry entry_bytes_lem es

  pub contents_read : entries_in (length es) (texts layout_entry es) ≡ map stored_entry es
  contents_read = laid_read stored_entry layout_entry entry_bytes_lem es

  pub contents_shaped : shaped_all (length es) (texts layout_entry es) ≡ true
  contents_shaped = laid_shaped stored_entry layout_entry entry_bytes_lem es

  pub contents_size : total stored_size (map stored_entry es) ≡ total need_entry es
  contents_size = laid_size stored_entry layout_entry entry_bytes_lem need_entry entry_size_lem es

-- headers
module _ (hs : List Header) where
  pub headers_bytes : texts layout_header hs ≡ texts stored_bytes (map stored_header hs)
  headers_bytes = laid_bytes stored_header layout_header header_bytes hs

  pub headers_read : entries_in (length hs) (texts layout_header hs) ≡ map stored_header hs
  headers_read = laid_read stored_header layout_header header_bytes hs

  pub headers_shaped : shaped_all (length hs) (texts layout_header hs) ≡ true
  headers_shaped = laid_shaped stored_header layout_header header_bytes hs

  pub headers_size : total stored_size (map stored_header hs) ≡ total need_header hs
  headers_size = laid_size stored_header layout_header header_bytes need_header header_size_lem hs
