-- An entry put into a message that is held: by what `replace` answers and writes, the call does what the answer asks for.
-- Assumes nothing.
use Rattle.std.specs.Prelude.{if◌then◌else◌, Result}
use Rattle.std.specs.Result.{result_unwrap_or}
use Prim.Native.Nat.{ℕ, ◌+◌, ◌-◌, ◌≤◌}
use mathlib.Core.Path.{◌≡◌, refl, sym, ap, ◌∙◌}
use mathlib.Core.List.{List, [], ◌∷◌, ◌++◌}
use native.Mathlib.Omega.{arith}
use lib.Dec.{ltb}
use lib.ListN.{length}
use Rattle.format.specs.Bytes.{Bytes, total, over}
use Rattle.format.specs.Message.{Entry, Header, Message, entry, need_entry, need_header, need_alone, need}
use Rattle.format.specs.Calls.{room, if_room, with_headers, with_contents}
use Rattle.format.specs.Layout.{Holds, entry_bytes, layout_entry, layout_header, layout, record_of}
use Rattle.format.specs.Lending.{head_lent}
use Rattle.format.specs.Told.{checked, told}
use Rattle.format.specs.declared.refusal.Refusal.{Refusal}
use Rattle.format.specs.declared.CpimMessage.{CpimMessage}
use Rattle.format.proofs.Messages.Layout.{headers_length, entries_length}
use Rattle.store_splice.specs.Spliced.{entry_size, spliced, Parted}
use Rattle.store_splice.proofs.Answered.{answer}
use Rattle.store_splice.proofs.Splicing.{section_need, section_count, section_within}
use Rattle.message_edit.specs.Edits.{Does, Spelt}
use Rattle.message_edit.proofs.Laying.{placed, header_laid, content_laid}

module _ (m : CpimMessage) (head after : Bytes) (r : Result (Unit {0}) Refusal) (q : Result CpimMessage Refusal) (k : Message) (held : Holds (head_lent m head) k) where
  headers_is : m.headers ≡ length k.headers
  unfolding record_of
  headers_is = ap (λ (q : CpimMessage). q.headers) held.recorded

  headerlen_is : m.headerlen ≡ total need_header k.headers
  unfolding record_of
  headerlen_is = ap (λ (q : CpimMessage). q.headerlen) held.recorded

  contents_is : m.contents ≡ length k.contents
  unfolding record_of
  contents_is = ap (λ (q : CpimMessage). q.contents) held.recorded

  contentlen_is : m.contentlen ≡ total need_entry k.contents
  unfolding record_of
  contentlen_is = ap (λ (q : CpimMessage). q.contentlen) held.recorded

  used_is : 256 + (m.headerlen + m.contentlen) ≡ need k
  unfolding need record_of
  used_is = rw held.recorded refl

  used : ℕ
  used = 256 + (m.headerlen + m.contentlen)

  -- what the store needs and is, once its used bytes have an entry of size bytes in the place of the old ones
  replaced : (e : Bytes) (at old size : ℕ) (new : CpimMessage) (made : Message)
      → used - old + size ≡ need made → spliced at old (need k) e head ≡ layout made → new ≡ record_of made
      → q ≡ answer r new
      → checked r ≡ room (length head) (used - old + size)
      → after ≡ (if ltb (length head) (used - old + size) then head else over (spliced at old used e head) head)
      → Does (head_lent m head) (head_lent (result_unwrap_or q m) after) (told q) (if_room (length head) made)
  unfolding used
  replaced e at old size new made needs laid recorded answers checks left =
      placed m new head after made r q answers
      (checks ∙ ap (room (length head)) needs)
      (left
      ∙ ap (λ (i : ℕ). if ltb (length head) i then head else over (spliced at old used e head) head) needs
      ∙ ap (λ (s : Bytes). if ltb (length head) (need made) then head else over s head) (ap (λ (u : ℕ). spliced at old u e head) used_is ∙ laid))
      recorded

  module _ (name value : Bytes) (at old many : ℕ) where
    module _ (params : ℕ) (tail : Bytes) (l g h : List Header) (x : Header) (p : Parted need_header k.headers l g h at old many) (spelt : Spelt x name value params tail) where
      header_bytes : layout_header x ≡ entry_bytes name value params tail
      unfolding layout_header
      header_bytes = rw (spelt.name_is, spelt.value_is, spelt.params_are, spelt.tail_is) refl

      header_size_lem : need_header x ≡ entry_size name value tail
      unfolding need_header need_alone
      header_size_lem =
          omega (arith, ap length spelt.name_is, ap length spelt.value_is, ap length spelt.tail_is, entries_length x.params)

      count : length (l ++ (x ∷ h)) + many ≡ m.headers + 1
      count = section_count layout_header need_header headers_length k.headers l g h x at old many p ∙ ap (λ (i : ℕ). i + 1) (sym headers_is)

      size : total need_header (l ++ (x ∷ h)) + old ≡ m.headerlen + entry_size name value tail
      size = omega (arith, section_need layout_header need_header headers_length k.headers l g h x at old many p, headerlen_is, header_size_lem)

      within : (at + old ≤ total need_header k.headers) × (many ≤ length k.headers)
      within = section_within layout_header need_header headers_length k.headers l g h at old many p

      need_header_lem : 256 + (m.headerlen + m.contentlen) - old + entry_size name value tail ≡ need (with_headers k (l ++ (x ∷ h)))
      unfolding need
      need_header_lem = omega (arith, headerlen_is, contentlen_is, size, within.0)

      record-header :
          record m { headers = m.headers - many + 1; headerlen = m.headerlen - old + entry_size name value tail }
          ≡ record_of (with_headers k (l ++ (x ∷ h)))
      unfolding record_of
      record-header =
          let a : m.headers - many + 1 ≡ length (l ++ (x ∷ h)) = omega (arith, headers_is, count, within.1) in
          let b : m.headerlen - old + entry_size name value tail ≡ total need_header (l ++ (x ∷ h)) = omega (arith, headerlen_is, size, within.0) in
          λ i. record { typelen = (held.recorded i).typelen; headers = a i; headerlen = b i; contents = (held.recorded i).contents; contentlen = (held.recorded i).contentlen; bodylen = (held.recorded i).bodylen }

      pub header_put : (new : CpimMessage) → new ≡ record m { headers = m.headers - many + 1; headerlen = m.headerlen - old + entry_size name value tail }
          → q ≡ answer r new
          → checked r ≡ room (length head) (256 + (m.headerlen + m.contentlen) - old + entry_size name value tail)
          → after ≡ (if ltb (length head) (256 + (m.headerlen + m.contentlen) - old + entry_size name value tail) then head else over (spliced (256 + at) old (256 + (m.headerlen + m.contentlen)) (entry_bytes name value params tail) head) head)
          → Does (head_lent m head) (head_lent (result_unwrap_or q m) after) (told q) (if_room (length head) (with_headers k (l ++ (x ∷ h))))
      unfolding used
      header_put new is =
          replaced (entry_bytes name value params tail) (256 + at) old (entry_size name value tail) new (with_headers k (l ++ (x ∷ h))) need_header_lem
          (ap (λ (e : Bytes). spliced (256 + at) old (need k) e head) (sym header_bytes) ∙ header_laid k held.within head held.laid l g h x at old many p)
          (is ∙ record-header)

    module _ (l g h : List Entry) (p : Parted need_entry k.contents l g h at old many) where
      entry_bytes_lem : layout_entry (entry name value) ≡ entry_bytes name value 0 []
      unfolding layout_entry
      entry_bytes_lem = refl

      entries_count : length (l ++ (entry name value ∷ h)) + many ≡ m.contents + 1
      entries_count =
          section_count layout_entry need_entry entries_length k.contents l g h (entry name value) at old many p ∙ ap (λ (i : ℕ). i + 1) (sym contents_is)

      entries_size : total need_entry (l ++ (entry name value ∷ h)) + old ≡ m.contentlen + entry_size name value []
      unfolding need_entry
      entries_size =
          omega (arith, section_need layout_entry need_entry entries_length k.contents l g h (entry name value) at old many p, contentlen_is)

      entries_within : (at + old ≤ total need_entry k.contents) × (many ≤ length k.contents)
      entries_within = section_within layout_entry need_entry entries_length k.contents l g h at old many p

      need_content : 256 + (m.headerlen + m.contentlen) - old + entry_size name value [] ≡ need (with_contents k (l ++ (entry name value ∷ h)))
      unfolding need
      need_content = omega (arith, headerlen_is, contentlen_is, entries_size, entries_within.0)

      record-content :
          record m { contents = m.contents - many + 1; contentlen = m.contentlen - old + entry_size name value [] }
          ≡ record_of (with_contents k (l ++ (entry name value ∷ h)))
      unfolding record_of
      record-content =
          let a : m.contents - many + 1 ≡ length (l ++ (entry name value ∷ h)) = omega (arith, contents_is, entries_count, entries_within.1) in
          let b : m.contentlen - old + entry_size name value [] ≡ total need_entry (l ++ (entry name value ∷ h)) = omega (arith, contentlen_is, entries_size, entries_within.0) in
          λ i. record { typelen = (held.recorded i).typelen; headers = (held.recorded i).headers; headerlen = (held.recorded i).headerlen; contents = a i; contentlen = b i; bodylen = (held.recorded i).bodylen }

      pub content_put : (new : CpimMessage) → new ≡ record m { contents = m.contents - many + 1; contentlen = m.contentlen - old + entry_size name value [] }
          → q ≡ answer r new
          → checked r ≡ room (length head) (256 + (m.headerlen + m.contentlen) - old + entry_size name value [])
          → after ≡ (if ltb (length head) (256 + (m.headerlen + m.contentlen) - old + entry_size name value []) then head else over (spliced (256 + m.headerlen + at) old (256 + (m.headerlen + m.contentlen)) (entry_bytes name value 0 []) head) head)
          → Does (head_lent m head) (head_lent (result_unwrap_or q m) after) (told q) (if_room (length head) (with_contents k (l ++ (entry name value ∷ h))))
      unfolding used
      content_put new is =
          replaced (entry_bytes name value 0 []) (256 + m.headerlen + at) old (entry_size name value []) new (with_contents k (l ++ (entry name value ∷ h))) need_content
          (ap (λ (i : ℕ). spliced (256 + i + at) old (need k) (entry_bytes name value 0 []) head) headerlen_is
          ∙ ap (λ (e : Bytes). spliced (256 + total need_header k.headers + at) old (need k) e head) (sym entry_bytes_lem)
          ∙ content_laid k held.within head held.laid l g h (entry name value) at old many p)
          (is ∙ record-content)
