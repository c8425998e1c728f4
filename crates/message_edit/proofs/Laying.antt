-- The head store with an entry spliced in is the layout of the message with that entry. Assumes nothing.
use Rattle.std.specs.Prelude.{if◌then◌else◌, Result, Ok, Err}
use Rattle.std.specs.Result.{result_unwrap_or}
use Prim.Native.Nat.{ℕ, ◌+◌, ◌-◌}
use mathlib.Core.Path.{◌≡◌, refl, sym, ap, ◌∙◌, subst}
use mathlib.Core.Bool.{Bool, true, false}
use mathlib.Core.List.{List, [], ◌∷◌, ◌++◌, append_assoc, append-nil}
use mathlib.Core.Option.{none}
use native.Mathlib.Omega.{arith}
use lib.Dec.{ltb}
use lib.ListN.{length, take, replicate, length-append, length-replicate}
use Rattle.format.specs.Bytes.{Bytes, total, texts, over}
use Rattle.format.specs.Refusals.{accepted, numbers, table, refuse_if, ◌>>◌, no_room}
use Rattle.format.specs.Message.{Entry, Header, Message, need_entry, need_header, need, valid}
use Rattle.format.specs.Calls.{room, if_room, with_headers, with_contents}
use Rattle.format.specs.Layout.{layout_entry, layout_header, layout, record_of}
use Rattle.format.specs.Lending.{head_lent, laid_in, leaves}
use Rattle.format.specs.Told.{checked, told, meant}
use Rattle.format.specs.declared.CpimMessage.{CpimMessage}
use Rattle.format.specs.declared.refusal.Refusal.{Refusal}
use Rattle.format.proofs.Messages.Layout.{headers_length, entries_length, content_type_length}
use Rattle.format.proofs.Messages.Parts.{message_parts}
use Rattle.store_splice.specs.Spliced.{spliced, Parted}
use Rattle.store_splice.proofs.Answered.{answer}
use Rattle.store_splice.proofs.Splicing.{section_spliced}
use Rattle.message_edit.specs.Edits.{Does}

-- Room is judged, and the entry laid: what the record and the store then are is what the answer asks for.
module _ (m new : CpimMessage) (head after : Bytes) (k : Message) where
  placed_by : (short : Bool) (r : Result (Unit {0}) Refusal) → checked r ≡ refuse_if short (no_room (need k))
      → after ≡ (if short then head else over (layout k) head) → new ≡ record_of k
      → Does (head_lent m head) (head_lent (result_unwrap_or (answer r new) m) after) (told (answer r new)) (◌>>◌ (refuse_if short (no_room (need k))) (accepted k))
  unfolding refuse_if numbers leaves laid_in ◌>>◌ checked told
  placed_by true (Err e) a s made =
      let same : meant e ≡ no_room (need k) = cc in
      record { answered = ap table same; left = λ i. record { message = m; head = s i; body = none } }
  placed_by false (Ok u) a s made = record { answered = refl; left = λ i. record { message = made i; head = s i; body = none } }
  placed_by true (Ok u) a s made = absurd (cc)
  placed_by false (Err e) a s made = absurd (cc)

  pub placed : (r : Result (Unit {0}) Refusal) (q : Result CpimMessage Refusal) → q ≡ answer r new
      → checked r ≡ room (length head) (need k)
      → after ≡ (if ltb (length head) (need k) then head else over (layout k) head) → new ≡ record_of k
      → Does (head_lent m head) (head_lent (result_unwrap_or q m) after) (told q) (if_room (length head) k)
  unfolding if_room room
  placed r q e a s made =
      subst (λ (x : Result CpimMessage Refusal). Does (head_lent m head) (head_lent (result_unwrap_or x m) after) (told x) (if_room (length head) k)) (sym e)
      (placed_by (ltb (length head) (need k)) r a s made)

-- The bytes before the headers.
module _ (k : Message) (v : valid k ≡ true) where
  opening : Bytes
  opening = k.type ++ replicate (256 - length k.type) 0

  opening_length : length opening ≡ 256
  unfolding opening
  opening_length =
      let t = content_type_length k.type (message_parts k v).type.passed in
      simp (length-append, length-replicate) (omega arith)

  layout_opening : layout k ≡ opening ++ (texts layout_header k.headers ++ texts layout_entry k.contents)
  unfolding layout opening
  layout_opening = sym (append_assoc k.type (replicate (256 - length k.type) 0) (texts layout_header k.headers ++ texts layout_entry k.contents))

  -- an entry among the headers, and among the content headers
  module _ (head : Bytes) (laid : take (need k) head ≡ layout k) where
    pub header_laid : (l g h : List Header) (x : Header) (at old many : ℕ) → Parted need_header k.headers l g h at old many
        → spliced (256 + at) old (need k) (layout_header x) head ≡ layout (with_headers k (l ++ (x ∷ h)))
    unfolding layout opening
    header_laid l g h x at old many p =
        let back = texts layout_entry k.contents in
        ap (λ (i : ℕ). spliced (i + at) old (need k) (layout_header x) head) (sym opening_length)
        ∙ section_spliced layout_header need_header headers_length opening back head (need k) k.headers l g h x at old many (laid ∙ layout_opening) p
        ∙ append_assoc k.type (replicate (256 - length k.type) 0) (texts layout_header (l ++ (x ∷ h)) ++ back)

    pub content_laid : (l g h : List Entry) (x : Entry) (at old many : ℕ) → Parted need_entry k.contents l g h at old many
        → spliced (256 + total need_header k.headers + at) old (need k) (layout_entry x) head ≡ layout (with_contents k (l ++ (x ∷ h)))
    unfolding layout opening
    content_laid l g h x at old many p =
        let heads = texts layout_header k.headers in
        let front = opening ++ heads in
        let long : 256 + total need_header k.headers ≡ length front = omega (arith, opening_length, headers_length k.headers, length-append opening heads) in
        let new = texts layout_entry (l ++ (x ∷ h)) in
        let whole : take (need k) head ≡ front ++ (texts layout_entry k.contents ++ []) =
        laid
        ∙ layout_opening
        ∙ sym (append_assoc opening heads (texts layout_entry k.contents))
        ∙ ap (λ (y : Bytes). front ++ y) (sym (append-nil (texts layout_entry k.contents))) in
        ap (λ (i : ℕ). spliced (i + at) old (need k) (layout_entry x) head) long
        ∙ section_spliced layout_entry need_entry entries_length front [] head (need k) k.contents l g h x at old many whole p
        ∙ ap (λ (y : Bytes). front ++ y) (append-nil new)
        ∙ append_assoc opening heads new
        ∙ append_assoc k.type (replicate (256 - length k.type) 0) (heads ++ new)
