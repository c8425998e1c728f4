-- A message laid out fills exactly its need, and what is laid over the start of a store stands there, the store's length kept.
-- Assumes nothing.
use Prim.Native.Nat.{ℕ, ◌+◌, ◌≤◌}
use mathlib.Core.Path.{◌≡◌, refl, sym, ap, ◌∙◌}
use mathlib.Core.Bool.{true}
use mathlib.Core.List.{List, [], ◌∷◌, ◌++◌}
use mathlib.Core.Option.{Option, none, some}
use native.Mathlib.Omega.{arith}
use lib.ListN.{length, take, drop, length-append, length-take, length-drop, length-replicate, take-append-drop}
use lib.Seq.{take_at, take-append_seam}
use Rattle.format.specs.Bytes.{Bytes, total, texts, over}
use Rattle.format.specs.Limits.{max_type}
use Rattle.format.specs.Refusals.{type_too_long, passes}
use Rattle.format.specs.Validators.{content_type}
use Rattle.format.specs.Message.{Entry, LoneHeader, Header, Message, need_entry, need_alone, need_header, need, valid, valid_alone}
use Rattle.format.specs.Layout.{fixed, entry_bytes, layout_entry, layout_header, layout_alone, layout, header_of, Lent, BodyAt, Holds, HoldsAlone}
use Rattle.format.specs.Lending.{over_lent, laid_in}
use Rattle.format.proofs.Lists.{total_same, length_texts}
use Rattle.format.proofs.Steps.{then_passes, at_most_passes}
use Rattle.format.proofs.Messages.Parts.{message_parts}

-- Lengths of what is laid out.

entry_bytes_length : (n v : Bytes) (k : ℕ) (tail : Bytes) → length (entry_bytes n v k tail) ≡ 16 + (length n + (length v + length tail))
unfolding entry_bytes fixed
entry_bytes_length n v k tail = simp length-append (omega arith)

pub layout_entry_length : (e : Entry) → length (layout_entry e) ≡ need_entry e
unfolding layout_entry need_entry
layout_entry_length e = omega (arith, entry_bytes_length e.name e.value 0 [])

pub entries_length : (es : List Entry) → length (texts layout_entry es) ≡ total need_entry es
entries_length es = length_texts layout_entry es ∙ total_same (λ e. length (layout_entry e)) need_entry layout_entry_length es

pub layout_header_length : (h : Header) → length (layout_header h) ≡ need_header h
unfolding layout_header need_header need_alone
layout_header_length h =
    omega (arith, entry_bytes_length h.name h.value (length h.params) (texts layout_entry h.params), entries_length h.params)

pub headers_length : (hs : List Header) → length (texts layout_header hs) ≡ total need_header hs
headers_length hs = length_texts layout_header hs ∙ total_same (λ h. length (layout_header h)) need_header layout_header_length hs

pub layout_alone_length : (a : LoneHeader) → length (layout_alone a) ≡ need_alone a
unfolding layout_alone need_alone
layout_alone_length a = simp length-append (omega (arith, entries_length a.params))

pub content_type_length : (t : Bytes) → passes (content_type t) ≡ true → length t ≤ max_type
unfolding content_type
content_type_length t h =
    let a = then_passes _ _ h in
    let b = then_passes _ _ a.1 in
    at_most_passes max_type type_too_long (length t) b.0

pub layout_length : (m : Message) → valid m ≡ true → length (layout m) ≡ need m
unfolding layout need
layout_length m v =
    let t = content_type_length m.type (message_parts m v).type.passed in
    simp (length-append, length-replicate) (omega (arith, headers_length m.headers, entries_length m.contents))

-- Bytes at the start of a store that is long enough.

pub over_length : (s store : Bytes) → length s ≤ length store → length (over s store) ≡ length store
over_length s store h = simp (length-append, length-drop) (omega arith)

-- what stands at the start of a store, laid there again, leaves the store
pub over_same : (s store : Bytes) → take (length s) store ≡ s → over s store ≡ store
over_same s store h = ap (λ x. x ++ drop (length s) store) (sym h) ∙ take-append-drop (length s) store

pub taken : (n : ℕ) (s store : Bytes) → take n store ≡ s → length s ≡ n → n ≤ length store
taken n s store h e = omega (arith, sym (length-take n store) ∙ ap length h)

-- What is laid into lent stores is held in them.

pub body_laid : (b : Bytes) (o : Option Bytes) → BodyAt (over_lent b o) b
body_laid b none = tt
body_laid b (some store) = take-append_seam b (drop (length b) store)

pub laid_holds : (l : Lent) (m : Message) → valid m ≡ true → Holds (laid_in l m) m
unfolding laid_in
laid_holds l m v =
    record {
      within = v;
      recorded = refl;
      laid = take_at (layout m) (drop (length (layout m)) l.head) (need m) (layout_length m v);
      stored = body_laid m.body l.body;
    }

-- the same of a header alone
pub laid_alone_lem : (store : Bytes) (h : LoneHeader) → valid_alone h ≡ true → HoldsAlone (header_of h) (over (layout_alone h) store) h
laid_alone_lem store h v =
    record {
      within = v;
      recorded = refl;
      laid = take_at (layout_alone h) (drop (length (layout_alone h)) store) (need_alone h) (layout_alone_length h);
    }
