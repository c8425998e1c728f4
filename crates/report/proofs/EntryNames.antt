-- The names of headers and content headers that are held: one that is found has a number below 1,000, and at most 128 bytes. Assumes nothing.
use Prim.Native.Nat.{ℕ, zero, suc, ◌+◌, ◌-◌, ◌≤◌}
use mathlib.Core.Path.{◌≡◌, refl, ap, ◌∙◌, subst}
use mathlib.Core.Bool.{Bool, true}
use mathlib.Core.List.{List, [], ◌∷◌}
use mathlib.Core.Option.{Option, none, some}
use native.Mathlib.Omega.{arith}
use lib.ListN.{length, take, drop, replicate}
use Rattle.format.specs.Bytes.{Bytes, all}
use Rattle.format.specs.Message.{Header, Message, name_of, entry_name, valid_header, valid_content}
use Rattle.format.specs.Message as message
use Rattle.format.specs.Layout.{layout_header, Holds}
use Rattle.format.specs.Lending.{head_lent}
use Rattle.format.specs.LookingUp.{nth, mapped, get_content}
use Rattle.format.specs.declared.CpimMessage.{CpimMessage}
use Rattle.format.proofs.Lists.{and_left, and_right}
use Rattle.format.proofs.Messages.Parts.{Within, message_parts, header_parts, content_parts}
use Rattle.format.proofs.Messages.Checked.{name_checked}
use Rattle.store_entries.specs.Stored.{Stored, stored_header, shaped_all, entries_in}
use Rattle.store_check.specs.Holding.{message_holds}
use Rattle.store_check.specs.Decoding.{message_in}
use Rattle.store_check.proofs.HeldParts.{HeldParts, held_parts, part_of}
use Rattle.store_check.proofs.HeldCases.{in_head}
use Rattle.lookup_nth.specs.Listed.{Listed, stored_of, entry_of}
use Rattle.lookup_nth.specs.declared.Entry.{Entry}
use Rattle.lookup_nth.proofs.NthElement.{nth_header_lem}
use Rattle.report.specs.Words.{Near}

-- Of a list of few elements whose names are short.
module _ {A : Type 0} (key : A → Bytes) (p : A → Bool) (short : (x : A) → p x ≡ true → length (key x) ≤ 128) where
  near_from : (n i : ℕ) (xs : List A) → all p xs ≡ true → i + length xs ≤ 1000 → Near (i + n) (mapped key (nth n xs))
  unfolding nth all
  near_from n i [] h f = tt
  near_from zero i (x ∷ xs) h f = (omega arith, short x (and_left (p x) (all p xs) h))
  near_from (suc n) i (x ∷ xs) h f =
      let e : i + 1 + n ≡ i + suc n = omega arith in
      subst (λ (j : ℕ). Near j (mapped key (nth n xs))) e (near_from n (i + 1) xs (and_right (p x) (all p xs) h) (omega arith))

  near : (n : ℕ) (xs : List A) → all p xs ≡ true → length xs ≤ 1000 → Near n (mapped key (nth n xs))
  near n xs h f =
      let e : 0 + n ≡ n = omega arith in
      subst (λ (j : ℕ). Near j (mapped key (nth n xs))) e (near_from n 0 xs h (omega arith))

module _ (m : CpimMessage) (head : Bytes) (h : message_holds m head ≡ true) where
  -- what they hold, whatever the body
  abbrev some_body : Message
  some_body = message_in m head (replicate m.bodylen 0)

  parts : HeldParts (head_lent m head) some_body
  parts = held_parts (head_lent m head) some_body (in_head m head h)

  limits : Within some_body
  limits = message_parts some_body (in_head m head h).within

  listed : (k : Message) → Holds (head_lent m head) k → Listed layout_header k.headers (take (256 + m.headerlen - 256) (drop 256 head)) m.headers
  listed k held =
      let p = held_parts (head_lent m head) k held in
      record { bytes = part_of 256 m.headerlen head ∙ p.headers_part_lem; entries = p.headers }

  pub headers_shaped : shaped_all m.headers (take (256 + m.headerlen - 256) (drop 256 head)) ≡ true
  headers_shaped = ap (shaped_all m.headers) (part_of 256 m.headerlen head) ∙ parts.headers_shaped

  pub name_none : (n : ℕ) → none ≡ nth n (entries_in m.headers (take (256 + m.headerlen - 256) (drop 256 head)))
      → (k : Message) → Holds (head_lent m head) k → none ≡ mapped name_of (nth n k.headers)
  name_none n e k held = by (nth n k.headers) (e ∙ nth_header_lem k.headers _ m.headers (listed k held) n)
    where
      by : (o : Option Header) → none ≡ mapped stored_header o → none ≡ mapped name_of o
      by none e = refl
      by (some h) e = cc

  pub name_some : (n : ℕ) (r : Entry) → some (stored_of r) ≡ nth n (entries_in m.headers (take (256 + m.headerlen - 256) (drop 256 head)))
      → (k : Message) → Holds (head_lent m head) k → some r.name.now ≡ mapped name_of (nth n k.headers)
  unfolding stored_header
  name_some n r e k held = by (nth n k.headers) (e ∙ nth_header_lem k.headers _ m.headers (listed k held) n)
    where
      by : (o : Option Header) → some (stored_of r) ≡ mapped stored_header o → some r.name.now ≡ mapped name_of o
      by none e = cc
      by (some h) e =
          let same : stored_of r ≡ stored_header h = cc in
          ap (λ (x : Stored). some x.name) same

  module _ (n : ℕ) (o : Option Bytes) where
    pub header_near : ((k : Message) → Holds (head_lent m head) k → o ≡ mapped name_of (nth n k.headers)) → Near n o
    header_near f =
        rw (f some_body (in_head m head h))
        (near name_of valid_header (λ e v. (name_checked e.name (header_parts e v).named).short) n some_body.headers limits.headers.each (omega (arith, limits.headers.few)))

    pub content_near : ((k : Message) → Holds (head_lent m head) k → o ≡ mapped entry_name (nth n k.contents)) → Near n o
    content_near f =
        rw (f some_body (in_head m head h))
        (near entry_name valid_content (λ e v. (name_checked e.name (content_parts e v).named).short) n some_body.contents limits.contents.each (omega (arith, limits.contents.few)))

-- the n-th content header's name
pub content_none : (n : ℕ) (k : Message) → none ≡ get_content (some k) n → none ≡ mapped entry_name (nth n k.contents)
unfolding get_content
content_none n k = by (nth n k.contents)
  where
    by : (o : Option message.Entry) → none ≡ o → none ≡ mapped entry_name o
    by none e = refl
    by (some x) e = cc

pub content_some : (n : ℕ) (r : Entry) (k : Message) → some (entry_of r) ≡ get_content (some k) n → some r.name.now ≡ mapped entry_name (nth n k.contents)
unfolding get_content
content_some n r k = by (nth n k.contents)
  where
    by : (o : Option message.Entry) → some (entry_of r) ≡ o → some r.name.now ≡ mapped entry_name o
    by none e = cc
    by (some x) e =
        let same : entry_of r ≡ x = cc in
        ap (λ (x : message.Entry). some x.name) same
