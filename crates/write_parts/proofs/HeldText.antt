-- The parts of a message that record and head store hold, as they are handed to those that measure and write them, and the length of its
-- text. Assumes nothing.
use Prim.Native.Nat.{ℕ, ◌+◌, ◌-◌, ◌≤◌}
use mathlib.Core.Path.{◌≡◌, ap, ◌∙◌}
use mathlib.Core.Bool.{true}
use mathlib.Core.List.{[]}
use native.Mathlib.Omega.{arith}
use lib.ListN.{length, take, drop, length-take, length-drop}
use lib.Seq.{length-take-le}
use Rattle.format.specs.Bytes.{Bytes, texts}
use Rattle.format.specs.Characters.{replaced}
use Rattle.format.specs.Writing.{header_line, content_line, ended, write}
use Rattle.format.specs.declared.CpimMessage.{CpimMessage}
use Rattle.format.proofs.Rulesets.{tests}
use Rattle.store_entry_check.specs.EntriesHold.{entries_hold, headers_hold}
use Rattle.store_check.specs.Holding.{type_part, headers_part, contents_part, message_holds}
use Rattle.store_entry_check.specs.FromBytes.{entries_from, headers_from}
use Rattle.store_check.specs.Decoding.{message_in}
use Rattle.store_entry_check.specs.declared.kinds.Kind.TheVariants.{Content}
use Rattle.store_check.proofs.HeldParts.{part_of}
use Rattle.store_check.proofs.MessageHeld.{Numbered, numbers_parts}
use Rattle.write_parts.proofs.TextLengths.{contents_length, write_length}

module _ (m : CpimMessage) (head : Bytes) where
  -- the headers and the content headers, as slices of the head store
  abbrev pub headers_at : Bytes
  headers_at = take (256 + m.headerlen - 256) (drop 256 head)

  abbrev pub contents_at : Bytes
  contents_at = take (256 + m.headerlen + m.contentlen - (256 + m.headerlen)) (drop (256 + m.headerlen) head)

  pub headers_are : headers_at ≡ headers_part m head
  headers_are = part_of 256 m.headerlen head

  pub contents_are : contents_at ≡ contents_part m head
  contents_are = part_of (256 + m.headerlen) m.contentlen head

  module _ (h : message_holds m head ≡ true) where
    pub numbered : Numbered m (length head)
    unfolding message_holds
    numbered = numbers_parts m (length head) (simp tests at h).0

    walked : (headers_hold m.headers (headers_part m head) ≡ true) × (entries_hold Content m.contents [] (contents_part m head) ≡ true)
    unfolding message_holds
    walked = (simp tests at h).1.1

    pub headers_hold_lem : headers_hold m.headers headers_at ≡ true
    headers_hold_lem = ap (headers_hold m.headers) headers_are ∙ walked.0

    pub contents_hold : entries_hold Content m.contents [] contents_at ≡ true
    contents_hold = ap (entries_hold Content m.contents []) contents_are ∙ walked.1

    -- the lines of the content headers are no longer than the store
    pub contents_short : length (texts (λ e. ended (content_line e)) (entries_from m.contents contents_at)) ≤ length head
    contents_short =
        omega (arith, contents_length m.contents contents_at contents_hold, length-take (256 + m.headerlen + m.contentlen - (256 + m.headerlen)) (drop (256 + m.headerlen) head), length-drop (256 + m.headerlen) head)

    type_length : length (take m.typelen (type_part head)) ≡ m.typelen
    type_length =
        let first = length-take-le 256 head numbered.start in
        length-take-le m.typelen (type_part head) (omega (arith, first, numbered.type_short))

    -- the lengths of the parts add up to that of the text
    pub text_length : (body : Bytes) (hs cs b : ℕ) → hs ≡ length (texts (λ h. ended (header_line h)) (headers_from m.headers headers_at))
        → cs ≡ length (texts (λ e. ended (content_line e)) (entries_from m.contents contents_at)) → b ≡ length (replaced body)
        → 50 + m.typelen + hs + cs + b ≡ length (write (message_in m head body))
    unfolding message_in
    text_length body hs cs b p q r =
        let x = ap (λ (s : Bytes). length (texts (λ h. ended (header_line h)) (headers_from m.headers s))) headers_are in
        let y = ap (λ (s : Bytes). length (texts (λ e. ended (content_line e)) (entries_from m.contents s))) contents_are in
        omega (arith, write_length (message_in m head body), type_length, p ∙ x, q ∙ y, r)
