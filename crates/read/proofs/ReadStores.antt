-- What reading starts from, and its end: the record with the body's length. Assumes nothing.
use Prim.Native.Nat.{ℕ, ◌≤◌}
use mathlib.Core.Path.{◌≡◌, refl, sym, ap, ◌∙◌}
use mathlib.Core.Bool.{true}
use mathlib.Core.List.{append-nil}
use native.Mathlib.Omega.{arith}
use lib.ListN.{length, take}
use Rattle.format.specs.Bytes.{Bytes, ascii, is_empty, all, any, texts, total, pasted}
use Rattle.format.specs.Characters.{is_ascii_control}
use Rattle.format.specs.Refusals.{passes, refuse_if, at_most, ◌>>◌}
use Rattle.format.specs.Validators.{content_type}
use Rattle.format.specs.Message.{Message, ascending, increasing, need, valid}
use Rattle.format.specs.Calls.{with_body, body_length}
use Rattle.format.specs.Limits.{max_body}
use Rattle.format.proofs.Rulesets.{checks}
use Rattle.format.specs.Reading.{blank}
use Rattle.format.specs.Layout.{Holds, layout, record_of, empty_message}
use Rattle.format.specs.Lending.{head_lent, ReadInto}
use Rattle.format.specs.declared.CpimMessage.{CpimMessage}
use Rattle.format.proofs.Characters.Chars.{utf8_ascii_text}
use Rattle.format.proofs.Messages.Parts.{message_whole}
use Rattle.octets.proofs.Paste.{take_front}
use Rattle.read_content_line.specs.Types.{type_bytes}
use Rattle.read_content_line.proofs.Typing.{type_long, layout_type}

-- the type that reading starts with, by computation
plain_type : passes (content_type (ascii "text/plain")) ≡ true
unfolding content_type passes refuse_if at_most ◌>>◌ is_empty any is_ascii_control
plain_type = refl

blank_valid : valid blank ≡ true
unfolding all ascending increasing
blank_valid =
    message_whole blank
    (record {
      headers = record { each = refl; ordered = refl; few = omega arith };
      type = record { passed = plain_type; utf8 = utf8_ascii_text (ascii "text/plain") refl };
      contents = record { each = refl; ordered = refl; few = omega arith };
      body = omega arith;
    })

pub blank_held : (head after : Bytes) → after ≡ pasted 0 (type_bytes (ascii "text/plain")) head
    → Holds (head_lent (record { typelen = 10; headers = 0; headerlen = 0; contents = 0; contentlen = 0; bodylen = 0 }) after) blank
unfolding record_of total need texts
blank_held head after e =
    record {
      within = blank_valid;
      recorded = refl;
      laid = ap (take 256) e
          ∙ take_front 256 (type_bytes (ascii "text/plain")) head (type_long (ascii "text/plain") (omega arith))
          ∙ sym (layout_type blank ∙ append-nil (type_bytes (ascii "text/plain")));
      stored = tt;
    }

-- the record of a message with a body of n bytes
abbrev pub bodied : CpimMessage → ℕ → CpimMessage
bodied m n = record { typelen = m.typelen; headers = m.headers; headerlen = m.headerlen; contents = m.contents; contentlen = m.contentlen; bodylen = n }

-- it and the same head store are those of the message with that body
pub body_into : (m : CpimMessage) (first head b : Bytes) (k : Message) (n : ℕ) → Holds (head_lent m head) k → length head ≡ length first → n ≡ length b
    → ReadInto (head_lent empty_message first) (head_lent (bodied m n) head) (with_body k b)
unfolding need layout record_of
body_into m first head b k n held kept size =
    record {
      recorded = λ i. record { typelen = (held.recorded i).typelen; headers = (held.recorded i).headers; headerlen = (held.recorded i).headerlen; contents = (held.recorded i).contents; contentlen = (held.recorded i).contentlen; bodylen = size i };
      laid = held.laid;
      kept = kept;
      stored = refl;
    }

-- what reading starts from needs the bytes of a type
pub blank_need : need blank ≡ 256
unfolding need total
blank_need = refl

-- a body within its limit
pub body_within : (b : Bytes) → length b ≤ max_body → passes (body_length b) ≡ true
unfolding body_length
body_within b h = simp checks h
