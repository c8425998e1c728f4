-- A line of the header section, empty or not, by any reader of a header line. One that gives valid headers of UTF-8 keeps a message within
-- limits. Assumes nothing.
use mathlib.Core.Path.{◌≡◌, refl, sym}
use mathlib.Core.Bool.{true}
use mathlib.Core.List.{[], ◌∷◌}
use native.Mathlib.Omega.{arith}
use lib.ListN.{length}
use Rattle.format.specs.Bytes.{Bytes, is_empty}
use Rattle.format.specs.Characters.{is_utf8}
use Rattle.format.specs.Refusals.{Out, accepted, numbers}
use Rattle.format.specs.Message.{Header, Message, valid_header, valid}
use Rattle.format.specs.Calls.{Stores}
use Rattle.format.specs.Reading.{read_line, read_header_line}
use Rattle.format.specs.Layout.{Lent, Holds}
use Rattle.format.specs.Lending.{head_lent, lengths, leaves}
use Rattle.format.specs.declared.Numbers.{Numbers}
use Rattle.format.specs.declared.CpimMessage.{CpimMessage}
use Rattle.format.proofs.Steps.{accepted_same, if_accepted}
use Rattle.format.proofs.Rulesets.{checks}
use Rattle.format.proofs.Messages.Parts.{header_parts, message_parts, message_whole}
use Rattle.format.proofs.Messages.Valid.{append_within}
use Rattle.message_edit.specs.Edits.{Does}
use Rattle.read_content_line.proofs.ContentLine.{held_laid}

module _ (reader : Bytes → Out Header) where
  -- an empty line leaves all as it was
  pub line_empty : (m : CpimMessage) (head l : Bytes) (k : Message) → Holds (head_lent m head) k → length l ≡ 0
      → Does (head_lent m head) (head_lent m head) (record { number = 0; carried = 0 }) (read_header_line reader (lengths (head_lent m head)) l k)
  unfolding read_header_line is_empty leaves numbers
  line_empty m head [] k held h = record { answered = refl; left = sym (held_laid m head k held) }
  line_empty m head (b ∷ l) k held h = absurd (omega arith)

  -- any other is read
  pub line_filled : (a b : Lent) (n : Numbers) (st : Stores) (l : Bytes) (k : Message) → (length l ≡ 0 → ⊥) → Does a b n (read_line reader st l k)
      → Does a b n (read_header_line reader st l k)
  unfolding read_header_line is_empty
  line_filled a b n st [] k h d = absurd (h refl)
  line_filled a b n st (c ∷ l) k h d = d

  module _ (good : (l : Bytes) (h : Header) → is_utf8 l ≡ true → reader l ≡ accepted h → valid_header h ≡ true) where
    pub header_line_valid : (st : Stores) (l : Bytes) (m k : Message) → is_utf8 l ≡ true → valid m ≡ true → read_header_line reader st l m ≡ accepted k
        → valid k ≡ true
    unfolding read_header_line read_line
    header_line_valid st l m k u v h =
        if_accepted (is_empty l) _ _ k (λ e g. rw (accepted_same m k g) at v)
        (λ e g. let a = simp checks at g in
        message_whole k (append_within st m k (message_parts m v) a.0 (header_parts a.0 (good l a.0 u a.1)) a.2))
        h
