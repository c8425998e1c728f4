-- A content line by its colon and its name; what is read of a line that is UTF-8 keeps a message within limits. Assumes nothing.
use mathlib.Core.Path.{◌≡◌, refl, sym, ap, ◌∙◌}
use mathlib.Core.Bool.{true, false}
use Prim.Native.Nat.{ℕ}
use mathlib.Core.Option.{none}
use native.Mathlib.Omega.{arith}
use lib.ListN.{take}
use Rattle.format.specs.Bytes.{Bytes, ascii, colon, has, up_to, past, same_letters}
use Rattle.format.specs.Characters.{is_utf8, is_white, trim}
use Rattle.format.specs.Refusals.{accepted, numbers}
use Rattle.format.specs.Message.{Message, valid}
use Rattle.format.specs.Calls.{Stores, content_header_added}
use Rattle.format.specs.Reading.{read_type, read_named, read_content_line}
use Rattle.format.specs.Layout.{Lent, Holds, layout}
use Rattle.format.specs.Lending.{head_lent, lengths, laid_in, leaves}
use Rattle.format.specs.declared.Numbers.{Numbers}
use Rattle.format.specs.declared.CpimMessage.{CpimMessage}
use Rattle.format.proofs.Steps.{accepted_same, then_accepted, if_accepted}
use Rattle.format.proofs.Characters.Trim.{trim_utf8}
use Rattle.format.proofs.Splitting.SplitUtf8.{up_to_utf8, past_utf8}
use Rattle.format.proofs.Messages.Layout.{over_same, layout_length}
use Rattle.format.proofs.Messages.Parts.{Within, message_parts, message_whole}
use Rattle.format.proofs.Messages.Valid.{add_content_header_within}
use Rattle.message_edit.specs.Edits.{Does}

type_within : (v : Bytes) (m k : Message) → is_utf8 v ≡ true → Within m → read_type v m ≡ accepted k → Within k
unfolding read_type
type_within v m k u w h =
    let a = then_accepted _ _ _ h in
    rw (← accepted_same _ k a.0) (record { headers = w.headers; type = record { passed = a.1; utf8 = u }; contents = w.contents; body = w.body })

named_within : (n v : Bytes) (st : Stores) (m k : Message) → is_utf8 n ≡ true → is_utf8 v ≡ true → Within m → read_named n v st m ≡ accepted k → Within k
unfolding read_named
named_within n v st m k u x w h =
    if_accepted (same_letters (ascii "Content-type") n) _ _ k
    (λ e g. type_within v m k x w g) (λ e g. add_content_header_within st m k w n v u x g) h

pub content_line_valid : (st : Stores) (l : Bytes) (m k : Message) → is_utf8 l ≡ true → valid m ≡ true → read_content_line st l m ≡ accepted k
    → valid k ≡ true
unfolding read_content_line
content_line_valid st l m k u v h =
    if_accepted (has colon l) _ _ k
    (λ e g. message_whole k
    (named_within _ _ st m k (trim_utf8 is_white (up_to colon l) (up_to_utf8 colon l (omega arith) u)) (trim_utf8 is_white (past colon l) (past_utf8 colon l (omega arith) u))
    (message_parts m v) g))
    (λ e g. rw (accepted_same m k g) at v)
    h

-- A line by what it is.

-- what is held, laid into its own stores, leaves them
pub held_laid : (m : CpimMessage) (head : Bytes) (k : Message) → Holds (head_lent m head) k → laid_in (head_lent m head) k ≡ head_lent m head
unfolding laid_in
held_laid m head k held =
    let same = over_same (layout k) head (ap (λ (i : ℕ). take i head) (layout_length k held.within) ∙ held.laid) in
    λ i. record { message = sym held.recorded i; head = same i; body = none }

-- no colon
pub line_skipped : (m : CpimMessage) (head l : Bytes) (k : Message) → Holds (head_lent m head) k → has colon l ≡ false
    → Does (head_lent m head) (head_lent m head) (record { number = 0; carried = 0 }) (read_content_line (lengths (head_lent m head)) l k)
unfolding read_content_line leaves numbers
line_skipped m head l k held h = rw h (record { answered = refl; left = sym (held_laid m head k held) })

-- a line with a colon, its name n and its value v
module _ (a b : Lent) (n : Numbers) (st : Stores) (l name value : Bytes) (k : Message) (h : has colon l ≡ true) (e : name ≡ trim (up_to colon l)) (f : value ≡ trim (past colon l)) where
  pub line_typed : same_letters (ascii "Content-type") name ≡ true → Does a b n (read_type value k) → Does a b n (read_content_line st l k)
  unfolding read_content_line read_named
  line_typed s d = rw (h, ← e, ← f, s) d

  pub line_named : same_letters (ascii "Content-type") name ≡ false → Does a b n (content_header_added name value st k) → Does a b n (read_content_line st l k)
  unfolding read_content_line read_named
  line_named s d = rw (h, ← e, ← f, s) d
