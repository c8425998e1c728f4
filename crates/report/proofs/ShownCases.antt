-- What is shown of a message by the record and the store that hold it, and of an input by how it is read. Assumes nothing.
use Rattle.std.specs.Prelude as std
use Rattle.std.proofs.Common.{option_copied}
use Rattle.std.specs.Option.{unwrap_or}
use denote.Bor.{Bor}
use Prim.Native.Nat.{ℕ, ◌≤◌, ◌<◌}
use mathlib.Core.Path.{◌≡◌, refl, sym, ap, ◌∙◌}
use mathlib.Core.Bool.{true}
use mathlib.Core.List.{◌++◌, append-nil}
use mathlib.Core.Option.{Option, some}
use native.Mathlib.Omega.{arith}
use lib.ListN.{length}
use borrow.Author.Tests.{lt-leb, le-leb}
use Rattle.format.specs.Bytes.{Bytes}
use Rattle.format.specs.Refusals.{Out, accepted, numbers, table}
use Rattle.format.specs.Message.{Message}
use Rattle.format.specs.Layout.{Lent, Holds, Held, message, empty_message}
use Rattle.format.specs.Lending.{head_lent, both_lent, Parsed}
use Rattle.format.specs.Reading.{read}
use Rattle.format.specs.LookingUp.{get_type, count_headers, count_params, count_contents}
use Rattle.format.specs.Told.{given}
use Rattle.format.specs.Showing.{show_numbers, show_message, show, showcpim}
use Rattle.format.specs.declared.CpimMessage.{CpimMessage}
use Rattle.format.specs.declared.Numbers.{Numbers}
use Rattle.store_check.specs.Holding.{message_holds}
use Rattle.store_check.proofs.HeldParts.{held_parts}
use Rattle.store_check.proofs.HeldCases.{in_head}
use Rattle.report.specs.ShownLines.{message_lines}
use Rattle.report.proofs.Read.{stores, answers, is_refused, is_read}

-- Of a message held.
module _ (m : CpimMessage) (head : Bytes) (kind : std.Option (Bor Bytes)) (typed : (o : Option Message) → Held (head_lent m head) o → given (option_copied kind) ≡ get_type o) where
  -- its type, in the place of which none is not handed out
  typed_as : (none_given : Bor Bytes) (k : Message) → Holds (head_lent m head) k → (unwrap_or kind none_given).now ≡ k.type
  unfolding get_type
  typed_as none_given k held = by kind (typed (some k) (message held))
    where
      by : (r : std.Option (Bor Bytes)) → given (option_copied r) ≡ some k.type → (unwrap_or r none_given).now ≡ k.type
      by std.None e = cc
      by (std.Some b) e = cc

  pub kind_short : (none_given : Bor Bytes) → message_holds m head ≡ true → length (unwrap_or kind none_given).now ≤ 256
  kind_short none_given h =
      let w = in_head m head h in
      omega (arith, ap length (typed_as none_given _ w), (held_parts (head_lent m head) _ w).type_short)

  pub held_lines : (none_given : Bor Bytes) (params : ℕ) → ((o : Option Message) → Held (head_lent m head) o → params ≡ count_params o)
      → (k : Message) → Holds (head_lent m head) k → message_lines m.headers params m.contents (unwrap_or kind none_given).now m.bodylen ≡ show_message (accepted k)
  unfolding message_lines show_message get_type count_headers count_contents
  held_lines none_given params counted k held =
      let p = held_parts (head_lent m head) k held in
      rw (p.headers, counted (some k) (message held), p.contents, typed_as none_given k held, p.bodylen) refl

-- Of an input that is too long.
pub too_long_lem : (input : Bytes) → 65536 < length input → show_numbers (record { number = 26; carried = 65537 }) ≡ showcpim input
unfolding showcpim show numbers table show_message
too_long_lem input h = sym (rw (lt-leb _ _ h) (append-nil _))

-- Of an input that is read.
module _ (input head body : Bytes) (k : Lent) (n : Numbers) (fits : length input ≤ 65536) (h : length head ≡ 65536) (b : length body ≡ 65536)
    (parsed : Parsed input (both_lent empty_message head body) k n) where
  as_read : showcpim input ≡ show_numbers n ++ show_message (read input stores)
  unfolding showcpim show
  as_read = rw (le-leb _ _ fits) (ap (λ (x : Numbers). show_numbers x ++ show_message (read input stores)) (sym (answers input head body k n h b parsed)))

  pub shown_refused : (n.number ≡ 0 → ⊥) → show_numbers n ≡ showcpim input
  unfolding show_message
  shown_refused z =
      sym
      (as_read
      ∙ ap (λ (o : Out Message). show_numbers n ++ show_message o) (is_refused input head body k n h b parsed z).1.0
      ∙ append-nil (show_numbers n))

  pub shown_accepted : (z : n.number ≡ 0) → show_numbers n ++ show_message (accepted (is_read input head body k n h b parsed z).0) ≡ showcpim input
  shown_accepted z = sym (as_read ∙ ap (λ (o : Out Message). show_numbers n ++ show_message o) (is_read input head body k n h b parsed z).1)
