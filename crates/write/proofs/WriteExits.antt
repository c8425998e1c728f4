-- The ways out of `to_string`: nothing is held, the output is too short, or the text is written. What is held is one message, so what was
-- measured and written is its text. Assumes nothing.
use Rattle.std.specs.Prelude.{Result, Ok, Err}
use Rattle.std.specs.Result.{result_unwrap_or}
use Prim.Native.Nat.{ℕ, ◌≤◌, ◌<◌}
use mathlib.Core.Path.{◌≡◌, refl, sym, ap}
use mathlib.Core.Bool.{true, false}
use mathlib.Core.Option.{Option, none, some}
use native.Mathlib.Omega.{arith}
use lib.ListN.{length, take}
use lib.Seq.{length-take-le}
use borrow.Author.Tests.{lt-ltb, le-ltb}
use Rattle.format.specs.Bytes.{Bytes, over}
use Rattle.format.specs.Refusals.{numbers, table, refuse_if, ◌>>◌}
use Rattle.format.specs.Message.{Message}
use Rattle.format.specs.Calls.{enough}
use Rattle.format.specs.LookingUp.{body_length_of}
use Rattle.format.specs.Layout.{Held, Holds}
use Rattle.format.specs.Lending.{both_lent, Wrote}
use Rattle.format.specs.Writing.{write, writes, to_text}
use Rattle.format.specs.Told.{meant, told}
use Rattle.format.specs.declared.refusal.Refusal.{Refusal}
use Rattle.format.specs.declared.refusal.Refusal.TheVariants.{NoRoom, TooShort}
use Rattle.format.specs.declared.CpimMessage.{CpimMessage}
use Rattle.format.proofs.Messages.Unique.{holds_unique}
use Rattle.store_check.specs.Holding.{message_holds}
use Rattle.store_check.specs.Decoding.{message_in}
use Rattle.store_check.proofs.MessageHeld.{held_holds}
use Rattle.store_check.proofs.HeldCases.{not_held, body_held, body_short_lem}

-- what is asked of whatever is held: the numbers, the output and the length
abbrev Says : Bytes → Bytes → Result ℕ Refusal → Option Message → Type 0
Says out written r o =
    (told r ≡ numbers (to_text o (length out))) × (written ≡ writes out (to_text o (length out))) × (result_unwrap_or r 0 ≡ body_length_of (to_text o (length out)))

module _ (m : CpimMessage) (head body out : Bytes) where
  abbrev Answers : Bytes → Result ℕ Refusal → Type 0
  Answers written r =
      Wrote (both_lent m head body) out written (told r)
      × ((o : Option Message) → Held (both_lent m head body) o → result_unwrap_or r 0 ≡ body_length_of (to_text o (length out)))

  wrote : (written : Bytes) (r : Result ℕ Refusal) → ((o : Option Message) → Held (both_lent m head body) o → Says out written r o) → Answers written r
  wrote written r f = (record { answered = λ o h. (f o h).0; left = λ o h. (f o h).1 }, λ o h. (f o h).2)

  abbrev unheld : Result ℕ Refusal
  unheld = Err (NoRoom 0)

  nothing : Says out out unheld none
  unfolding to_text told meant numbers table writes body_length_of
  nothing = (refl, refl, refl)

  pub wrote_unheld : message_holds m head ≡ false → Answers out unheld
  wrote_unheld h = wrote out unheld (not_held m head (Says out out unheld) (some body) h nothing)

  pub wrote_short : length body < m.bodylen → Answers out unheld
  wrote_short h = wrote out unheld (body_short_lem m head (Says out out unheld) body h nothing)

  module _ (h : message_holds m head ≡ true) (fits : m.bodylen ≤ length body) where
    abbrev read : Message
    read = message_in m head (take m.bodylen body)

    read_held : Holds (both_lent m head body) read
    read_held =
        let e = length-take-le m.bodylen body fits in
        held_holds m head (take m.bodylen body) (some body) h e (ap (λ (n : ℕ). take n body) e)

    one : (written : Bytes) (r : Result ℕ Refusal) → Says out written r (some read) → Answers written r
    one written r p =
        wrote written r
        (body_held m head (Says out written r) body h fits
        (λ k held. rw (holds_unique (both_lent m head body) body k read refl held read_held) p))

    -- 26
    pub wrote_full : (n : ℕ) → n ≡ length (write read) → length out < n → Answers out (Err (TooShort n))
    unfolding to_text enough refuse_if ◌>>◌ told meant numbers table writes body_length_of
    wrote_full n e short = one out (Err (TooShort n)) (rw (sym e, lt-ltb (length out) n short) (refl, refl, refl))

    pub wrote_text : (written : Bytes) (n : ℕ) → n ≡ length (write read) → n ≤ length out → written ≡ over (write read) out → Answers written (Ok n)
    unfolding to_text enough refuse_if ◌>>◌ told numbers writes body_length_of
    wrote_text written n same room e =
        one written (Ok n) (rw (le-ltb (length out) (length (write read)) (omega (arith, same))) (refl, e, same))
