-- Demand 3: a run of calls goes on holding the message that they define, and record and stores hold no other. It is within limits and
-- validators, so both directions of reading back are those of SourceRoundTrip, by Exact. Assumes nothing.
use Prim.Native.Nat.{ℕ, ◌≤◌}
use mathlib.Core.Path.{◌≡◌, refl, ap, ◌∙◌}
use mathlib.Core.Bool.{true}
use mathlib.Core.Logic.{◌↔◌}
use mathlib.Core.Option.{Option, some}
use lib.ListN.{length}
use borrow.Author.Tests.{le-ltb}
use Rattle.format.specs.Bytes.{Bytes, over}
use Rattle.format.specs.Refusals.{accepted, numbers, ◌carrying◌}
use Rattle.format.specs.Message.{Message}
use Rattle.format.specs.Calls.{enough}
use Rattle.format.specs.Writing.{write, to_text, writes}
use Rattle.format.specs.Layout.{Lent, Holds, message, Held, nothing}
use Rattle.format.specs.Lending.{Wrote}
use Rattle.format.specs.Runs.{State, lend}
use Rattle.format.specs.Demand3.{History, comes_back, Demand3}
use Rattle.format.specs.declared.Numbers.{Numbers}
use Rattle.format.specs.declared.Manner.TheVariants.{Source}
use Rattle.format.proofs.Steps.{then_passed, refuse_if_passed}
use Rattle.format.proofs.Messages.Unique.{holds_unique}
use Rattle.format.proofs.Messages.Runs.{runs_on}
use Rattle.format.proofs.Begun.{history_holds, new_begins, reading_begins}
use Rattle.format.proofs.Exact.{back_exactly, parsed_exactly, equal_exactly}
use Rattle.format.proofs.Texts.SourceRoundTrip.{reads_back, back_only}

-- `to_string` of a message held, given room
pub text_fits : (m : Message) (room : ℕ) → length (write m) ≤ room → to_text (some m) room ≡ accepted (write m)
unfolding to_text enough
text_fits m room h = then_passed _ _ (refuse_if_passed _ _ (le-ltb _ _ h))

wrote : (l : Lent) (m : Message) (out text : Bytes) (n : Numbers) → Holds l m → Wrote l out text n → length (write m) ≤ length out
    → (n ≡ 0 carrying 0) × (text ≡ over (write m) out)
unfolding numbers writes
wrote l m out text n h w f =
    let e = text_fits m (length out) f in
    (w.answered (some m) (message h) ∙ ap numbers e, w.left (some m) (message h) ∙ ap (writes out) e)

has_writing : (s : State) (m : Message) → Holds (lend true s) m → (out : Bytes) → (text : Bytes) × (n : Numbers) × Wrote (lend true s) out text n
has_writing s m h out =
    let o = to_text (some m) (length out) in
    (writes out o, numbers o, record { answered = λ q g. ap (λ x. numbers (to_text x (length out))) (one g); left = λ q g. ap (λ x. writes out (to_text x (length out))) (one g) })
  where
    one : {q : Option Message} → Held (lend true s) q → some m ≡ q
    one (message {m = k} g) = ap some (holds_unique (lend true s) s.body m k refl h g)
    one (nothing f) = absurd (f m h)

pub demand_3 : Demand3
demand_3 =
    record {
      held = history_holds;
      only = λ t m r k h. holds_unique (lend true t) t.body k m refl h (history_holds t m r);
      written = λ t m r out text n w f. wrote (lend true t) m out text n (history_holds t m r) w f;
      back = λ t m r. back_exactly Source comes_back reads_back back_only m (history_holds t m r).within;
      parsed = λ t m r. parsed_exactly Source comes_back reads_back back_only m (history_holds t m r).within;
      equal = equal_exactly Source comes_back reads_back back_only;
      begins_new = new_begins;
      begins_reading = reading_begins Source;
      runs = runs_on;
      writes = has_writing;
    }

-- equal texts, of the messages that two lists of calls lead to
pub histories_equal : (t u : State) (m k : Message) → History t m → History u k → comes_back m ≡ true → comes_back k ≡ true → (write m ≡ write k) ↔ (m ≡ k)
histories_equal t u m k r q = demand_3.equal m k (demand_3.held t m r).within (demand_3.held u k q).within
