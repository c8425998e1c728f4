-- What a list of calls has done and written, by how it was begun: demand 3's M and T. Assumes nothing.
use Rattle.std.specs.Prelude.{ℕ, ◌≡◌, List, length}
use Rattle.std.proofs.Math.Option.{some}
use Rattle.format.specs.Bytes.{Bytes}
use Rattle.format.specs.Refusals.{Out, accepted, refused, numbers}
use Rattle.format.specs.Message.{Message}
use Rattle.format.specs.Calls.{Stores, Call}
use Rattle.format.specs.LookingUp.{body_length_of}
use Rattle.format.specs.Writing.{to_text, writes}
use Rattle.format.specs.Layout.{Lent}
use Rattle.format.specs.Lending.{both_lent}
use Rattle.format.specs.Demand3.{after}
use Rattle.format.specs.declared.CpimMessage.{CpimMessage}
use Rattle.format.specs.declared.Numbers.{Numbers}
use Rattle.calls_write.specs.Began.{Began}

-- the text of the message that the beginning and the calls define, for an output of so many bytes; what refused the beginning
unfoldable pub sent_text : Out Message → Stores → List Call → ℕ → Out Bytes
sent_text (accepted m) stores calls room = to_text (some (after stores m calls)) room
sent_text (refused r) stores calls room = refused r

-- Begun by the outcome o of `new` or of reading, with stores of these lengths: head and body are left, written is what the output became, n
-- and a text of so many bytes are answered; u is what is left where nothing was begun.
pub record Sent (o : Out Message) (stores : Stores) (calls : List Call) (u : Lent) (head body out written : Bytes) (n : Numbers) (many : ℕ) : Type 0 where
  -- with some record, the stores hold the message that the beginning and the calls define
  pub held : (k : CpimMessage) × Began o stores calls u (both_lent k head body) (numbers o)
  pub answered : n ≡ numbers (sent_text o stores calls (length out))
  pub text : written ≡ writes out (sent_text o stores calls (length out))
  pub long : many ≡ body_length_of (sent_text o stores calls (length out))
