-- What a list of calls has done, by how it was begun. Assumes nothing.
use Rattle.std.specs.Prelude.{◌≡◌, true, List}
use Rattle.format.specs.Bytes.{Bytes}
use Rattle.format.specs.Refusals.{Refusal, Out, accepted, refused, numbers}
use Rattle.format.specs.Message.{Message}
use Rattle.format.specs.Calls.{Stores, Call}
use Rattle.format.specs.Layout.{Lent, Holds}
use Rattle.format.specs.Lending.{Made, Parsed}
use Rattle.format.specs.Runs.{State, lend, Run}
use Rattle.format.specs.Demand3.{after}
use Rattle.format.specs.declared.Numbers.{Numbers}

-- Begun by the outcome o of `new` or of reading, with stores of these lengths: n is what is answered, k what is left, and u what is left where
-- nothing was begun.
pub record Began (o : Out Message) (stores : Stores) (calls : List Call) (u k : Lent) (n : Numbers) : Type 0 where
  pub answered : n ≡ numbers o
  -- the message held is the one that its beginning and the calls define
  pub held : (m : Message) → o ≡ accepted m → Holds k (after stores m calls)
  pub left : (x : Refusal) → o ≡ refused x → k ≡ u

-- What is left step by step, to the byte: what `parse_cpim`, or `new`, left, and of that what the calls made, one behind another. Where nothing
-- was begun no call is made.
abbrev pub Ran : State → List Call → State → Numbers → Type 0
Ran s calls t n = (n.number ≡ 0 → Run s calls t) × ((n.number ≡ 0 → ⊥) → t ≡ s)

pub record ReadThenRun (text : Bytes) (l : Lent) (calls : List Call) (t : State) (n : Numbers) : Type 0 where
  pub start : State
  pub parsed : Parsed text l (lend true start) n
  pub ran : Ran start calls t n

pub record MadeThenRun (type body : Bytes) (l : Lent) (calls : List Call) (t : State) (n : Numbers) : Type 0 where
  pub start : State
  pub made : Made type body l (lend true start) n
  pub ran : Ran start calls t n
