-- What a call on a header alone does where the header is held. Assumes nothing.
use Rattle.std.specs.Prelude.{ℕ, ◌≡◌, List}
use Rattle.format.specs.Bytes.{Bytes}
use Rattle.format.specs.Refusals.{Out, numbers, ◌>>=◌}
use Rattle.format.specs.Message.{Entry, LoneHeader}
use Rattle.format.specs.Calls.{add_param, if_room_alone}
use Rattle.format.specs.Lending.{LentHeader, leaves_header}
use Rattle.format.specs.declared.Numbers.{Numbers}
use Rattle.format.specs.declared.CpimHeader.{CpimHeader}

-- a header's record and its store
abbrev pub alone_in : CpimHeader → Bytes → LentHeader
alone_in h store = record { header = h; store = store }

-- the header with other parameters
abbrev pub with_params : LoneHeader → List Entry → LoneHeader
with_params h ps = record { value = h.value; params = ps }

-- a parameter set, then 25
unfoldable pub set_in : Bytes → Bytes → ℕ → LoneHeader → Out LoneHeader
set_in n v store h = do
  k ← add_param n v h
  if_room_alone store k

-- What a call does by the answer o: l is what it is lent, k what it leaves, n what it answers.
pub record DoesAlone (l k : LentHeader) (n : Numbers) (o : Out LoneHeader) : Type 0 where
  pub answered : n ≡ numbers o
  pub left : k ≡ leaves_header l o
