-- What a call on a held message does, and what is known of the place where an entry goes. Assumes nothing.
use Rattle.std.specs.Prelude.{ℕ, ◌≡◌, length}
use Rattle.format.specs.Bytes.{Bytes, texts}
use Rattle.format.specs.Refusals.{Out, numbers}
use Rattle.format.specs.Message.{Header, Message}
use Rattle.format.specs.Layout.{Lent, layout_entry}
use Rattle.format.specs.Lending.{leaves}
use Rattle.format.specs.declared.Numbers.{Numbers}

-- What a call does by the answer o: l is what it is lent, k what it leaves, n what it answers.
pub record Does (l k : Lent) (n : Numbers) (o : Out Message) : Type 0 where
  pub answered : n ≡ numbers o
  pub left : k ≡ leaves l o

-- a header's name and value, and the bytes of its parameters
pub record Spelt (x : Header) (name value : Bytes) (params : ℕ) (tail : Bytes) : Type 0 where
  pub name_is : x.name ≡ name
  pub value_is : x.value ≡ value
  pub params_are : length x.params ≡ params
  pub tail_is : texts layout_entry x.params ≡ tail
