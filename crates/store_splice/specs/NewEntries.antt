-- An entry to be written: what is asked of it, and what it is in a store. Assumes nothing.
use Rattle.std.specs.Prelude.{ℕ, ◌≡◌, ◌<◌, [], length}
use Rattle.format.specs.Bytes.{Bytes}
use Rattle.format.specs.Layout.{entry_bytes}
use Rattle.store_splice.specs.Notations.{value_read, Sized}
use Rattle.store_splice.specs.Spliced.{entry_size}
use Rattle.store_splice.specs.declared.NewEntry.{NewEntry}
use Rattle.store_splice.specs.declared.Notation.TheVariants.{Plain}

-- its value
abbrev pub value_in : NewEntry → Bytes
value_in e = value_read e.notation e.text.now

-- the bytes that it is in a store, and how many they are
abbrev pub bytes_of : NewEntry → Bytes
bytes_of e = entry_bytes e.name.now (value_in e) e.params e.tail.now

abbrev pub size_of : NewEntry → ℕ
size_of e = entry_size e.name.now (value_in e) e.tail.now

-- What is asked of it: its text reads as a value of its size, and its numbers are within the bytes that a store has for them.
pub record Fits (e : NewEntry) : Type 0 where
  pub value : Sized e.notation e.text.now e.size
  pub bytes : (length e.name.now < 256) × (e.size < 65536) × (e.params < 256) × (length e.tail.now < 65536)

-- an entry whose value is given as it is, without parameters
pub record IsPlain (name value : Bytes) (e : NewEntry) : Type 0 where
  pub name_is : e.name.now ≡ name
  pub text_is : e.text.now ≡ value
  pub notation_is : e.notation ≡ Plain
  pub size_is : e.size ≡ length value
  pub params_are : e.params ≡ 0
  pub tail_is : e.tail.now ≡ []
