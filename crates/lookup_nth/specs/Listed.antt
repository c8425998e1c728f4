-- Lists of entries in bytes, and what is handed out of one: an entry, and the parameters of a header. Assumes nothing.
use Rattle.std.specs.Prelude.{ℕ, ◌≡◌, List, [], length}
use Rattle.std.proofs.Math.Option.{Option, none, some}
use Rattle.format.specs.Bytes.{Bytes, texts}
use Rattle.format.specs.Message as message
use Rattle.store_entries.specs.Stored.{Stored}
use Rattle.lookup_nth.specs.declared.Entry.{Entry}

-- s is the elements xs, laid out one behind another, and they are so many
pub record Listed {A : Type 0} (layout : A → Bytes) (xs : List A) (s : Bytes) (many : ℕ) : Type 0 where
  pub bytes : s ≡ texts layout xs
  pub entries : many ≡ length xs

-- the parameters of a header; none where it is absent
abbrev pub params_of : Option message.Header → List message.Entry
params_of none = []
params_of (some h) = h.params

-- what is stored of an entry that is handed out; and a parameter or a content header, which has no parameters
abbrev pub stored_of : Entry → Stored
stored_of e = record { name = e.name.now; value = e.value.now; params = e.params.count; tail = e.params.bytes.now }

abbrev pub entry_of : Entry → message.Entry
entry_of e = record { name = e.name.now; value = e.value.now }
