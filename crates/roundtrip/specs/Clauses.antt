-- The clauses of both readings' conditions that are asked of each header, of its parameters or of each content header, and the first that
-- fails one. What a clause asks is said in crates/format/specs, Demand3.antt and SecondReading.antt; here it is asked of an entry as it is
-- stored. Assumes nothing.
use Rattle.std.specs.Prelude.{ℕ, suc, ◌≡◌, Bool, true, false, List, [], ◌∷◌, Option, Some, None, if◌then◌else◌}
use Rattle.std.specs.Fn.{Shared}
use Rattle.format.specs.Bytes.{all}
use Rattle.format.specs.Message.{Entry, Header}
use Rattle.format.specs.SecondReading.{spaceless_param}
use Rattle.store_entries.specs.Stored.{Stored, shaped_all, entries_in}
use Rattle.lookup_nth.specs.Listed.{stored_of}
use Rattle.lookup_nth.specs.declared.Entry as code

-- name and value of an entry as it is stored
abbrev pub as_entry : Stored → Entry
as_entry e = record { name = e.name; value = e.value }

-- the same as those of a header
abbrev pub as_header : Stored → Header
as_header e = record { name = e.name; value = e.value; params = [] }

-- e is as all of the entries are
pub record Among (es : List Stored) (e : Stored) : Type 0 where
  pub like : (k : Stored → Bool) → all k es ≡ true → k e ≡ true

-- the test f answers what p says of an entry
pub record Asks {F : Type 0} (g : Shared F (code.Entry × Unit {0}) Bool) (f : F) (p : Stored → Bool) : Type 0 where
  pub says : (e : code.Entry) (b : Bool) → g.post f (e, tt) b → b ≡ p (stored_of e)

-- how many stand before the first that fails the test; all where none does
unfoldable pub passing : {A : Type 0} → (A → Bool) → List A → ℕ
passing p [] = 0
passing p (x ∷ xs) = if p x then suc (passing p xs) else 0

-- the first that fails the test, by its number, or none
abbrev pub FirstFails : {A : Type 0} → (A → Bool) → List A → Option ℕ → Type 0
FirstFails p xs None = all p xs ≡ true
FirstFails p xs (Some n) = (all p xs ≡ false) × (n ≡ passing p xs)

-- behind the entry's value stand its parameters, one behind another
unfoldable pub params_stand : Stored → Bool
params_stand e = shaped_all e.params e.tail

-- none of its parameters has a space
unfoldable pub stored_spaceless : Stored → Bool
stored_spaceless e = all (λ p. spaceless_param (as_entry p)) (entries_in e.params e.tail)
