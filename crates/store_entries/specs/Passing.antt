-- Entries passed over, as long as their names are before one or that very one. Assumes nothing.
use Rattle.std.specs.Prelude.{ℕ, ◌≡◌, length, Bool, true, false, List, [], ◌∷◌, if◌then◌else◌}
use Rattle.std.specs.Fn.{Shared}
use denote.Ref.{Bor}
use Rattle.format.specs.Bytes.{Bytes, total, same, before}
use Rattle.store_entries.specs.Stored.{Stored, stored_size}

module _ {A : Type 0} where
  -- the elements before the first that fails the test
  unfoldable pub whilst : (A → Bool) → List A → List A
  whilst p [] = []
  whilst p (x ∷ xs) = if p x then x ∷ whilst p xs else []

  -- and the others
  unfoldable pub after : (A → Bool) → List A → List A
  after p [] = []
  after p (x ∷ xs) = if p x then after p xs else x ∷ xs

-- a name is this very one, or before it
unfoldable pub is_passed : Bool → Bytes → Bytes → Bool
is_passed true name other = same name other
is_passed false name other = before other name

abbrev pub passed_over : Bool → Bytes → Stored → Bool
passed_over equal name e = is_passed equal name e.name

-- of entries in the order of their names: those of names before this one, and those of this name
abbrev pub under : Bytes → List Stored → List Stored
under name es = whilst (passed_over false name) es

abbrev pub of_name : Bytes → List Stored → List Stored
of_name name es = whilst (passed_over true name) (after (passed_over false name) es)

-- A closure answers of a name as p does.
pub record Tests {F : Type 0} (g : Shared F (Bor Bytes × Unit {0}) Bool) (f : F) (p : Bytes → Bool) : Type 0 where
  pub says : (name : Bor Bytes) (b : Bool) → g.post f (name, tt) b → b ≡ p name.now

-- size bytes, many entries, are those before the first whose name fails the test
pub record PassedWhilst (p : Bytes → Bool) (es : List Stored) (size many : ℕ) : Type 0 where
  pub bytes : size ≡ total stored_size (whilst (λ e. p e.name) es)
  pub entries : many ≡ length (whilst (λ e. p e.name) es)
