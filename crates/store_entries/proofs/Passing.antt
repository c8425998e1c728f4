-- A test of names, asked of the entry that a text begins with. Assumes nothing.
use mathlib.Core.Path.{◌≡◌, sym, ap, ◌∙◌}
use mathlib.Core.Bool.{Bool}
use Rattle.format.specs.Bytes.{Bytes}
use Rattle.store_entries.specs.Stored.{name_in, stored_in}

pub named_is : (p : Bytes → Bool) (s other : Bytes) (r : Bool) → other ≡ name_in s → r ≡ p other → p (stored_in s).name ≡ r
unfolding stored_in
named_is p s other r e f = ap p (sym e) ∙ sym f
