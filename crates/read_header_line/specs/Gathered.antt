-- Parameters read from a header line, in room that is lent for them. Assumes nothing.
use Rattle.std.specs.Prelude.{ℕ, ◌-◌, ◌≤◌, ◌≡◌, List, [], length, take, drop, Result, Ok}
use Rattle.std.proofs.Math.Option.{Option, some}
use Rattle.format.specs.Bytes.{Bytes, texts}
use Rattle.format.specs.Limits.{max_params, max_value}
use Rattle.format.specs.Refusals.{Out, accepted, numbers}
use Rattle.format.specs.Message.{Entry, LoneHeader}
use Rattle.format.specs.Told.{told}
use Rattle.format.specs.declared.refusal.Refusal.{Refusal}
use Rattle.format.specs.Layout.{HoldsAlone, layout_entry}
use Rattle.format.specs.declared.CpimHeader.{CpimHeader}

-- What a reader does by the answer o: its result's numbers are those of o, and where it gives something, what o gives is there.
pub record Yields {R A : Type 0} (result : Result R Refusal) (o : Out A) (There : R → A → Type 0) : Type 0 where
  pub answered : told result ≡ numbers o
  pub there : (x : R) (a : A) → result ≡ Ok x → o ≡ accepted a → There x a

-- the header alone of these parameters and of an empty value
abbrev pub bare : List Entry → LoneHeader
bare ps = record { value = []; params = ps }

-- the room holds the parameters as such a header
abbrev pub Standing : CpimHeader → Bytes → List Entry → Type 0
Standing h room ps = HoldsAlone h room (bare ps)

-- The parameters are counted, and their bytes stand from 16 to the size: at most ten of 16 + 64 + 256 bytes.
pub record Gathered (h : CpimHeader) (room : Bytes) (ps : List Entry) : Type 0 where
  pub many : length ps ≡ h.params
  pub bytes : texts layout_entry ps ≡ take (h.size - 16) (drop 16 room)
  pub few : h.params ≤ max_params
  pub from : 16 ≤ h.size
  pub to : h.size ≤ 3376

-- the length of what a text reads as, which a value may have
pub record Sizes (o : Option Bytes) (size : ℕ) (value : Bytes) : Type 0 where
  pub reads : o ≡ some value
  pub size_is : size ≡ length value
  pub short : size ≤ max_value
