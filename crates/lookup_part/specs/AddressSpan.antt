-- Where the address in a value stands. Assumes nothing.
use Rattle.std.specs.Prelude.{ℕ, ◌+◌, ◌-◌, length}
use Rattle.std.proofs.Math.Option.{Option}
use Rattle.format.specs.Bytes.{Bytes}
use Rattle.format.specs.LookingUp.{counted, mapped, past_opening, address}
use Rattle.format.specs.declared.Quoting.TheVariants.{Outside}
use Rattle.lookup_part.specs.declared.Span.{Span}

-- the place of the `<` that opens it, by what that `<` and all behind it take; the length of the value where there is no such `<`
unfoldable pub opening_place : Bytes → ℕ
opening_place v = length v - counted (past_opening Outside v) (λ s. length s + 1)

-- the same place, if there is such a `<`
unfoldable pub opening_at : Bytes → Option ℕ
opening_at v = mapped (λ s. length v - (length s + 1)) (past_opening Outside v)

-- a part that begins at a place
abbrev pub span_at : ℕ → Bytes → Span
span_at from a = record { from = from; to = from + length a }

-- the address begins right behind its `<`
unfoldable pub span_of : Bytes → Option Span
span_of v = mapped (span_at (opening_place v + 1)) (address v)
