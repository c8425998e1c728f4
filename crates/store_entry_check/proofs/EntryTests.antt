-- The tests of an entry, on its parts as they were read. Assumes nothing.
use mathlib.Core.Path.{◌≡◌, refl, sym, ap, ◌∙◌}
use mathlib.Core.Bool.{Bool, true, false, ◌&&◌, and-true, and-false, and_comm}
use mathlib.Core.List.{[]}
use Rattle.format.specs.Bytes.{Bytes}
use Rattle.format.specs.Characters.{is_utf8}
use Rattle.format.specs.Refusals.{passes}
use Rattle.store_entries.specs.Stored.{name_in, value_in, tail_in, param_count, stored_in}
use Rattle.store_entry_check.specs.Kinds.{name_check, value_check, params_fit}
use Rattle.store_entry_check.specs.declared.kinds.Kind.{Kind}
use Rattle.store_entry_check.specs.declared.kinds.Kind.TheVariants.{Param}
use Rattle.store_entry_check.specs.Fitting.{name_fits, value_fits}
use Rattle.store_entry_check.specs.EntriesHold.{fits, entries_hold, tail_holds}

-- the same tests in another order
in_order : (a b c d e : Bool) → ((a && b) && ((c && d) && e)) ≡ (a && (c && (e && (b && d))))
in_order false b c d e = refl
in_order true b false d e = and-false b
in_order true b true false e = and-false b ∙ sym (ap (λ (x : Bool). e && x) (and-false b) ∙ and-false e)
in_order true b true true e = and_comm b e ∙ ap (λ (x : Bool). e && x) (sym (and-true b))

-- name, value and parameters
pub fits_read : (k : Kind) (s : Bytes) → fits k (stored_in s) ≡ (name_fits k (name_in s) && (value_fits k (value_in s) && params_fit k (param_count s) (tail_in s)))
unfolding fits stored_in name_fits value_fits
fits_read k s =
    sym (in_order (passes (name_check k (name_in s))) (is_utf8 (name_in s)) (passes (value_check k (value_in s))) (is_utf8 (value_in s)) (params_fit k (param_count s) (tail_in s)))

-- the walk into an entry's parameters
pub tail_read : (s : Bytes) → tail_holds (stored_in s) ≡ entries_hold Param (param_count s) [] (tail_in s)
unfolding tail_holds stored_in
tail_read s = refl
