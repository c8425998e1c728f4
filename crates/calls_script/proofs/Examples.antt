-- Scripts taken apart, as examples of the definition. Assumes nothing.
use mathlib.Core.Path.{◌≡◌, refl}
use mathlib.Core.List.{[], ◌∷◌, ◌++◌}
use mathlib.Core.Option.{none}
use Rattle.format.specs.Bytes.{ascii}
use Rattle.format.specs.Calls.{set_body, add_header, add_header_obj, with_from}
use Rattle.store_check.specs.Holding.{sizes_hold, header_holds}
use Rattle.calls_script.specs.Script.{held_alone, number_in, whole, argument, argument_size, header_record, both_whole, both_size, header_whole, header_size, complete, size_of, called, calls_from, calls_in}

-- with_from `a`, set_body `Hi`, and a byte that begins no whole call
pub two_calls : calls_in (5 ∷ 1 ∷ 0 ∷ 0 ∷ 0 ∷ ascii "a" ++ (0 ∷ 2 ∷ 0 ∷ 0 ∷ 0 ∷ ascii "Hi" ++ (5 ∷ []))) ≡ with_from (ascii "a") ∷ set_body (ascii "Hi") ∷ []
unfolding number_in whole argument argument_size complete size_of called calls_from
two_calls = refl

-- add_header `To`, with a value that has no byte; an argument of 256 bytes that is cut off
pub cut_off : calls_in (2 ∷ 2 ∷ 0 ∷ 0 ∷ 0 ∷ ascii "To" ++ (0 ∷ 0 ∷ 0 ∷ 0 ∷ 13 ∷ 0 ∷ 1 ∷ 0 ∷ 0 ∷ ascii "x")) ≡ add_header (ascii "To") [] ∷ []
unfolding number_in whole argument argument_size both_whole both_size complete size_of called calls_from
cut_off = refl

-- add_header_obj `a` with a record and a store of no byte, which hold nothing; 14 is no call
pub no_header : calls_in (3 ∷ 1 ∷ 0 ∷ 0 ∷ 0 ∷ ascii "a" ++ (0 ∷ 0 ∷ 0 ∷ 0 ∷ 0 ∷ 0 ∷ 0 ∷ 0 ∷ 0 ∷ 0 ∷ 0 ∷ 0 ∷ 0 ∷ 0 ∷ 0 ∷ 0 ∷ 14 ∷ [])) ≡ add_header_obj (ascii "a") none ∷ []
unfolding number_in whole argument argument_size header_record header_whole header_size held_alone header_holds sizes_hold complete size_of called calls_from
no_header = refl
