-- `sections::fields::past` meets its contract: the bytes behind the place that `find_byte` gives, none where it is the end. Assumes nothing.
use mathlib.Core.Path.{sym, ◌∙◌}
use Prim.Native.Nat.{◌+◌, ◌-◌, ◌<◌}
use native.Mathlib.Omega.{arith}
use lib.ListN.{length, take, drop, drop_of_length-le}
use Rattle.format.proofs.Lists.{rest_is}
use Rattle.octets.proofs.Find.{found_within, found_past}
use Rattle.sections.proofs.Splits.{as_others}
use Rattle.sections.proofs.fields.past.Goals as goal

pub returns-then-end-s : goal.returns-then-end-s
returns-then-end-s c =
    let args = c.args in
    let s = args.s.now in
    let end = c.find_byte-end.result in
    let none = drop_of_length-le s {i = end} (omega arith) in
    let past_none = found_past args.c s end c.find_byte-end.ensures ∙ drop_of_length-le s {i = end + 1} (omega arith) in
    let all = as_others args.c s (take (length s - end) (drop end s)) (rest_is s end ∙ none ∙ sym past_none) in
    record { behind = all.0; others = all.1 }

-- the byte was found within the text
pub overflow_add-next : goal.overflow_add-next
overflow_add-next c =
    let inside : c.find_byte-end.result < length c.args.s.now = let args = c.args in
    omega (arith, found_within args.c args.s.now c.find_byte-end.result c.find_byte-end.ensures) in
    record { fits = omega (arith, inside) }

pub slice_bounds-result-count-2 : goal.slice_bounds-result-count-2
slice_bounds-result-count-2 c =
    let inside : c.find_byte-end.result < length c.args.s.now = let args = c.args in
    omega (arith, found_within args.c args.s.now c.find_byte-end.result c.find_byte-end.ensures) in
    omega (arith, inside)

pub slice_bounds-result-start-2 : goal.slice_bounds-result-start-2
slice_bounds-result-start-2 c =
    let inside : c.find_byte-end.result < length c.args.s.now = let args = c.args in
    omega (arith, found_within args.c args.s.now c.find_byte-end.result c.find_byte-end.ensures) in
    omega (arith, inside)

pub returns : goal.returns
returns c =
    let args = c.args in
    let s = args.s.now in
    let next = c.find_byte-end.result + 1 in
    let all = as_others args.c s (take (length s - next) (drop next s))
    (rest_is s next ∙ sym (found_past args.c s c.find_byte-end.result c.find_byte-end.ensures)) in
    record { behind = all.0; others = all.1 }
