-- `sections::fields::up_to` meets its contract: the bytes before the place that `find_byte` gives. Assumes nothing.
use mathlib.Core.Path.{sym}
use lib.ListN.{take}
use lib.Seq.{length-take-le}
use Rattle.octets.proofs.Find.{found_within, found_up_to}
use Rattle.sections.proofs.Splits.{as_first}
use Rattle.sections.proofs.fields.up_to.Goals as goal

pub slice_bounds-result-end : goal.slice_bounds-result-end
slice_bounds-result-end c =
    let args = c.args in
    let end = c.find_byte-end.result in
    sym (length-take-le end args.s.now (found_within args.c args.s.now end c.find_byte-end.ensures))

pub returns : goal.returns
returns c =
    let args = c.args in
    let end = c.find_byte-end.result in
    let all = as_first args.c args.s.now (take end args.s.now) (sym (found_up_to args.c args.s.now end c.find_byte-end.ensures)) in
    record { before = all.0; first = all.1 }
