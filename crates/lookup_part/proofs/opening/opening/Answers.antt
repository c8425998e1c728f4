-- `lookup_part::opening::opening` meets its contract. Assumes nothing.
use mathlib.Core.Path.{sym}
use Prim.Native.Nat.{◌<◌}
use native.Mathlib.Omega.{arith}
use lib.ListN.{length}
use lib.Seq.{length-take-le}
use Rattle.format.specs.Bytes.{less_sign}
use Rattle.octets.proofs.Find.{found_within}
use Rattle.lookup_part.proofs.AddressSigns.{without_sign, without_quote}
use Rattle.lookup_part.proofs.opening.opening.Goals as goal

pub returns-then-first-value : goal.returns-then-first-value
returns-then-first-value c =
    without_sign c.args.value.now c.find_byte-first.result c.find_byte-first.ensures c.if-first-value.true

pub slice_bounds-find_byte-end : goal.slice_bounds-find_byte-end
slice_bounds-find_byte-end c =
    let v = c.args.value.now in
    sym (length-take-le c.find_byte-first.result v (found_within less_sign v c.find_byte-first.result c.find_byte-first.ensures))

pub returns-then-find_byte-first : goal.returns-then-find_byte-first
returns-then-find_byte-first c =
    let more : c.find_byte-first.result < length c.args.value.now = omega (arith, c.if-first-value.false, found_within less_sign c.args.value.now c.find_byte-first.result c.find_byte-first.ensures) in
    without_quote c.args.value.now c.find_byte-first.result c.find_byte-first.ensures more c.find_byte.result c.find_byte.ensures c.if-find_byte-first.true
