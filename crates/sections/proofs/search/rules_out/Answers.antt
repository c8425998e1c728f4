-- `sections::search::rules_out` meets its contract. The invariant: while the least difference so far is above 0 the pattern stands at no place that was
-- passed (`apart_next`). Behind the 16 places it does not fit (`place_end`). Assumes nothing.
use Prim.Native.Nat.{◌-◌, ◌<◌, min}
use native.Mathlib.Omega.{arith}
use lib.ListN.{length}
use borrow.Author.Tests.{ltb-true}
use Rattle.sections.proofs.FirstPlace.{place_end}
use Rattle.sections.proofs.SearchBlocks.{apart_4, apart_next}
use Rattle.sections.proofs.search.rules_out.Goals as goal

pub loop-k-init : goal.loop-k-init
loop-k-init c = (omega arith, λ l. omega arith)

pub loop-k-preserved : goal.loop-k-preserved
loop-k-preserved c = (
  omega arith,
  λ h. let p = c.args.pattern.now in
      let m = length p - 1 - 1 in
      let n = length p - 1 in
      let b = c.args.block.now in
      let k = c.loop-k.k in
      let least : 0 < min c.loop-k.low (apart_4 p b m n k) = rw c.min-low.ensures at h in
      omega (arith, c.loop-k.invariant.1 (omega arith), apart_next p b m n k (omega arith) (omega arith) (omega arith) (omega arith) (omega arith)),
)

pub returns : goal.returns
returns c = λ t.
    place_end c.loop-k.k c.args.pattern.now c.args.block.now (omega arith) (omega arith) (c.loop-k.invariant.1 (ltb-true 0 c.loop-k.low t))
