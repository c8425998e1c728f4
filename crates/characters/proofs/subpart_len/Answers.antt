use Prim.Native.Nat.{◌+◌}
use mathlib.Core.Path.{sym, ap, ◌∙◌}
use native.Mathlib.Omega.{arith}
use lib.ListN.{length, length-drop}
use Rattle.format.specs.Characters.{matched}
use Rattle.format.proofs.Lists.{rest_is}
use Rattle.characters.specs.Coded.{coded_all}
use Rattle.characters.proofs.Coding.{past_end, matched_few, subpart_none, subpart_row}
use Rattle.characters.proofs.subpart_len.Goals as goal

pub returns-then-s-at : goal.returns-then-s-at
returns-then-s-at c = (past_end c.args.s.now c.args.at (omega arith)).0

pub overflow_add-result : goal.overflow_add-result
overflow_add-result c = rw c.matched.ensures (omega (arith, matched_few, length-drop (c.args.at + 1) c.args.s.now, ap length (rest_is c.args.s.now (c.args.at + 1))))

pub returns-in-Some : goal.returns-in-Some
returns-in-Some c =
    let s = c.args.s.now in
    let rs = coded_all c.in-Some.ranges.now in
    subpart_row s c.args.at (omega arith) rs c.matched.result (sym c.in-Some.ensures) (c.matched.ensures ∙ ap (matched rs) (rest_is s (c.args.at + 1)))

pub returns-in-None : goal.returns-in-None
returns-in-None c = subpart_none c.args.s.now c.args.at (omega arith) (sym c.in-None.ensures)
