use Prim.Native.Nat.{ℕ, ◌+◌}
use mathlib.Core.Path.{sym, ap, ◌∙◌}
use native.Mathlib.Omega.{arith}
use lib.ListN.{length-map}
use Rattle.format.specs.Characters.{matched}
use Rattle.format.proofs.Lists.{rest_is}
use Rattle.characters.specs.Coded.{coded, coded_all}
use Rattle.characters.proofs.Coding.{past_end, char_ascii, char_none, char_whole, char_part}
use Rattle.characters.proofs.char_len.Goals as goal

pub returns-then-s-at : goal.returns-then-s-at
returns-then-s-at c = (past_end c.args.s.now c.args.at (omega arith)).1

pub returns-then-b-lt128 : goal.returns-then-b-lt128
returns-then-b-lt128 c = char_ascii c.args.s.now c.args.at (omega arith) (omega arith)

pub returns-in-None : goal.returns-in-None
returns-in-None c = char_none c.args.s.now c.args.at (omega arith) (sym c.in-None.ensures)

pub returns-then-matched-ranges : goal.returns-then-matched-ranges
returns-then-matched-ranges c =
    let s = c.args.s.now in
    let rs = coded_all c.in-Some.ranges.now in
    ap (λ (k : ℕ). k + 1) (sym (length-map c.in-Some.ranges.now coded))
    ∙ char_whole s c.args.at (omega arith) rs c.matched.result (sym c.in-Some.ensures) (c.matched.ensures ∙ ap (matched rs) (rest_is s (c.args.at + 1)))
    (omega (arith, length-map c.in-Some.ranges.now coded))

pub returns-else-matched-ranges : goal.returns-else-matched-ranges
returns-else-matched-ranges c =
    let s = c.args.s.now in
    let rs = coded_all c.in-Some.ranges.now in
    char_part s c.args.at (omega arith) rs c.matched.result (sym c.in-Some.ensures) (c.matched.ensures ∙ ap (matched rs) (rest_is s (c.args.at + 1)))
    (λ e. omega (arith, length-map c.in-Some.ranges.now coded))
