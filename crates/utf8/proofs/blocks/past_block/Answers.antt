-- `utf8::blocks::past_block` meets its contract. Each answer is a case of `block_end`.
-- Assumes nothing.
use mathlib.Core.Path.{sym, ◌∙◌}
use Prim.Native.Nat.{◌+◌, ◌-◌}
use native.Mathlib.Omega.{arith}
use Rattle.utf8.proofs.Utf8Answers.{block_ascii, block_first, block_sound, block_not}
use Rattle.utf8.proofs.blocks.past_block.Goals as goal

pub returns-then-top-lt128 : goal.returns-then-top-lt128
returns-then-top-lt128 c =
    let a = c.args in
    let l = c.largest-top in
    sym (block_ascii a.s.now a.at (a.at + 64 - a.at) l.result (omega arith) l.ensures (omega arith))

pub returns-then-at-lt3 : goal.returns-then-at-lt3
returns-then-at-lt3 c =
    let a = c.args in
    let l = c.largest-top in
    sym (block_first a.s.now a.at (a.at + 64 - a.at) l.result (omega arith) l.ensures (omega arith) (omega arith))

pub returns-then-is_settled : goal.returns-then-is_settled
returns-then-is_settled c =
    let a = c.args in
    let l = c.largest-top in
    c.past_sound.ensures ∙ sym (block_sound a.s.now a.at (a.at + 64 - a.at) l.result (omega arith) l.ensures (omega arith) (omega arith) (sym c.is_settled.ensures ∙ c.if-is_settled.true))

pub returns : goal.returns
returns c =
    let a = c.args in
    let l = c.largest-top in
    sym (block_not a.s.now a.at (a.at + 64 - a.at) l.result (omega arith) l.ensures (omega arith) (sym c.is_settled.ensures ∙ c.if-is_settled.false))
