-- `utf8::blocks::past_sound` meets its contract. Each answer is a case of `sound_end`.
-- Assumes nothing.
use mathlib.Core.Path.{sym}
use Prim.Native.Nat.{◌+◌, ◌-◌}
use native.Mathlib.Omega.{arith}
use Rattle.utf8.proofs.Utf8Answers.{sound_not, sound_first, sound_second, sound_third, sound_all}
use Rattle.utf8.proofs.blocks.past_sound.Goals as goal

pub returns-then-faults : goal.returns-then-faults
returns-then-faults c =
    let a = c.args in
    let f = c.faults in
    sym (sound_not a.s.now a.from (a.from + 67 - a.from) f.result (omega arith) f.ensures c.if-faults.true)

pub returns-then-s-from-ge194 : goal.returns-then-s-from-ge194
returns-then-s-from-ge194 c =
    let a = c.args in
    let f = c.faults in
    sym (sound_first a.s.now a.from (a.from + 67 - a.from) f.result (omega arith) f.ensures c.if-faults.false (omega arith))

pub returns-then-s-from-ge224 : goal.returns-then-s-from-ge224
returns-then-s-from-ge224 c =
    let a = c.args in
    let f = c.faults in
    sym (sound_second a.s.now a.from (a.from + 67 - a.from) f.result (omega arith) f.ensures c.if-faults.false (omega arith) (omega arith))

pub returns-then-s-from-ge240 : goal.returns-then-s-from-ge240
returns-then-s-from-ge240 c =
    let a = c.args in
    let f = c.faults in
    sym (sound_third a.s.now a.from (a.from + 67 - a.from) f.result (omega arith) f.ensures c.if-faults.false (omega arith) (omega arith) (omega arith))

pub returns-else-s-from-ge240 : goal.returns-else-s-from-ge240
returns-else-s-from-ge240 c =
    let a = c.args in
    let f = c.faults in
    sym (sound_all a.s.now a.from (a.from + 67 - a.from) f.result (omega arith) f.ensures c.if-faults.false (omega arith) (omega arith) (omega arith))
