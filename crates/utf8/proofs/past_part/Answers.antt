-- `utf8::past_part` meets its contract. ASCII bytes are gone over by chars-ascii-part; else it is what past_chars does.
-- Assumes nothing.
use mathlib.Core.Path.{sym}
use Prim.Native.Nat.{◌-◌, ◌<◌}
use native.Mathlib.Omega.{arith}
use lib.ListN.{take, drop}
use borrow.Author.Rules.{rules}
use Rattle.utf8.specs.Blocks.{largest_of}
use Rattle.utf8.proofs.Utf8Answers.{ascii_is}
use Rattle.utf8.proofs.CharsEnd.{chars-ascii-part}
use Rattle.utf8.proofs.past_part.Goals as goal

pub returns-then-largest-lt128 : goal.returns-then-largest-lt128
returns-then-largest-lt128 c =
    let a = c.args in
    let top = c.largest in
    let part = take (a.stop - a.from) (drop a.from a.s.now) in
    let l : largest_of part < 0x80 = omega (arith, top.ensures) in
    sym (chars-ascii-part (a.stop - a.from) a.s.now a.from a.stop (omega arith) (omega arith) (ascii_is part l))

pub returns : goal.returns
returns c = search rules
