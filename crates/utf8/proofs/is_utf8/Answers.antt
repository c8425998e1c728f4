-- `utf8::is_utf8` meets its contract. A text is UTF-8 exactly when UTF-8 ends at its end; ASCII is. Assumes nothing.
use mathlib.Core.Path.{sym}
use Prim.Native.Nat.{◌<◌}
use native.Mathlib.Omega.{arith}
use Rattle.format.proofs.Characters.Chars.{utf8_ascii_text}
use Rattle.characters.proofs.Utf8End.{utf8_tested}
use Rattle.utf8.specs.Blocks.{largest_of}
use Rattle.utf8.proofs.Utf8Answers.{ascii_is}
use Rattle.utf8.proofs.is_utf8.Goals as goal

pub returns-then-largest-lt128 : goal.returns-then-largest-lt128
returns-then-largest-lt128 c =
    let s = c.args.s.now in
    let l : largest_of s < 0x80 = omega (arith, c.largest.ensures) in
    sym (utf8_ascii_text s (ascii_is s l))

pub returns : goal.returns
returns c = utf8_tested c.args.s.now c.utf8_end.result c.utf8_end.ensures
