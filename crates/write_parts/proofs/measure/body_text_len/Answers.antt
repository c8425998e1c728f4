-- `write_parts::measure::body_text_len` meets its contract. Assumes nothing.
use mathlib.Core.Path.{sym, ap, ◌∙◌}
use native.Mathlib.Omega.{arith}
use lib.ListN.{length}
use borrow.Author.Tests.{eq-eqb}
use Rattle.format.proofs.Characters.Replaced.{replaced_same}
use Rattle.characters.proofs.Utf8End.{utf8_tested}
use Rattle.write_parts.proofs.TextLengths.{replaced_length}
use Rattle.write_parts.proofs.measure.body_text_len.Goals as goal

pub returns-then-end-body : goal.returns-then-end-body
returns-then-end-body c =
    let b = c.args.body.now in
    let all = c.if-end-body.true in
    let same = replaced_same b (sym (utf8_tested b c.args.end c.requires.0) ∙ eq-eqb c.args.end (length b) all) in
    (all ∙ ap length (sym same), omega (arith, all, c.requires.1))

pub replaced_len-requires : goal.replaced_len-requires
replaced_len-requires c = omega (arith, c.requires.1)

pub returns : goal.returns
returns c =
    (c.replaced_len.ensures, omega (arith, c.replaced_len.ensures, replaced_length c.args.body.now, c.requires.1))
