-- `utf8::past_chars` meets its contract. The invariant: the characters from the place reached on end where those from the first
-- place on do; a character more is `chars_more`, and none where UTF-8 ends is `chars_ill`.
-- Assumes nothing.
use mathlib.Core.Path.{refl, sym, ◌∙◌}
use native.Mathlib.Omega.{arith}
use Rattle.characters.proofs.Utf8End.{char_step}
use Rattle.utf8.proofs.CharsEnd.{chars_stop, chars_ill, chars_more}
use Rattle.utf8.proofs.past_chars.Goals as goal

pub loop-at-init : goal.loop-at-init
loop-at-init c = (omega arith, refl)

pub returns-then-n-eq0 : goal.returns-then-n-eq0
returns-then-n-eq0 c =
    let a = c.args in
    let loop = c.loop-at in
    sym (loop.invariant.1 ∙ chars_ill a.s.now loop.at a.stop (omega arith) (sym c.char_len-n.ensures ∙ c.if-n-eq0.true))

pub overflow_add-at : goal.overflow_add-at
overflow_add-at c = omega (arith, (char_step c.args.s.now c.loop-at.at c.char_len-n.result c.char_len-n.ensures c.if-n-eq0.false).inside)

pub loop-at-smaller : goal.loop-at-smaller
loop-at-smaller c = omega (arith, (char_step c.args.s.now c.loop-at.at c.char_len-n.result c.char_len-n.ensures c.if-n-eq0.false).inside)

pub loop-at-preserved : goal.loop-at-preserved
loop-at-preserved c =
    let a = c.args in
    let loop = c.loop-at in
    let n = c.char_len-n in (
      (char_step a.s.now loop.at n.result n.ensures c.if-n-eq0.false).inside,
      loop.invariant.1 ∙ chars_more a.s.now loop.at a.stop n.result (omega arith) n.ensures c.if-n-eq0.false,
    )

pub returns : goal.returns
returns c = let a = c.args in sym (c.loop-at.invariant.1 ∙ chars_stop a.s.now c.loop-at.at a.stop (omega arith))
