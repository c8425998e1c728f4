-- `escape::putting::put_unicode` meets its contract. Six stores, one behind another. Assumes nothing.
use mathlib.Core.Path.{refl, ◌∙◌}
use native.Mathlib.Omega.{arith}
use lib.ListN.{length-set}
use Rattle.format.specs.Escaping.{unicode_escape}
use Rattle.octets.proofs.Paste.{stores-six}
use Rattle.escape.proofs.putting.put_unicode.Goals as goal

pub bounds-out-at-2 : goal.bounds-out-at-2
bounds-out-at-2 c = simp length-set (omega arith)

pub bounds-out-at-3 : goal.bounds-out-at-3
bounds-out-at-3 c = simp length-set (omega arith)

pub bounds-out-at-4 : goal.bounds-out-at-4
bounds-out-at-4 c = simp length-set (omega arith)

pub bounds-out-at-5 : goal.bounds-out-at-5
bounds-out-at-5 c = simp length-set (omega arith)

pub bounds-out-at-6 : goal.bounds-out-at-6
bounds-out-at-6 c = simp length-set (omega arith)

pub returns : goal.returns
unfolding unicode_escape
returns c =
    let args = c.args in
    stores-six args.out.now args.at 92 117 c.digit-first.result c.digit-second.result c.digit-third.result c.digit-fourth.result (omega arith)
    ∙ rw (c.digit-first.ensures, c.digit-second.ensures, c.digit-third.ensures, c.digit-fourth.ensures) refl
