-- `escape::putting::put_form` meets its contract. The stores of each form. Assumes nothing.
use mathlib.Core.Path.{refl, ap, ◌∙◌}
use native.Mathlib.Omega.{arith}
use lib.ListN.{length-set}
use Rattle.octets.proofs.Paste.{pasted_one, stores_two}
use Rattle.escape.specs.Forms.{width_form}
use Rattle.escape.proofs.putting.put_form.Goals as goal

pub bounds-out-at : goal.bounds-out-at
bounds-out-at c = omega (arith, ap width_form c.in-Raw.is)

pub bounds-out-at-in-Short : goal.bounds-out-at-in-Short
bounds-out-at-in-Short c = omega (arith, ap width_form c.in-Short.is)

pub bounds-out-at-in-Short-2 : goal.bounds-out-at-in-Short-2
bounds-out-at-in-Short-2 c = simp length-set (omega (arith, ap width_form c.in-Short.is))

pub put_unicode-requires : goal.put_unicode-requires
put_unicode-requires c = omega (arith, ap width_form c.in-Long.is)

pub put_unicode-requires-in-Upper : goal.put_unicode-requires-in-Upper
put_unicode-requires-in-Upper c = omega (arith, ap width_form c.in-Upper.is)

pub returns-in-Raw : goal.returns-in-Raw
returns-in-Raw c =
    let args = c.args in
    pasted_one args.at c.in-Raw.b args.out.now (omega (arith, ap width_form c.in-Raw.is)) ∙ rw c.in-Raw.is refl

pub returns-in-Short : goal.returns-in-Short
returns-in-Short c =
    let args = c.args in
    stores_two args.out.now args.at 92 c.in-Short.c (omega (arith, ap width_form c.in-Short.is))
    ∙ rw c.in-Short.is refl

pub returns-in-Long : goal.returns-in-Long
returns-in-Long c =
    c.put_unicode.ensures ∙ rw c.in-Long.is refl

pub returns-in-Upper : goal.returns-in-Upper
returns-in-Upper c =
    c.put_unicode-in-Upper.ensures ∙ rw c.in-Upper.is refl
