-- `escape::forms::form_at` meets its contract. The form of the bytes from i on, by one byte or by two. Assumes nothing.
use mathlib.Core.Path.{sym, ◌∙◌}
use native.Mathlib.Omega.{arith}
use borrow.Author.Rules.{rules}
use Rattle.format.proofs.Characters.Table.{within_below, within_above}
use Rattle.format.specs.Characters.{◌to◌}
use Rattle.escape.proofs.FormAt.{form_other, form_end, form_beside, form_upper}
use Rattle.escape.proofs.forms.form_at.Goals as goal

pub returns-then-b : goal.returns-then-b
returns-then-b c =
    let args = c.args in
    c.byte_form.ensures ∙ sym (form_other args.v.now args.i (omega arith) c.if-b.true)

pub returns-then-v-next : goal.returns-then-v-next
returns-then-v-next c =
    let args = c.args in
    c.byte_form-then-v-next.ensures ∙ sym (form_end args.v.now args.i (omega arith) (omega arith))

pub bounds-v-next : goal.bounds-v-next
bounds-v-next c = search rules

pub returns-then-c-lt128 : goal.returns-then-c-lt128
returns-then-c-lt128 c =
    let args = c.args in
    c.byte_form-then-c-lt128.ensures
    ∙ sym (form_beside args.v.now args.i (omega arith) (omega arith) (within_below _ (0x80 to 0x9F) c.if-c-lt128.true))

pub returns-then-c-gt159 : goal.returns-then-c-gt159
returns-then-c-gt159 c =
    let args = c.args in
    c.byte_form-then-c-gt159.ensures ∙ sym (form_beside args.v.now args.i (omega arith) (omega arith) (within_above _ (0x80 to 0x9F) c.if-c-gt159.true))

pub returns : goal.returns
returns c =
    let args = c.args in
    sym
    (form_upper args.v.now args.i (omega arith) c.if-b.false (omega arith) c.if-c-lt128.false c.if-c-gt159.false)
