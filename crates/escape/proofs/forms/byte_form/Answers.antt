-- `escape::forms::byte_form` meets its contract. A byte that is none of those tested is written as it is. Assumes nothing.
use mathlib.Core.Path.{refl, sym}
use native.Mathlib.Omega.{arith}
use Rattle.format.specs.Characters.{is_ascii_control}
use Rattle.format.specs.Escaping.{short_form}
use Rattle.escape.specs.Forms.{byte_form}
use Rattle.escape.proofs.FormAt.{byte_plain}
use Rattle.escape.proofs.forms.byte_form.Goals as goal

pub returns-then-b-eq127 : goal.returns-then-b-eq127
unfolding byte_form short_form is_ascii_control
returns-then-b-eq127 c = rw c.if-b-eq127.true refl

pub returns-then-b-gt92 : goal.returns-then-b-gt92
returns-then-b-gt92 c = sym (byte_plain c.args.b (omega arith) (λ e. omega arith) (λ e. omega arith) c.if-b-eq127.false)

pub returns-then-b-eq92 : goal.returns-then-b-eq92
unfolding byte_form short_form is_ascii_control
returns-then-b-eq92 c = rw c.if-b-eq92.true refl

pub returns-then-b-gt34 : goal.returns-then-b-gt34
returns-then-b-gt34 c = sym (byte_plain c.args.b (omega arith) (λ e. omega arith) c.if-b-eq92.false (λ e. omega arith))

pub returns-then-b-eq34 : goal.returns-then-b-eq34
unfolding byte_form short_form is_ascii_control
returns-then-b-eq34 c = rw c.if-b-eq34.true refl

pub returns-then-b-gt31 : goal.returns-then-b-gt31
returns-then-b-gt31 c = sym (byte_plain c.args.b (omega arith) c.if-b-eq34.false (λ e. omega arith) (λ e. omega arith))
