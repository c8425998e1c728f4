-- `escape::forms::low_form` meets its contract. Each byte by its arm. Assumes nothing.
use mathlib.Core.Path.{refl, sym}
use native.Mathlib.Omega.{arith}
use Rattle.format.specs.Characters.{is_ascii_control}
use Rattle.format.specs.Escaping.{short_form}
use Rattle.escape.specs.Forms.{byte_form}
use Rattle.escape.proofs.FormAt.{byte_low}
use Rattle.escape.proofs.forms.low_form.Goals as goal

pub returns-in-8 : goal.returns-in-8
unfolding byte_form short_form is_ascii_control
returns-in-8 c = rw c.in-8.is refl

pub returns-in-9 : goal.returns-in-9
unfolding byte_form short_form is_ascii_control
returns-in-9 c = rw c.in-9.is refl

pub returns-in-10 : goal.returns-in-10
unfolding byte_form short_form is_ascii_control
returns-in-10 c = rw c.in-10.is refl

pub returns-in-13 : goal.returns-in-13
unfolding byte_form short_form is_ascii_control
returns-in-13 c = rw c.in-13.is refl

pub returns-in_default : goal.returns-in_default
returns-in_default c = sym (byte_low c.args.b (omega arith) (omega arith) (omega arith) (omega arith) (omega arith))
