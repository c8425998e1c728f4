-- `read_header_line::values::escaped_len` meets its contract. Assumes nothing.
use mathlib.Core.Path.{ap, ◌∙◌}
use native.Mathlib.Omega.{arith}
use Rattle.format.specs.Refusals.{table, numbers}
use Rattle.format.specs.Told.{meant}
use Rattle.read_header_line.proofs.Yielding.{refusal}
use Rattle.read_header_line.proofs.ValueRead.{ok_or_err, ok_or_ok, unread, too_long_lem, value_stands}
use Rattle.read_header_line.proofs.values.escaped_len.Goals as goal

pub returns-in_err-size : goal.returns-in_err-size
unfolding numbers meant
returns-in_err-size c =
    let e = ok_or_err c.unescaped_len.result _ _ c.in_err-size.ensures.value in
    refusal _ _ c.from_residual.ensures.1 (ap numbers (unread _ (e.0 ∙ c.unescaped_len.ensures)) ∙ ap (λ r. table (meant r)) e.1)

pub returns-then-size-gt-MAX_HEADER_VALUE_LENGTH : goal.returns-then-size-gt-MAX_HEADER_VALUE_LENGTH
returns-then-size-gt-MAX_HEADER_VALUE_LENGTH c =
    too_long_lem _ _ (ok_or_ok c.unescaped_len.result _ _ c.in_ok-size.ensures.value ∙ c.unescaped_len.ensures) (omega arith)

pub returns : goal.returns
returns c = value_stands _ _ (ok_or_ok c.unescaped_len.result _ _ c.in_ok-size.ensures.value ∙ c.unescaped_len.ensures) (omega arith)
