-- `report::show` meets its contract: an input that is too long, refused, or accepted. Assumes nothing.
use mathlib.Core.Path.{refl, ap, ◌∙◌}
use native.Mathlib.Omega.{arith}
use borrow.Author.Rules.{rules}
use Rattle.format.specs.Refusals.{table}
use Rattle.format.specs.Told.{meant, told}
use Rattle.format.specs.Showing.{show_numbers}
use Rattle.format.specs.declared.Numbers.{Numbers}
use Rattle.format.proofs.Steps.{refused_number}
use Rattle.output.proofs.Puts.{puts_then, puts_as}
use Rattle.report.proofs.Read.{in_store, read_holds}
use Rattle.report.proofs.ShownCases.{too_long_lem, shown_refused, shown_accepted}
use Rattle.report.proofs.show.Goals as goal

pub returns-then-input-gt65536 : goal.returns-then-input-gt65536
unfolding table meant
returns-then-input-gt65536 c =
    puts_as _ 1712 (ap (λ (n : Numbers). show_numbers n) c.from.ensures ∙ too_long_lem c.args.input.now c.if-input-gt65536.true) (omega arith) c.put_numbers.ensures

pub put_held_lines-requires : goal.put_held_lines-requires
unfolding told
put_held_lines-requires c = (
  omega (arith, c.put_numbers-to.ensures.within, c.put_numbers-to.auto.out),
  read_holds c.args.input.now _ _ _ _ (search rules) (search rules) c.in-Ok.ensures refl,
)

pub returns-in-Ok : goal.returns-in-Ok
unfolding told
returns-in-Ok c =
    let input = c.args.input.now in
    puts_as _ 1712 (shown_accepted input _ _ _ _ c.if-input-gt65536.false (search rules) (search rules) c.in-Ok.ensures refl) (omega arith)
    (puts_then (omega arith) c.put_numbers-to.ensures (c.put_held_lines.ensures _ (in_store input _ _ _ _ (search rules) (search rules) c.in-Ok.ensures refl)))

pub returns-in-Err : goal.returns-in-Err
unfolding told
returns-in-Err c =
    puts_as _ 1712
    (ap (λ (n : Numbers). show_numbers n) c.from-in-Err.ensures
    ∙ shown_refused c.args.input.now _ _ _ _ c.if-input-gt65536.false (search rules) (search rules) c.in-Err.ensures (refused_number (meant c.in-Err.refusal))) (omega arith)
    c.put_numbers-in-Err.ensures
