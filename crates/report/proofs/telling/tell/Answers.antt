-- `report::telling::tell` meets its contract: an input that is too long, refused, or accepted. Assumes nothing.
use mathlib.Core.Path.{refl}
use native.Mathlib.Omega.{arith}
use borrow.Author.Rules.{rules}
use Rattle.format.specs.Refusals.{table}
use Rattle.format.specs.Told.{meant, told}
use Rattle.format.proofs.Steps.{refused_number}
use Rattle.report.proofs.Read.{in_store, read_holds}
use Rattle.report.proofs.TellingCases.{line_told, too_long_lem, told_refused, told_accepted}
use Rattle.report.proofs.telling.tell.Goals as goal

pub returns-then-input-gt65536 : goal.returns-then-input-gt65536
unfolding table meant
returns-then-input-gt65536 c = line_told c.args.input.now _ 134 (too_long_lem c.args.input.now c.if-input-gt65536.true) (omega arith) c.put_refusal-long.ensures (c.put_byte.ensures.place, c.put_byte.ensures.bytes)

pub put_loss-to-requires : goal.put_loss-to-requires
unfolding told
put_loss-to-requires c =
    (omega arith, read_holds c.args.input.now _ _ _ _ (search rules) (search rules) c.in-Ok.ensures refl)

pub put_byte-requires-in-Ok : goal.put_byte-requires-in-Ok
unfolding told
put_byte-requires-in-Ok c =
    omega (arith, c.put_loss-to.auto.out, (c.put_loss-to.ensures _ (in_store c.args.input.now _ _ _ _ (search rules) (search rules) c.in-Ok.ensures refl)).within)

pub returns-in-Ok : goal.returns-in-Ok
unfolding told
returns-in-Ok c =
    let input = c.args.input.now in
    line_told input _ 935 (told_accepted input _ _ _ _ c.if-input-gt65536.false (search rules) (search rules) c.in-Ok.ensures refl c.loss_of-l.result c.loss_of-l.ensures) (omega arith)
    (c.put_loss-to.ensures _ (in_store input _ _ _ _ (search rules) (search rules) c.in-Ok.ensures refl)) (c.put_byte-in-Ok.ensures.place, c.put_byte-in-Ok.ensures.bytes)

pub returns-in-Err : goal.returns-in-Err
unfolding told
returns-in-Err c =
    let input = c.args.input.now in
    line_told input _ 134 (told_refused input _ _ _ _ c.if-input-gt65536.false (search rules) (search rules) c.in-Err.ensures (refused_number (meant c.in-Err.refusal))) (omega arith) c.put_refusal-no.ensures (c.put_byte-in-Err.ensures.place, c.put_byte-in-Err.ensures.bytes)
