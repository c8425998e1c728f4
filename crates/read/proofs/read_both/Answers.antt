-- `read::read_both` meets its contract: what the lines give, then the body, judged by 23 and 26 and laid down. Assumes nothing.
use mathlib.Core.Path.{ap, ◌∙◌}
use native.Mathlib.Omega.{arith}
use lib.ListN.{length, drop}
use Rattle.format.specs.ReadingRfc.{line_reader}
use Rattle.format.specs.Lending.{length_of, lengths}
use Rattle.format.specs.Told.{told}
use Rattle.read.specs.TextLines.{copied_over}
use Rattle.read.specs.declared.Lines.{Lines}
use Rattle.read.proofs.LinesLoop.{ok_number, err_number, err_told}
use Rattle.read.proofs.Endings.{told_lines, body_placed, told_long, told_short, whole-stored}
use Rattle.read.proofs.read_both.Goals as goal

pub returns-in_err-lines-clause-answered : goal.returns-in_err-lines-clause-answered
unfolding lengths length_of
returns-in_err-lines-clause-answered c =
    err_told Lines _ _ c.from_residual.ensures.1
    ∙ told_lines (line_reader c.args.manner) c.args.text.now c.args.head.now _ _ _ c.in_err-lines.ensures.read (err_number Lines _) (length c.args.body.now)

pub join_or_measure-len-requires : goal.join_or_measure-len-requires
join_or_measure-len-requires c =
    let read = c.in_ok-lines.ensures in
    body_placed (line_reader c.args.manner) c.args.text.now c.args.head.now _ _ _ read.read (ok_number c.in_ok-lines.lines) _ _ read.body

pub returns-then-len-gt-MAX_BODY_SIZE-clause-answered : goal.returns-then-len-gt-MAX_BODY_SIZE-clause-answered
unfolding lengths length_of told
returns-then-len-gt-MAX_BODY_SIZE-clause-answered c =
    let read = c.in_ok-lines.ensures in
    told_long (line_reader c.args.manner) c.args.text.now c.args.head.now _ _ _ read.read (ok_number c.in_ok-lines.lines) _ _ read.body
    _ c.join_or_measure-len.ensures.length (omega arith) (length c.args.body.now)

pub returns-then-body-len-clause-answered : goal.returns-then-body-len-clause-answered
unfolding lengths length_of told
returns-then-body-len-clause-answered c =
    let read = c.in_ok-lines.ensures in
    let store = c.join_or_measure-len in
    told_short (line_reader c.args.manner) c.args.text.now c.args.head.now _ _ _ read.read (ok_number c.in_ok-lines.lines) _ _ read.body
    _ store.ensures.length (omega (arith, c.if-len-gt-MAX_BODY_SIZE)) (length c.args.body.now) (omega (arith, store.auto.store))

-- the body has room
pub copy_body-requires : goal.copy_body-requires
copy_body-requires c =
    let read = c.in_ok-lines.ensures in
    let store = c.join_or_measure-len in
    ((body_placed (line_reader c.args.manner) c.args.text.now c.args.head.now _ _ _ read.read (ok_number c.in_ok-lines.lines) _ _ read.body).0, omega (arith, store.ensures.length))

pub returns : goal.returns
unfolding told
returns c =
    let read = c.in_ok-lines.ensures in
    let store = c.join_or_measure-len in
    let parsed =
    whole-stored (line_reader c.args.manner) c.args.text.now c.args.head.now _ _ _ read.read (ok_number c.in_ok-lines.lines) _ _ read.body
    _ store.ensures.length (omega (arith, c.if-len-gt-MAX_BODY_SIZE)) c.read_text.auto.head c.args.body.now _ (omega (arith, c.if-body-len, store.auto.store))
    (c.copy_body.ensures ∙ ap (copied_over c.in_ok-lines.lines.crlf (drop c.in_ok-lines.lines.rest c.args.text.now)) store.ensures.bytes) in
    record { answered = parsed.answered; read = parsed }
