-- `read::read_head` meets its contract: 23 comes by the body's length, and the place behind the third separator is the body's where that
-- stands in the text. Assumes nothing.
use mathlib.Core.Path.{◌∙◌}
use native.Mathlib.Omega.{arith}
use Rattle.format.specs.Limits.{max_body}
use Rattle.format.specs.ReadingRfc.{line_reader}
use Rattle.format.specs.Told.{told}
use Rattle.read.specs.Heads.{any_body, read_head_with}
use Rattle.read.specs.declared.Lines.{Lines}
use Rattle.read.proofs.LinesLoop.{ok_number, err_number, err_told}
use Rattle.read.proofs.Endings.{told_lines, body_placed, told_long, head-inside, head-outside}
use Rattle.read.proofs.read_head.Goals as goal

pub returns-in_err-message-clause-answered : goal.returns-in_err-message-clause-answered
unfolding read_head_with any_body
returns-in_err-message-clause-answered c =
    err_told Lines _ _ c.from_residual.ensures.1
    ∙ told_lines (line_reader c.args.manner) c.args.text.now c.args.head.now _ _ _ c.in_err-message.ensures.read (err_number Lines _) max_body

pub body_len-n-requires : goal.body_len-n-requires
body_len-n-requires c =
    let read = c.in_ok-message.ensures in
    body_placed (line_reader c.args.manner) c.args.text.now c.args.head.now _ _ _ read.read (ok_number c.in_ok-message.field-0) _ _ read.body

pub returns-then-n-gt-MAX_BODY_SIZE-clause-answered : goal.returns-then-n-gt-MAX_BODY_SIZE-clause-answered
unfolding read_head_with any_body told
returns-then-n-gt-MAX_BODY_SIZE-clause-answered c =
    let read = c.in_ok-message.ensures in
    told_long (line_reader c.args.manner) c.args.text.now c.args.head.now _ _ _ read.read (ok_number c.in_ok-message.field-0) _ _ read.body
    _ c.body_len-n.ensures (omega arith) max_body

pub returns-then-crlf : goal.returns-then-crlf
returns-then-crlf c =
    let read = c.in_ok-message.ensures in
    let parsed =
    head-inside (line_reader c.args.manner) c.args.text.now c.args.head.now _ _ _ read.read (ok_number c.in_ok-message.field-0) _ _ read.body
    _ c.body_len-n.ensures (omega arith) c.read_text.auto.head c.if-crlf.true in
    record { answered = parsed.answered; read = parsed }

pub returns-else-crlf : goal.returns-else-crlf
returns-else-crlf c =
    let read = c.in_ok-message.ensures in
    let parsed =
    head-outside (line_reader c.args.manner) c.args.text.now c.args.head.now _ _ _ read.read (ok_number c.in_ok-message.field-0) _ _ read.body
    _ c.body_len-n.ensures (omega arith) c.read_text.auto.head c.if-crlf.false in
    record { answered = parsed.answered; read = parsed }
