-- `escape::escaped_len` meets its contract. The invariant: the length is n and what the bytes from i on are written in. Assumes nothing.
use mathlib.Core.Path.{sym, ap, ◌∙◌}
use native.Mathlib.Omega.{arith}
use lib.ListN.{length}
use Rattle.format.proofs.Escaping.Escape.{escape_length}
use Rattle.escape.proofs.BareBytes.{bare_escape}
use Rattle.escape.proofs.EscapeTurns.{takes_some, turn_within, turn_length, escape_end}
use Rattle.escape.proofs.escaped_len.Goals as goal

pub returns-then-bare_text : goal.returns-then-bare_text
returns-then-bare_text c = sym (ap length (bare_escape c.args.v.now (sym c.bare_text.ensures ∙ c.if-bare_text.true)))

pub loop-i-init : goal.loop-i-init
loop-i-init c = omega arith

pub overflow_add-n : goal.overflow_add-n
overflow_add-n c =
    let v = c.args.v.now in
    let f = c.form_at-f in
    omega (arith, turn_length v c.loop-i.i f.result (omega arith) f.ensures, escape_length v, c.width-n.ensures)

pub overflow_add-i : goal.overflow_add-i
overflow_add-i c =
    let v = c.args.v.now in
    let f = c.form_at-f in
    omega (arith, turn_within v c.loop-i.i f.result (omega arith) f.ensures, c.takes-i.ensures)

pub loop-i-smaller : goal.loop-i-smaller
loop-i-smaller c = omega (arith, takes_some c.form_at-f.result, c.takes-i.ensures)

pub loop-i-preserved : goal.loop-i-preserved
loop-i-preserved c =
    let v = c.args.v.now in
    let i = c.loop-i.i in
    let f = c.form_at-f in
    rw (c.takes-i.ensures, c.width-n.ensures) (
      turn_within v i f.result (omega arith) f.ensures,
      omega (arith, turn_length v i f.result (omega arith) f.ensures),
    )

pub returns : goal.returns
returns c =
    let v = c.args.v.now in
    omega (arith, ap length (escape_end v c.loop-i.i (omega arith)))
