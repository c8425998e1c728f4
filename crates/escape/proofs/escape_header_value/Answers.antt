-- `escape::escape_header_value` meets its contract. The invariant: with what is left written at its place, the slice is as the contract says. Assumes nothing.
use mathlib.Core.Path.{◌≡◌, refl, sym, ap, ◌∙◌}
use Prim.Native.Nat.{◌+◌}
use native.Mathlib.Omega.{arith}
use lib.ListN.{length, drop}
use Rattle.format.specs.Bytes.{Bytes, pasted}
use Rattle.format.specs.Escaping.{escape}
use Rattle.octets.proofs.Paste.{pasted_nil, length_pasted}
use Rattle.escape.specs.Forms.{takes_form, width_form, written_form}
use Rattle.escape.proofs.BareBytes.{bare_escape}
use Rattle.escape.proofs.EscapeTurns.{width_written, takes_some, turn_within, turn_length, turn_pasted, escape_end}
use Rattle.escape.proofs.escape_header_value.Goals as goal

pub copy_at-requires : goal.copy_at-requires
copy_at-requires c =
    omega (arith, ap length (bare_escape c.args.v.now (sym c.bare_text.ensures ∙ c.if-bare_text.true)))

pub overflow_add-result : goal.overflow_add-result
overflow_add-result c =
    let as_is : escape c.args.v.now ≡ c.args.v.now = bare_escape c.args.v.now
    (sym c.bare_text.ensures ∙ c.if-bare_text.true) in
    omega (arith, ap length as_is)

pub returns-then-bare_text : goal.returns-then-bare_text
returns-then-bare_text c =
    let as_is : escape c.args.v.now ≡ c.args.v.now = bare_escape c.args.v.now
    (sym c.bare_text.ensures ∙ c.if-bare_text.true) in
    rw as_is (record { placed = refl; wrote = c.copy_at.ensures })

pub loop-i-init : goal.loop-i-init
loop-i-init c = (omega arith, refl, refl, refl)

pub put_form-requires : goal.put_form-requires
put_form-requires c =
    let v = c.args.v.now in
    let f = c.form_at-f in
    omega (arith, turn_length v c.loop-i.i f.result (omega arith) f.ensures)

pub overflow_add-to : goal.overflow_add-to
overflow_add-to c =
    let v = c.args.v.now in
    let f = c.form_at-f in
    omega (arith, turn_length v c.loop-i.i f.result (omega arith) f.ensures, c.width-to.ensures)

pub overflow_add-i : goal.overflow_add-i
overflow_add-i c =
    let v = c.args.v.now in
    let f = c.form_at-f in
    omega (arith, turn_within v c.loop-i.i f.result (omega arith) f.ensures, c.takes-i.ensures)

pub loop-i-smaller : goal.loop-i-smaller
loop-i-smaller c = omega (arith, takes_some c.form_at-f.result, c.takes-i.ensures)

pub loop-i-preserved : goal.loop-i-preserved
loop-i-preserved c =
    let v = c.args.v.now in
    let i = c.loop-i.i in
    let to = c.loop-i.to in
    let out = c.loop-i.out in
    let f = c.form_at-f in
    let put = c.put_form in
    let l = turn_length v i f.result (omega arith) f.ensures in
    rw (c.takes-i.ensures, c.width-to.ensures) (
      turn_within v i f.result (omega arith) f.ensures,
      omega arith,
      ap (λ (d : Bytes). pasted (to + width_form f.result) (escape (drop (i + takes_form f.result) v)) d) put.ensures
          ∙ turn_pasted v i f.result (omega arith) f.ensures to out (omega arith)
          ∙ c.loop-i.invariant.2,
      ap length put.ensures
          ∙ length_pasted to (written_form f.result) out (omega (arith, width_written f.result))
          ∙ c.loop-i.invariant.3,
    )

pub returns : goal.returns
returns c =
    let v = c.args.v.now in
    let l = c.loop-i in
    let e = escape_end v l.i (omega arith) in
    record { placed = omega (arith, ap length e); wrote = sym (pasted_nil l.to l.out) ∙ ap (λ (t : Bytes). pasted l.to t l.out) (sym e) ∙ l.invariant.2 }
