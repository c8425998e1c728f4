-- `write::write_held` meets its contract. Assumes nothing.
use mathlib.Core.Path.{sym, ap, ◌∙◌}
use native.Mathlib.Omega.{arith}
use lib.ListN.{length}
use lib.Seq.{length-take-le}
use Rattle.format.specs.Bytes.{pasted}
use Rattle.format.specs.Message.{Message}
use Rattle.format.specs.Writing.{write}
use Rattle.octets.proofs.Paste.{pasted_start}
use Rattle.store_check.specs.Decoding.{message_in}
use Rattle.write_parts.proofs.HeldText.{numbered, headers_hold_lem}
use Rattle.write.proofs.HeldSlices.{contents_shaped, type_within, slices_are}
use Rattle.write.proofs.write_held.Goals as goal

pub overflow_add-from : goal.overflow_add-from
overflow_add-from c =
    omega (arith, (numbered c.args.m c.args.head.now c.requires.0).used)

pub overflow_add-to : goal.overflow_add-to
overflow_add-to c =
    omega (arith, (numbered c.args.m c.args.head.now c.requires.0).used)

pub slice_bounds-write_text-end : goal.slice_bounds-write_text-end
slice_bounds-write_text-end c =
    omega (arith, (numbered c.args.m c.args.head.now c.requires.0).used)

pub slice_bounds-write_text-end-2 : goal.slice_bounds-write_text-end-2
slice_bounds-write_text-end-2 c =
    sym (length-take-le c.args.m.typelen c.args.head.now (type_within c.args.m c.args.head.now c.requires.0))

pub slice_bounds-write_text-end-3 : goal.slice_bounds-write_text-end-3
slice_bounds-write_text-end-3 c =
    omega (arith, (numbered c.args.m c.args.head.now c.requires.0).used)

pub write_text-requires : goal.write_text-requires
write_text-requires c =
    let m = c.args.m in
    let head = c.args.head.now in
    let held = c.requires.0 in (
      (headers_hold_lem m head held, contents_shaped m head held, c.requires.1),
      omega (arith, c.requires.2, ap (λ (k : Message). length (write k)) (slices_are m head held c.args.body.now)),
    )

pub shape_of-out : goal.shape_of-out
shape_of-out c = c.write_text.auto.out

pub returns : goal.returns
returns c =
    let m = c.args.m in
    let head = c.args.head.now in
    let body = c.args.body.now in
    let out = c.args.out.now in
    c.write_text.ensures.1
    ∙ ap (λ (k : Message). pasted 0 (write k) out) (slices_are m head c.requires.0 body)
    ∙ pasted_start (write (message_in m head body)) out
