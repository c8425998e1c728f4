-- `message::builders::with_ns` meets its contract. Assumes nothing.
use mathlib.Core.Path.{refl}
use Prim.Native.Nat.{◌+◌}
use native.Mathlib.Omega.{arith}
use lib.ListN.{length, length-take}
use Rattle.format.specs.Bytes.{ascii, all}
use Rattle.format.specs.Characters.{is_utf8}
use Rattle.format.specs.Told.{meant}
use Rattle.format.specs.Calls.{with_ns, arguments, lends, header_held, change, header_added, ns_value}
use Rattle.format.specs.Lending.{head_lent}
use Rattle.validate.proofs.Chains.{within}
use Rattle.message_rules.proofs.CallExits.{two_texts, call_refused, call_held, call_done}
use Rattle.message.proofs.Wrapping.{ns_refused, ns_taken, added_same}
use Rattle.message.proofs.builders.with_ns.Goals as goal

pub returns-in_err-ready : goal.returns-in_err-ready
unfolding arguments all lends header_held
returns-in_err-ready c =
    let p = c.args.prefix.now in
    let u = c.args.uri.now in
    call_refused (with_ns p u) c.args.m c.args.head.now p u refl (two_texts (is_utf8 p) (is_utf8 u)) _ _ c.in_err-ready.ensures c.from_residual.ensures.1

pub returns-in_err-refuse_if : goal.returns-in_err-refuse_if
unfolding arguments all lends header_held change header_added meant
returns-in_err-refuse_if c =
    let m = c.args.m in
    let head = c.args.head.now in
    let p = c.args.prefix.now in
    let u = c.args.uri.now in
    call_done (with_ns p u) m head p u refl (two_texts (is_utf8 p) (is_utf8 u)) c.in_ok-ready.ensures _ _
    (λ k held. ns_refused m head p u _ _ _ _ c.in_err-refuse_if.ensures c.saturating_add.ensures c.from_residual-in_err-refuse_if.ensures.1)

pub put_ns-requires : goal.put_ns-requires
put_ns-requires c = omega (arith, within 1021 _ _ c.in_ok-refuse_if.ensures)

pub overflow_add-end : goal.overflow_add-end
overflow_add-end c = omega (arith, within 1021 _ _ c.in_ok-refuse_if.ensures)

pub slice_bounds-value-end : goal.slice_bounds-value-end
slice_bounds-value-end c = omega (arith, within 1021 _ _ c.in_ok-refuse_if.ensures)

pub slice_bounds-add_held-end-2 : goal.slice_bounds-add_held-end-2
slice_bounds-add_held-end-2 c =
    let few = within 1021 _ _ c.in_ok-refuse_if.ensures in
    simp length-take (omega arith)

pub add_held-requires : goal.add_held-requires
unfolding arguments all lends header_held
add_held-requires c =
    let p = c.args.prefix.now in
    let u = c.args.uri.now in
    call_held (with_ns p u) c.args.m c.args.head.now p u refl (two_texts (is_utf8 p) (is_utf8 u)) c.in_ok-ready.ensures

pub returns : goal.returns
unfolding arguments all lends header_held change
returns c =
    let m = c.args.m in
    let head = c.args.head.now in
    let p = c.args.prefix.now in
    let u = c.args.uri.now in
    let value = ns_taken p u _ _ (length p + length u + 3) c.put_ns.ensures refl in
    call_done (with_ns p u) m head p u refl (two_texts (is_utf8 p) (is_utf8 u)) c.in_ok-ready.ensures _ _
    (λ k held. added_same (head_lent m head) _ _ (ascii "NS") _ (ns_value p u) _ k value (c.add_held.ensures k held))
