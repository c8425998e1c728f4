-- `write::to_string` meets its contract. Each answer goes by the tests that led to it. Assumes nothing.
use mathlib.Core.Path.{◌≡◌, sym, ◌∙◌}
use mathlib.Core.Bool.{true}
use Prim.Native.Nat.{◌≤◌}
use native.Mathlib.Omega.{arith}
use lib.ListN.{length}
use lib.Seq.{length-take-le}
use Rattle.store_check.specs.Holding.{message_holds}
use Rattle.write_parts.proofs.HeldText.{numbered}
use Rattle.write.proofs.WriteExits.{wrote_unheld, wrote_short, wrote_full, wrote_text}
use Rattle.write.proofs.to_string.Goals as goal

pub returns-then-not-message_holds : goal.returns-then-not-message_holds
returns-then-not-message_holds c =
    let args = c.args in
    let all = wrote_unheld args.m args.head.now args.body.now args.out.now (sym c.message_holds.ensures ∙ c.if-not-message_holds.true) in
    record { wrote = all.0; length = all.1 }

pub returns-then-body-m : goal.returns-then-body-m
returns-then-body-m c =
    let args = c.args in
    let all = wrote_short args.m args.head.now args.body.now args.out.now (omega arith) in
    record { wrote = all.0; length = all.1 }

pub slice_bounds-held-end : goal.slice_bounds-held-end
slice_bounds-held-end c =
    let fits : c.args.m.bodylen ≤ length c.args.body.now = omega arith in
    sym (length-take-le c.args.m.bodylen c.args.body.now fits)

pub text_len-n-requires : goal.text_len-n-requires
text_len-n-requires c =
    let holds : message_holds c.args.m c.args.head.now ≡ true = sym c.message_holds.ensures ∙ c.if-not-message_holds.false in
    let fits : c.args.m.bodylen ≤ length c.args.body.now = omega arith in
    let args = c.args in
    let held = holds in
    (held, c.utf8_end-end.ensures, omega (arith, (numbered args.m args.head.now held).body, length-take-le args.m.bodylen args.body.now fits))

pub returns-then-out-n : goal.returns-then-out-n
returns-then-out-n c =
    let holds : message_holds c.args.m c.args.head.now ≡ true = sym c.message_holds.ensures ∙ c.if-not-message_holds.false in
    let fits : c.args.m.bodylen ≤ length c.args.body.now = omega arith in
    let args = c.args in
    let all = wrote_full args.m args.head.now args.body.now args.out.now holds fits c.text_len-n.result c.text_len-n.ensures (omega arith) in
    record { wrote = all.0; length = all.1 }

pub write_held-requires : goal.write_held-requires
write_held-requires c =
    let holds : message_holds c.args.m c.args.head.now ≡ true = sym c.message_holds.ensures ∙ c.if-not-message_holds.false in
    (holds, c.utf8_end-end.ensures, omega (arith, c.text_len-n.ensures))

pub shape_of-out : goal.shape_of-out
shape_of-out c = c.write_held.auto.out

pub returns : goal.returns
returns c =
    let holds : message_holds c.args.m c.args.head.now ≡ true = sym c.message_holds.ensures ∙ c.if-not-message_holds.false in
    let fits : c.args.m.bodylen ≤ length c.args.body.now = omega arith in
    let args = c.args in
    let all = wrote_text args.m args.head.now args.body.now args.out.now holds fits _ _ c.text_len-n.ensures (omega arith) c.write_held.ensures in
    record { wrote = all.0; length = all.1 }
