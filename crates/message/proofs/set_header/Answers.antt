-- `message::set_header` meets its contract. Assumes nothing.
use mathlib.Core.Path.{refl}
use Rattle.format.specs.Bytes.{all}
use Rattle.format.specs.Characters.{is_utf8}
use Rattle.format.specs.Calls.{set_header, arguments, lends, header_held, change}
use Rattle.message_rules.proofs.CallExits.{two_texts, call_refused, call_held, call_done}
use Rattle.message.proofs.set_header.Goals as goal

pub returns-in_err-ready : goal.returns-in_err-ready
unfolding arguments all lends header_held
returns-in_err-ready c =
    let name = c.args.name.now in
    let value = c.args.value.now in
    call_refused (set_header name value) c.args.m c.args.head.now name value refl (two_texts (is_utf8 name) (is_utf8 value)) _ _ c.in_err-ready.ensures
    c.from_residual.ensures.1

pub set_held-requires : goal.set_held-requires
unfolding arguments all lends header_held
set_held-requires c =
    let name = c.args.name.now in
    let value = c.args.value.now in
    call_held (set_header name value) c.args.m c.args.head.now name value refl (two_texts (is_utf8 name) (is_utf8 value)) c.in_ok-ready.ensures

pub returns : goal.returns
unfolding arguments all lends header_held change
returns c =
    let name = c.args.name.now in
    let value = c.args.value.now in
    call_done (set_header name value) c.args.m c.args.head.now name value refl (two_texts (is_utf8 name) (is_utf8 value)) c.in_ok-ready.ensures _ _
    c.set_held.ensures
