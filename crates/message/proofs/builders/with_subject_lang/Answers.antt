-- `message::builders::with_subject_lang` meets its contract. Assumes nothing.
use mathlib.Core.Path.{refl, sym}
use mathlib.Core.List.{[], ◌∷◌}
use Prim.Native.Nat.{◌+◌}
use native.Mathlib.Omega.{arith}
use lib.ListN.{length, length-take}
use Rattle.format.specs.Bytes.{ascii, all}
use Rattle.format.specs.Characters.{is_utf8}
use Rattle.format.specs.Validators.{header_value, param_value}
use Rattle.format.specs.Message.{entry}
use Rattle.format.specs.Calls.{with_subject_lang, arguments, lends, header_held}
use Rattle.format.specs.Lending.{head_lent}
use Rattle.validate.proofs.Chains.{passed}
use Rattle.store_splice.proofs.Plain.{plain_size, plain_bytes}
use Rattle.message_rules.proofs.MessageChecks.{turned_away, passed_on, value_short, plain_fits, plain_spelt}
use Rattle.message_rules.proofs.CallExits.{two_texts, call_refused, call_held, call_done}
use Rattle.message.proofs.Subjects.{subject_value, param_short}
use Rattle.message.proofs.Wrapping.{lang_taken}
use Rattle.message.proofs.builders.with_subject_lang.Goals as goal

pub returns-in_err-ready : goal.returns-in_err-ready
unfolding arguments all lends header_held
returns-in_err-ready c =
    let v = c.args.subject.now in
    let l = c.args.lang.now in
    call_refused (with_subject_lang v l) c.args.m c.args.head.now v l refl (two_texts (is_utf8 v) (is_utf8 l)) _ _ c.in_err-ready.ensures c.from_residual.ensures.1

pub returns-in_err-validate_cpim_header_value : goal.returns-in_err-validate_cpim_header_value
unfolding arguments all lends header_held
returns-in_err-validate_cpim_header_value c =
    let m = c.args.m in
    let head = c.args.head.now in
    let v = c.args.subject.now in
    let l = c.args.lang.now in
    call_done (with_subject_lang v l) m head v l refl (two_texts (is_utf8 v) (is_utf8 l)) c.in_ok-ready.ensures _ _
    (λ k held. subject_value m head v l k _ _
    (turned_away (λ r. head_lent r head) m _ (header_value v) _ _ c.in_err-validate_cpim_header_value.ensures c.from_residual-in_err-validate_cpim_header_value.ensures.1))

pub returns-in_err-validate_param_value : goal.returns-in_err-validate_param_value
unfolding arguments all lends header_held
returns-in_err-validate_param_value c =
    let m = c.args.m in
    let head = c.args.head.now in
    let v = c.args.subject.now in
    let l = c.args.lang.now in
    call_done (with_subject_lang v l) m head v l refl (two_texts (is_utf8 v) (is_utf8 l)) c.in_ok-ready.ensures _ _
    (λ k held. subject_value m head v l k _ _
    (passed_on (header_value v) _ c.in_ok-validate_cpim_header_value.ensures
    (turned_away (λ r. head_lent r head) m _ (param_value l) _ _ c.in_err-validate_param_value.ensures c.from_residual-in_err-validate_param_value.ensures.1)))

pub put_entry-requires-clause-fits : goal.put_entry-requires-clause-fits
put_entry-requires-clause-fits c =
    let l = c.args.lang.now in
    let short = param_short l (passed (param_value l) c.in_ok-validate_param_value.ensures) in
    plain_fits (ascii "lang") l _ c.plain-param.ensures (omega arith) (omega arith)

pub put_entry-requires-clause-room : goal.put_entry-requires-clause-room
put_entry-requires-clause-room c =
    let l = c.args.lang.now in
    let short = param_short l (passed (param_value l) c.in_ok-validate_param_value.ensures) in
    omega (arith, plain_size (ascii "lang") l _ c.plain-param.ensures)

pub slice_bounds-tail-end : goal.slice_bounds-tail-end
slice_bounds-tail-end c =
    let l = c.args.lang.now in
    omega (arith, param_short l (passed (param_value l) c.in_ok-validate_param_value.ensures))

pub slice_bounds-new-end : goal.slice_bounds-new-end
slice_bounds-new-end c =
    let l = c.args.lang.now in
    let short = param_short l (passed (param_value l) c.in_ok-validate_param_value.ensures) in
    simp length-take (omega arith)

pub append_held-requires-clause-held : goal.append_held-requires-clause-held
unfolding arguments all lends header_held
append_held-requires-clause-held c =
    let v = c.args.subject.now in
    let l = c.args.lang.now in
    call_held (with_subject_lang v l) c.args.m c.args.head.now v l refl (two_texts (is_utf8 v) (is_utf8 l)) c.in_ok-ready.ensures

pub append_held-requires-clause-fits : goal.append_held-requires-clause-fits
append_held-requires-clause-fits c =
    let v = c.args.subject.now in
    let l = c.args.lang.now in
    let value = value_short v (passed (header_value v) c.in_ok-validate_cpim_header_value.ensures) in
    let param = param_short l (passed (param_value l) c.in_ok-validate_param_value.ensures) in
    let fits = plain_fits (ascii "Subject") v _ c.plain.ensures (omega arith) (omega arith) in
    record { value = fits.value; bytes = (fits.bytes.0, fits.bytes.1, omega arith, simp length-take (omega arith)) }

pub returns : goal.returns
unfolding arguments all lends header_held
returns c =
    let m = c.args.m in
    let head = c.args.head.now in
    let v = c.args.subject.now in
    let l = c.args.lang.now in
    let tail = lang_taken l _ _ (20 + length l) (rw (plain_bytes (ascii "lang") l _ c.plain-param.ensures) at c.put_entry.ensures) refl in
    let spelt = plain_spelt (ascii "Subject") v _ c.plain.ensures in
    call_done (with_subject_lang v l) m head v l refl (two_texts (is_utf8 v) (is_utf8 l)) c.in_ok-ready.ensures _ _
    (λ k held. subject_value m head v l k _ _
    (passed_on (header_value v) _ c.in_ok-validate_cpim_header_value.ensures
    (passed_on (param_value l) _ c.in_ok-validate_param_value.ensures
    (c.append_held.ensures k (record { name = ascii "Subject"; value = v; params = entry (ascii "lang") l ∷ [] }) held
    (record { name_is = spelt.name_is; value_is = spelt.value_is; params_are = refl; tail_is = sym tail })))))
