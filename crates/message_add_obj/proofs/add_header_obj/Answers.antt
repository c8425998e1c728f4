-- `message_add_obj::add_header_obj` meets its contract. Assumes nothing.
use Rattle.std.specs.Prelude.{Result}
use Rattle.std.specs.Result.{result_unwrap_or}
use mathlib.Core.Path.{ap, ◌∙◌}
use mathlib.Core.Bool.{Bool, not}
use Prim.Native.Nat.{◌+◌, ◌-◌}
use native.Mathlib.Omega.{arith}
use lib.ListN.{take, drop, length-take}
use Rattle.format.specs.Refusals.{not_utf8, refuse_if}
use Rattle.format.specs.Told.{told, meant}
use Rattle.format.specs.Validators.{header_name}
use Rattle.format.specs.Message.{named}
use Rattle.format.specs.Lending.{head_lent}
use Rattle.format.specs.declared.CpimMessage.{CpimMessage}
use Rattle.format.specs.declared.refusal.Refusal.{Refusal}
use Rattle.validate.proofs.Chains.{passed, handed_on}
use Rattle.header.proofs.HeaderBounds.{bounds}
use Rattle.message_rules.proofs.MessageChecks.{turned_away, passed_on, name_short, plain_fits, plain_spelt}
use Rattle.message_add_obj.proofs.LoneSizes.{short, spelt}
use Rattle.message_add_obj.proofs.Adding.{both_are, both_held, not_held, no_text, done}
use Rattle.message_add_obj.proofs.add_header_obj.Goals as goal

pub returns-in_err-refuse_if : goal.returns-in_err-refuse_if
unfolding meant
returns-in_err-refuse_if c =
    let args = c.args in
    let same = handed_on c.from_residual.result c.from_residual.ensures.1 in
    not_held args.name.now args.h args.store.now args.m args.head.now _ _ _
    (c.in_err-refuse_if.ensures ∙ both_are _ _ _ _ c.message_holds.ensures c.header_holds.ensures)
    (ap told same) (ap (λ (x : Result CpimMessage Refusal). head_lent (result_unwrap_or x args.m) args.head.now) same)

pub returns-in_err-refuse_if-2 : goal.returns-in_err-refuse_if-2
unfolding meant
returns-in_err-refuse_if-2 c =
    let args = c.args in
    let same = handed_on c.from_residual-in_err-refuse_if-2.result c.from_residual-in_err-refuse_if-2.ensures.1 in
    no_text args.name.now args.h args.store.now args.m args.head.now _ _
    (c.in_ok-refuse_if.ensures ∙ both_are _ _ _ _ c.message_holds.ensures c.header_holds.ensures) _
    (c.in_err-refuse_if-2.ensures ∙ ap (λ (t : Bool). refuse_if (not t) not_utf8) c.is_utf8.ensures)
    (ap told same) (ap (λ (x : Result CpimMessage Refusal). head_lent (result_unwrap_or x args.m) args.head.now) same)

pub returns-in_err-validate_header_name : goal.returns-in_err-validate_header_name
unfolding meant
returns-in_err-validate_header_name c =
    let args = c.args in
    done args.name.now args.h args.store.now args.m args.head.now _ _
    (c.in_ok-refuse_if.ensures ∙ both_are _ _ _ _ c.message_holds.ensures c.header_holds.ensures)
    (c.in_ok-refuse_if-2.ensures ∙ ap (λ (t : Bool). refuse_if (not t) not_utf8) c.is_utf8.ensures)
    (λ x k held w. turned_away (λ r. head_lent r args.head.now) args.m _ (header_name args.name.now) _ _ c.in_err-validate_header_name.ensures
    c.from_residual-in_err-validate_header_name.ensures.1)

pub overflow_add-from : goal.overflow_add-from
unfolding meant
overflow_add-from c =
    let there = both_held _ _ (c.in_ok-refuse_if.ensures ∙ both_are _ _ _ _ c.message_holds.ensures c.header_holds.ensures) in
    omega (arith, (short c.args.h c.args.store.now there.1).value)

pub slice_bounds-value-end : goal.slice_bounds-value-end
unfolding meant
slice_bounds-value-end c =
    let there = both_held _ _ (c.in_ok-refuse_if.ensures ∙ both_are _ _ _ _ c.message_holds.ensures c.header_holds.ensures) in
    let within = bounds c.args.h c.args.store.now there.1 in
    omega (arith, within.value, within.used)

pub slice_bounds-tail-count : goal.slice_bounds-tail-count
unfolding meant
slice_bounds-tail-count c =
    let there = both_held _ _ (c.in_ok-refuse_if.ensures ∙ both_are _ _ _ _ c.message_holds.ensures c.header_holds.ensures) in
    omega (arith, (bounds c.args.h c.args.store.now there.1).value)

pub slice_bounds-tail-start : goal.slice_bounds-tail-start
unfolding meant
slice_bounds-tail-start c =
    let there = both_held _ _ (c.in_ok-refuse_if.ensures ∙ both_are _ _ _ _ c.message_holds.ensures c.header_holds.ensures) in
    omega (arith, (bounds c.args.h c.args.store.now there.1).value)

pub slice_bounds-tail-end : goal.slice_bounds-tail-end
unfolding meant
slice_bounds-tail-end c =
    let there = both_held _ _ (c.in_ok-refuse_if.ensures ∙ both_are _ _ _ _ c.message_holds.ensures c.header_holds.ensures) in
    omega (arith, (bounds c.args.h c.args.store.now there.1).used)

pub append_held-requires-clause-held : goal.append_held-requires-clause-held
unfolding meant
append_held-requires-clause-held c =
    (both_held _ _ (c.in_ok-refuse_if.ensures ∙ both_are _ _ _ _ c.message_holds.ensures c.header_holds.ensures)).0

pub append_held-requires-clause-fits : goal.append_held-requires-clause-fits
unfolding meant
append_held-requires-clause-fits c =
    let h = c.args.h in
    let name = c.args.name.now in
    let store = c.args.store.now in
    let there = both_held _ _ (c.in_ok-refuse_if.ensures ∙ both_are _ _ _ _ c.message_holds.ensures c.header_holds.ensures) in
    let small = short h store there.1 in
    let within = bounds h store there.1 in
    let n = name_short name (passed (header_name name) c.in_ok-validate_header_name.ensures) in
    let fits = plain_fits name (take (16 + h.valuelen - 16) (drop 16 store)) _ c.plain.ensures (omega arith)
    (omega (arith, small.value, length-take (16 + h.valuelen - 16) (drop 16 store))) in
    record {
      value = fits.value;
      bytes = (
        fits.bytes.0,
        fits.bytes.1,
        omega (arith, small.params),
        omega (arith, small.tail, length-take (h.size - (16 + h.valuelen)) (drop (16 + h.valuelen) store)),
      );
    }

pub returns : goal.returns
unfolding meant
returns c =
    let args = c.args in
    let h = args.h in
    let name = args.name.now in
    let store = args.store.now in
    done name h store args.m args.head.now _ _
    (c.in_ok-refuse_if.ensures ∙ both_are _ _ _ _ c.message_holds.ensures c.header_holds.ensures)
    (c.in_ok-refuse_if-2.ensures ∙ ap (λ (t : Bool). refuse_if (not t) not_utf8) c.is_utf8.ensures)
    (λ x k held w. passed_on (header_name name) _ c.in_ok-validate_header_name.ensures
    (let s = spelt name h store x held in
    let e = plain_spelt name (take (16 + h.valuelen - 16) (drop 16 store)) _ c.plain.ensures in
    c.append_held.ensures k (named name x) w
    (record { name_is = s.name_is ∙ e.name_is; value_is = s.value_is ∙ e.value_is; params_are = s.params_are; tail_is = s.tail_is })))
