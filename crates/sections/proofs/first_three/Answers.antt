-- `sections::first_three` meets its contract. Each cut that found a separator gives the text's next section and the text behind it; reading
-- makes of the places what it makes of the pieces (`parts_are`). Assumes nothing.
use mathlib.Core.Path.{◌∙◌}
use native.Mathlib.Omega.{arith}
use Rattle.sections.specs.Cuts.{separator_for}
use Rattle.sections.proofs.Sections.{separator_long, parts_are, none_one, none_two, none_three, first_within, second_within, third_within, all_three}
use Rattle.sections.proofs.first_three.Goals as goal

pub returns-in_err-start2 : goal.returns-in_err-start2
returns-in_err-start2 c =
    let places = c.from_residual.ensures ∙ none_one c.args.crlf c.args.text.now c.cut_section-one.result c.cut_section-one.ensures c.in_err-start2.was in
    record { places = places; parts = parts_are (separator_for c.args.crlf) c.args.text.now (separator_long c.args.crlf) _ places }

pub returns-in_err-start3 : goal.returns-in_err-start3
returns-in_err-start3 c =
    let places = c.from_residual-in_err-start3.ensures ∙ none_two c.args.crlf c.args.text.now c.cut_section-one.result c.cut_section-one.ensures _ c.in_ok-start2.was _ c.cut_section-two.ensures c.in_err-start3.was in
    record { places = places; parts = parts_are (separator_for c.args.crlf) c.args.text.now (separator_long c.args.crlf) _ places }

pub returns-in_err-rest : goal.returns-in_err-rest
returns-in_err-rest c =
    let places = c.from_residual-in_err-rest.ensures ∙ none_three c.args.crlf c.args.text.now c.cut_section-one.result c.cut_section-one.ensures _ c.in_ok-start2.was _ c.cut_section-two.ensures _ c.in_ok-start3.was _ c.cut_section-three.ensures c.in_err-rest.was in
    record { places = places; parts = parts_are (separator_for c.args.crlf) c.args.text.now (separator_long c.args.crlf) _ places }

pub returns : goal.returns
returns c =
    let places = all_three c.args.crlf c.args.text.now c.cut_section-one.result c.cut_section-one.ensures _ c.in_ok-start2.was _ c.cut_section-two.ensures _ c.in_ok-start3.was _ c.cut_section-three.ensures _ c.in_ok-rest.was in
    record { places = places; parts = parts_are (separator_for c.args.crlf) c.args.text.now (separator_long c.args.crlf) _ places }

pub slice_bounds-cut_section-count : goal.slice_bounds-cut_section-count
slice_bounds-cut_section-count c =
    omega (arith, first_within c.args.crlf c.args.text.now c.cut_section-one.result c.cut_section-one.ensures _ c.in_ok-start2.was)

pub slice_bounds-cut_section-start : goal.slice_bounds-cut_section-start
slice_bounds-cut_section-start c =
    omega (arith, first_within c.args.crlf c.args.text.now c.cut_section-one.result c.cut_section-one.ensures _ c.in_ok-start2.was)

pub slice_bounds-cut_section-count-2 : goal.slice_bounds-cut_section-count-2
slice_bounds-cut_section-count-2 c =
    omega (arith, second_within c.args.crlf c.args.text.now c.cut_section-one.result c.cut_section-one.ensures _ c.in_ok-start2.was _ c.cut_section-two.ensures _ c.in_ok-start3.was)

pub slice_bounds-cut_section-start-2 : goal.slice_bounds-cut_section-start-2
slice_bounds-cut_section-start-2 c =
    omega (arith, second_within c.args.crlf c.args.text.now c.cut_section-one.result c.cut_section-one.ensures _ c.in_ok-start2.was _ c.cut_section-two.ensures _ c.in_ok-start3.was)

pub overflow_add-start3 : goal.overflow_add-start3
overflow_add-start3 c =
    record { fits = omega (arith, second_within c.args.crlf c.args.text.now c.cut_section-one.result c.cut_section-one.ensures _ c.in_ok-start2.was _ c.cut_section-two.ensures _ c.in_ok-start3.was) }

pub overflow_add-rest : goal.overflow_add-rest
overflow_add-rest c =
    record { fits = omega (arith, third_within c.args.crlf c.args.text.now c.cut_section-one.result c.cut_section-one.ensures _ c.in_ok-start2.was _ c.cut_section-two.ensures _ c.in_ok-start3.was _ c.cut_section-three.ensures _ c.in_ok-rest.was) }

pub overflow_add-result : goal.overflow_add-result
overflow_add-result c =
    record { fits = omega (arith, second_within c.args.crlf c.args.text.now c.cut_section-one.result c.cut_section-one.ensures _ c.in_ok-start2.was _ c.cut_section-two.ensures _ c.in_ok-start3.was) }

pub overflow_add-result-2 : goal.overflow_add-result-2
overflow_add-result-2 c =
    record { fits = omega (arith, third_within c.args.crlf c.args.text.now c.cut_section-one.result c.cut_section-one.ensures _ c.in_ok-start2.was _ c.cut_section-two.ensures _ c.in_ok-start3.was _ c.cut_section-three.ensures _ c.in_ok-rest.was, second_within c.args.crlf c.args.text.now c.cut_section-one.result c.cut_section-one.ensures _ c.in_ok-start2.was _ c.cut_section-two.ensures _ c.in_ok-start3.was) }
