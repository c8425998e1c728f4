-- `read_header_line::scan_front` meets its contract. Assumes nothing.
use mathlib.Core.Path.{sym, ◌∙◌}
use Rattle.read_header_line.proofs.Front.{name_refused, space_refused, params_read}
use Rattle.read_header_line.proofs.scan_front.Goals as goal

pub returns-in_err-validate_header_name : goal.returns-in_err-validate_header_name
returns-in_err-validate_header_name c =
    λ left is_name is_front. name_refused c.args.manner left c.args.right.now is_name is_front _ c.in_err-validate_header_name.ensures _ c.from_residual.ensures.1

pub misplaced_by-requires : goal.misplaced_by-requires
misplaced_by-requires c = c.requires.space

pub returns-then-misplaced_by : goal.returns-then-misplaced_by
returns-then-misplaced_by c =
    λ left is_name is_front. space_refused c.args.manner left c.args.right.now is_name is_front _ c.in_ok-validate_header_name.ensures (sym c.misplaced_by.ensures ∙ c.if-misplaced_by.true)

pub read_params-requires : goal.read_params-requires
read_params-requires c = record { stops = c.requires.stops; enough = c.requires.enough; text = c.requires.text }

pub returns : goal.returns
returns c =
    λ left is_name is_front. params_read c.args.manner left c.args.right.now is_name is_front _ c.in_ok-validate_header_name.ensures (sym c.misplaced_by.ensures ∙ c.if-misplaced_by.false) c.read_params.ensures
