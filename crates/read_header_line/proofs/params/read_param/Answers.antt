-- `read_header_line::params::read_param` meets its contract. Assumes nothing.
use mathlib.Core.Path.{sym, ap, ◌∙◌}
use Rattle.store_check.proofs.HeaderHeld.{holds_alone_held}
use Rattle.read_header_line.specs.Gathered.{bare}
use Rattle.read_header_line.specs.HeaderLine.{taken_by}
use Rattle.read_header_line.proofs.Setting.{part_set, part_skipped, part_refused}
use Rattle.read_header_line.proofs.Yielding.{refusal}
use Rattle.read_header_line.proofs.params.read_param.Goals as goal

pub returns-in_err-lacking : goal.returns-in_err-lacking
returns-in_err-lacking c =
    λ ps s. refusal c.from_residual.result _ c.from_residual.ensures.1
    (part_refused c.args.part.now ps (sym c.has.ensures ∙ c.if-not-has.true) c.args.manner _ c.in_err-lacking.ensures)

pub returns-then-not-has : goal.returns-then-not-has
returns-then-not-has c =
    λ ps s. part_skipped c.args.part.now ps (sym c.has.ensures ∙ c.if-not-has.true) c.args.manner _ c.args.h c.args.room.now c.in_ok-lacking.ensures s

pub set_param_held-requires : goal.set_param_held-requires
set_param_held-requires c =
    holds_alone_held c.args.h c.args.room.now (bare c.requires.standing.0) c.requires.standing.1

pub returns : goal.returns
returns c =
    let args = c.args in
    λ ps s. part_set args.h _ args.room.now _ c.requires.enough args.manner args.part.now _ _ ps c.requires.text
    (sym c.has.ensures ∙ c.if-not-has.false)
    (c.taken.ensures ∙ ap (taken_by args.manner) c.up_to.ensures.before)
    (c.taken-2.ensures ∙ ap (taken_by args.manner) c.past.ensures.behind) s
    (c.set_param_held.ensures (bare ps) s)
