-- `calls_script::argument_end` meets its contract. Assumes nothing.
use native.Mathlib.Omega.{arith}
use Rattle.calls_script.proofs.ArgumentPlaces.{short_end, cut_end, whole_end_lem}
use Rattle.calls_script.proofs.argument_end.Goals as goal

pub returns-then-s-at-lt4 : goal.returns-then-s-at-lt4
returns-then-s-at-lt4 c =
    let s = c.args.s.now in
    let at = c.args.at in
    short_end s at (omega arith)

pub returns-then-s-from : goal.returns-then-s-from
returns-then-s-from c =
    let s = c.args.s.now in
    let at = c.args.at in
    cut_end s at c.number_at-n.result c.number_at-n.ensures.0 (omega arith) (omega arith)

pub returns : goal.returns
returns c =
    let s = c.args.s.now in
    let at = c.args.at in
    whole_end_lem s at c.number_at-n.result c.number_at-n.ensures.0 (omega arith) (omega arith)
