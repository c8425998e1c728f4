-- `report::put_held_lines` meets its contract: the numbers of what is held are those of the message. Assumes nothing.
use native.Mathlib.Omega.{arith}
use Rattle.output.proofs.Puts.{puts_as}
use Rattle.report.proofs.ShownCases.{kind_short, held_lines}
use Rattle.report.proofs.put_held_lines.Goals as goal

pub put_message-requires : goal.put_message-requires
put_message-requires c =
    (c.requires.0, rw c.unwrap_or-kind.ensures (kind_short c.args.m c.args.head.now c.content_type.result c.content_type.ensures _ c.requires.1))

pub returns : goal.returns
returns c =
    let args = c.args in
    λ k held.
    puts_as _ 1655
    (rw c.unwrap_or-kind.ensures (held_lines args.m args.head.now c.content_type.result c.content_type.ensures _ c.count_params-params.result c.count_params-params.ensures k held)) (omega arith) c.put_message.ensures
