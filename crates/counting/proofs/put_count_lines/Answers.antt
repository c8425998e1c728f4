-- `counting::put_count_lines` meets its contract. The invariant, `CountedLines`: the table has the definition's counts, and the lines of the
-- lengths passed stand in the output. Assumes nothing.
use mathlib.Core.Path.{refl}
use native.Mathlib.Omega.{arith}
use Rattle.counting.proofs.Counts.{ten_rows}
use Rattle.counting.proofs.CountLines.{no_row, count_row, counted_none, counted_next, counted_all}
use Rattle.counting.proofs.put_count_lines.Goals as goal

pub loop-n-init : goal.loop-n-init
loop-n-init c =
    counted_none c.args.out.now refl
    (count_row ten_rows.row0 (count_row ten_rows.row1 (count_row ten_rows.row2 (count_row ten_rows.row3 (count_row ten_rows.row4 (count_row ten_rows.row5 (count_row ten_rows.row6 (count_row ten_rows.row7 (count_row ten_rows.row8 (count_row ten_rows.row9 no_row))))))))))

pub put_count_line-to-requires : goal.put_count_line-to-requires
put_count_line-to-requires c = omega (arith, c.loop-n.invariant.within, c.loop-n.invariant.lines.within)

pub loop-n-preserved : goal.loop-n-preserved
loop-n-preserved c = counted_next c.loop-n.invariant (omega arith) c.put_count_line-to.ensures

pub returns : goal.returns
returns c = counted_all c.loop-n.invariant (omega arith)
