use Rattle.counting.proofs.CountLines.{CountedLines}
use Rattle.counting.proofs.put_count_lines.Given as goal

abbrev pub invariant-loop-n : goal.invariant-loop-n
invariant-loop-n l = CountedLines l.counts l.initial.out l.out l.to l.n
