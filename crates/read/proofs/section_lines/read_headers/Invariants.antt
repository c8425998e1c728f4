use mathlib.Core.Path.{◌≡◌}
use Prim.Native.Nat.{◌-◌}
use lib.ListN.{length}
use Rattle.format.specs.Reading.{read_header_line}
use Rattle.format.specs.ReadingRfc.{line_reader}
use Rattle.format.specs.Lending.{head_lent, lengths}
use Rattle.sections.specs.Cuts.{line_end_for}
use Rattle.read.proofs.LinesLoop.{SoFar}
use Rattle.read.proofs.section_lines.read_headers.Given as goal

abbrev pub invariant-loop-so_far : goal.invariant-loop-so_far
invariant-loop-so_far l =
    (SoFar (read_header_line (line_reader l.manner) (lengths (head_lent l.initial.so_far l.initial.head))) (line_end_for l.crlf) l.section l.initial.so_far l.initial.head l.at l.so_far l.head) × (length l.params ≡ length l.initial.params)

abbrev pub decreases-loop-so_far : goal.decreases-loop-so_far
decreases-loop-so_far l = length l.section - l.at
