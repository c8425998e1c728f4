use Rattle.format.specs.Bytes.{texts}
use Rattle.format.specs.Writing.{content_line, ended}
use Rattle.store_entry_check.specs.FromBytes.{entry_from, entries_from}
use Rattle.write_parts.proofs.Lined.{Lined}
use Rattle.write_parts.proofs.lines.put_content_lines.Given as goal

abbrev pub invariant-loop : goal.invariant-loop
invariant-loop l = Lined entry_from (λ e. ended (content_line e)) (texts (λ e. ended (content_line e)) (entries_from l.count l.s)) l.s l.initial.out l.out l.count l.at l.to l.from l.counter
