use Rattle.format.specs.Bytes.{texts}
use Rattle.format.specs.Writing.{param_text}
use Rattle.store_entry_check.specs.FromBytes.{entry_from, entries_from}
use Rattle.write_parts.proofs.Lined.{Lined}
use Rattle.write_parts.proofs.lines.put_param_texts.Given as goal

abbrev pub invariant-loop : goal.invariant-loop
invariant-loop l = Lined entry_from param_text (texts param_text (entries_from l.count l.s)) l.s l.initial.out l.out l.count l.at l.to l.from l.counter
