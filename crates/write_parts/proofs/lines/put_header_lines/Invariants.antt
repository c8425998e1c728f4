use Rattle.format.specs.Bytes.{texts}
use Rattle.format.specs.Writing.{header_line, ended}
use Rattle.store_entry_check.specs.FromBytes.{header_from, headers_from}
use Rattle.write_parts.proofs.Headed.{Headed}
use Rattle.write_parts.proofs.Lined.{Lined}
use Rattle.write_parts.proofs.lines.put_header_lines.Given as goal

abbrev pub invariant-loop : goal.invariant-loop
invariant-loop l = Headed l.s l.count l.from l.counter × Lined header_from (λ h. ended (header_line h)) (texts (λ h. ended (header_line h)) (headers_from l.count l.s)) l.s l.initial.out l.out l.count l.at l.to l.from l.counter
