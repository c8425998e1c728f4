use mathlib.Core.Path.{◌≡◌}
use Prim.Native.Nat.{◌+◌, ◌*◌, ◌≤◌}
use lib.ListN.{length}
use mathlib.Core.List.{List, map}
use Rattle.format.specs.Bytes.{Bytes, texts}
use Rattle.store_entries.specs.Stored.{Stored}
use Rattle.format.specs.Writing.{header_line, ended}
use Rattle.store_entry_check.specs.FromBytes.{header_from, headers_from}
use Rattle.write_parts.proofs.StoreWalk.{left}
use Rattle.write_parts.proofs.Headed.{Headed}
use Rattle.write_parts.proofs.measure.headers_len.Given as goal

-- the lines of headers as they are stored
abbrev pub lines : List Stored → Bytes
lines es = texts (λ h. ended (header_line h)) (map header_from es)

abbrev pub invariant-loop : goal.invariant-loop
invariant-loop l =
    Headed l.s l.count l.at l.counter × (length (texts (λ h. ended (header_line h)) (headers_from l.count l.s)) ≡ l.n + length (lines (left l.s l.count l.at l.counter))) × (l.n ≤ 131072 * l.counter)
