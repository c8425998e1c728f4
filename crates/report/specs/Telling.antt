-- What the program `wholecpim` prints for standard input: whether what the gateway would write for the notice comes back whole, and if not,
-- which entry is lost and why. It is added to document 01: reading is its `read` in stores of 65,536 bytes, as `showcpim` has it, and what is
-- lost is `loss` (crates/roundtrip/specs/Loss.antt). The words are specs/Words.antt's. Assumes nothing.
use Rattle.std.specs.Prelude.{ℕ, Bool, ◌||◌, [], ◌++◌, leb, eqb, length, if◌then◌else◌}
use Rattle.format.specs.Bytes.{Bytes, ascii, lf_text}
use Rattle.format.specs.Refusals.{Out, accepted, refused, table, too_short}
use Rattle.format.specs.Message.{Message, name_of, entry_name}
use Rattle.format.specs.Reading.{read}
use Rattle.format.specs.LookingUp.{nth, mapped}
use Rattle.roundtrip.specs.Loss.{loss}
use Rattle.roundtrip.specs.declared.Loss.{Loss}
use Rattle.report.specs.Words.{reason, refused_words, entry_words}

-- the clauses that speak of one header, and of one content header
unfoldable pub of_header : ℕ → Bool
of_header c = eqb c 2 || eqb c 5

unfoldable pub of_content : ℕ → Bool
of_content c = eqb c 4 || eqb c 6

-- the entry that a clause fails for; nothing where the clause speaks of none
unfoldable pub subject : Message → ℕ → ℕ → Bytes
subject m c n =
    if of_header c then entry_words (ascii "header ") n (mapped name_of (nth n m.headers)) else
    if of_content c then entry_words (ascii "content header ") n (mapped entry_name (nth n m.contents)) else []

unfoldable pub loss_words : Message → Loss → Bytes
loss_words m l =
    if eqb l.clause 0 then reason 0 else ascii "does not come back whole: " ++ (subject m l.clause l.entry ++ reason l.clause)

unfoldable pub tell : Out Message → Bytes
tell (accepted m) = loss_words m (loss m)
tell (refused r) = refused_words (table r)

-- one line; an input of more than 65,536 bytes is refused by 26, carrying 65537
unfoldable pub wholecpim : Bytes → Bytes
wholecpim input =
    (if leb (length input) 65536 then tell (read input (record { head = 65536; body = 65536 })) else tell (refused (too_short 65537))) ++ lf_text
