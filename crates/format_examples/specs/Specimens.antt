-- Document 01, "Specimens P1 to P11", P9 as document 02, T-03, has it: one table, proved as a whole in proofs/Specimens.antt. Assumes nothing.
use Rattle.std.specs.Prelude.{◌≡◌, List, [], ◌∷◌, map, replicate}
use Rattle.std.proofs.Math.Option.{Option, none, some}
use Rattle.format.specs.Bytes.{Bytes, ascii}
use Rattle.format.specs.Escaping.{escape, unescape}
use Rattle.format.specs.Refusals.{Out, accepted, refused, ◌carrying◌, numbers, pass}
use Rattle.format.specs.Validators.{header_name}
use Rattle.format.specs.Message.{Entry, entry, Message}
use Rattle.format.specs.Calls.{Stores, fresh, content_header_added}
use Rattle.format.specs.Writing.{write}
use Rattle.format.specs.Reading.{read, read_value}

-- stores with room for every specimen
abbrev pub roomy : Stores
roomy = record { head = 65536; body = 65536 }

-- a message of one header and the body `Hi`
abbrev pub single : Bytes → Bytes → List Entry → Message
single n v ps =
    record {
      headers = record { name = n; value = v; params = ps } ∷ [];
      type = ascii "text/plain";
      contents = [];
      body = ascii "Hi";
    }

abbrev pub back : Message → Out Message
back m = read (write m) roomy

-- a text of LFLF sections, its body of two
abbrev pub two_sections : Bytes
two_sections = ascii "message/cpim\n\nTo: x\n\nContent-type: text/plain\n\na\n\nb"

abbrev pub body_read : Out Message → Option Bytes
body_read (accepted m) = some m.body
body_read (refused r) = none

-- 20 content headers, called a to t
abbrev pub twenty : List Entry
twenty = map (λ c. entry (c ∷ []) (ascii "x")) (ascii "abcdefghijklmnopqrst")

abbrev pub with_twenty : Message
with_twenty = record { headers = []; type = ascii "text/plain"; contents = twenty; body = [] }

pub record Specimens : Type 0 where
  pub p1 : escape (ascii "A\\B") ≡ ascii "A\\\\B"
  pub p2 : unescape (ascii "\\u0041") ≡ some (ascii "A")
  pub p3 : unescape (ascii "\\u+041") ≡ some (ascii "A")
  pub p4 : numbers (read_value (ascii "\\ud800")) ≡ 5 carrying 0
  pub p5 : (header_name (replicate 128 97) ≡ pass) × (numbers (header_name (replicate 129 97)) ≡ 7 carrying 129)
  pub p6 : numbers (back (fresh (ascii "text/plain") (ascii "Hi"))) ≡ 2 carrying 0
  pub p7 : back (single (ascii "Subject") (ascii "Hi") (entry (ascii "lang") (ascii "en") ∷ []))
      ≡ accepted (single (ascii "Subject") (ascii ";lang=en Hi") [])
  pub p8 : back (single (ascii "To") (0x09 ∷ []) []) ≡ accepted (single (ascii "To") (0x09 ∷ []) [])
  pub p9 : back (single (ascii "To") (0x20 ∷ []) []) ≡ accepted (single (ascii "To") (0x20 ∷ []) [])
  pub p10 : body_read (read two_sections roomy) ≡ some (ascii "a\r\n\r\nb")
  pub p11 : numbers (content_header_added (ascii "a") (ascii "y") roomy with_twenty) ≡ 22 carrying 21
