-- Document 02, T-01, "Parameters where the RFC puts them": header lines by both readings, side by side, by examples; proved in
-- proofs/SecondLines.antt. Assumes nothing.
use Rattle.std.specs.Prelude.{◌≡◌, true, false, List, [], ◌∷◌, ◌++◌}
use Rattle.format.specs.Bytes.{Bytes, ascii, texts}
use Rattle.format.specs.Refusals.{lacks_colon, bad_escape, name_empty, name_reserved, value_too_long, param_name_empty, param_name_too_long, param_name_reserved, param_value_too_long, param_value_reserved, too_many_headers, too_many_params, no_room, param_lacks_equals, lacks_space, Out, accepted, refused}
use Rattle.format.specs.Message.{Entry, entry, Header, Message}
use Rattle.format.specs.Writing.{write}
use Rattle.format.specs.Reading.{read_header}
use Rattle.format.specs.ReadingRfc.{read_header_rfc, read_rfc}
use Rattle.format.specs.Demand3.{comes_back}
use Rattle.format.specs.SecondReading.{comes_back_rfc}
use Rattle.format_examples.specs.Specimens.{roomy, single, back}
use Rattle.format_examples.specs.Refusing.{notice, letters}

-- a line, and what the first and the second reading answer
abbrev pub Reads : Bytes → Out Header → Out Header → Type 0
Reads l first second = (read_header l ≡ first) × (read_header_rfc l ≡ second)

-- a header called Subject
abbrev pub subject : Bytes → List Entry → Out Header
subject v ps = accepted (record { name = ascii "Subject"; value = v; params = ps })

abbrev pub param : Bytes → Bytes → List Entry
param n v = entry n v ∷ []

-- a parameter without a value for each letter, between the colon and the space
abbrev pub many : Bytes → Bytes
many names = texts (λ c. ascii ";" ++ (c ∷ ascii "=")) names

abbrev pub none_set : Bytes → List Entry
none_set [] = []
none_set (c ∷ s) = entry (c ∷ []) [] ∷ none_set s

-- what is read of the text that is written
abbrev pub back_rfc : Message → Out Message
back_rfc m = read_rfc (write m) roomy

-- P7
abbrev pub p7 : Message
p7 = single (ascii "Subject") (ascii "Hi") (param (ascii "lang") (ascii "en"))

abbrev pub spaced : Message
spaced = single (ascii "Subject") (ascii "Hi") (param (ascii "a") (ascii "b c"))

-- U+00A0
abbrev pub no_break : Bytes
no_break = 0xC2 ∷ 0xA0 ∷ []

-- Parameters stand behind the colon, up to the first space; the value behind it.
pub record Placed : Type 0 where
  pub one : Reads (ascii "Subject:;lang=en Hi") (subject (ascii ";lang=en Hi") []) (subject (ascii "Hi") (param (ascii "lang") (ascii "en")))
  pub none : Reads (ascii "Subject: Hi") (subject (ascii "Hi") []) (subject (ascii "Hi") [])
  pub empty : Reads (ascii "Subject:;a= Hi") (subject (ascii ";a= Hi") []) (subject (ascii "Hi") (param (ascii "a") []))
  -- the first `=` parts name and value, and the first colon the line
  pub twice : Reads (ascii "Subject:;a==b Hi") (subject (ascii ";a==b Hi") []) (subject (ascii "Hi") (param (ascii "a") (ascii "=b")))
  pub colons : Reads (ascii "Subject:;a=b:c Hi") (subject (ascii ";a=b:c Hi") []) (subject (ascii "Hi") (param (ascii "a") (ascii "b:c")))
  -- the last of equal names wins, and names stand in byte order
  pub again : Reads (ascii "Subject:;a=1;a=2 Hi") (subject (ascii ";a=1;a=2 Hi") []) (subject (ascii "Hi") (param (ascii "a") (ascii "2")))
  pub ordered : Reads (ascii "Subject:;b=1;a=2 Hi") (subject (ascii ";b=1;a=2 Hi") []) (subject (ascii "Hi") (entry (ascii "a") (ascii "2") ∷ entry (ascii "b") (ascii "1") ∷ []))
  pub ten : Reads (ascii "Subject:" ++ (many (ascii "abcdefghij") ++ ascii " Hi")) (subject (many (ascii "abcdefghij") ++ ascii " Hi") []) (subject (ascii "Hi") (none_set (ascii "abcdefghij")))
  -- behind a space they are part of the value, and left of the colon they make no name
  pub behind : Reads (ascii "Subject: ;lang=en Hi") (subject (ascii ";lang=en Hi") []) (subject (ascii ";lang=en Hi") [])
  pub left : Reads (ascii "Subject;lang=en: Hi") (subject (ascii "Hi") (param (ascii "lang") (ascii "en"))) (refused name_reserved)
  -- one space is taken, and nothing is trimmed
  pub spaces : Reads (ascii "Subject:  Hi ") (subject (ascii "Hi") []) (subject (ascii " Hi ") [])
  pub named : Reads (ascii " Subject : Hi") (subject (ascii "Hi") []) (accepted (record { name = ascii " Subject "; value = ascii "Hi"; params = [] }))
  pub nothing : Reads (ascii "Subject: ") (subject [] []) (subject [] [])
  -- the first space ends the parameters; only U+0020 is one
  pub first : Reads (ascii "Subject:;a=b c Hi") (subject (ascii ";a=b c Hi") []) (subject (ascii "c Hi") (param (ascii "a") (ascii "b")))
  pub kept : read_header_rfc (ascii "Subject:;a=b" ++ (no_break ++ ascii "c Hi")) ≡ subject (ascii "Hi") (param (ascii "a") (ascii "b" ++ (no_break ++ ascii "c")))

-- Lines that are turned away.
pub record TurnedAway : Type 0 where
  -- 28: neither space nor `;` behind the colon, or no space
  pub other : Reads (ascii "Subject:Hi") (subject (ascii "Hi") []) (refused lacks_space)
  pub later : Reads (ascii "Subject:Hi you") (subject (ascii "Hi you") []) (refused lacks_space)
  pub end : Reads (ascii "Subject:") (subject [] []) (refused lacks_space)
  pub tab : Reads (ascii "Subject:\tHi you") (subject (ascii "Hi you") []) (refused lacks_space)
  pub broad : Reads (ascii "Subject:" ++ (no_break ++ ascii "Hi you")) (subject (ascii "Hi you") []) (refused lacks_space)
  pub unended : Reads (ascii "Subject:;lang=en") (subject (ascii ";lang=en") []) (refused lacks_space)
  -- 27: a parameter lacks `=`
  pub bare : Reads (ascii "Subject:; Hi") (subject (ascii "; Hi") []) (refused param_lacks_equals)
  pub name : Reads (ascii "Subject:;a Hi") (subject (ascii ";a Hi") []) (refused param_lacks_equals)
  pub last : Reads (ascii "Subject:;a=b; Hi") (subject (ascii ";a=b; Hi") []) (refused param_lacks_equals)
  pub cut : Reads (ascii "Subject:;a b=c Hi") (subject (ascii ";a b=c Hi") []) (refused param_lacks_equals)
  -- 12 to 16, at the limit and one past
  pub unnamed : Reads (ascii "Subject:;=b Hi") (subject (ascii ";=b Hi") []) (refused param_name_empty)
  pub long_name : (read_header_rfc (ascii "Subject:;" ++ (letters 64 ++ ascii "=b Hi")) ≡ subject (ascii "Hi") (param (letters 64) (ascii "b")))
      × (read_header_rfc (ascii "Subject:;" ++ (letters 65 ++ ascii "=b Hi")) ≡ refused (param_name_too_long 65))
  pub quoted_name : read_header_rfc (ascii "Subject:;\"a=b Hi") ≡ refused param_name_reserved
  pub long_value : (read_header_rfc (ascii "Subject:;a=" ++ (letters 256 ++ ascii " Hi")) ≡ subject (ascii "Hi") (param (ascii "a") (letters 256)))
      × (read_header_rfc (ascii "Subject:;a=" ++ (letters 257 ++ ascii " Hi")) ≡ refused (param_value_too_long 257))
  pub quoted : Reads (ascii "Subject:;a=\"x\" Hi") (subject (ascii ";a=\"x\" Hi") []) (refused param_value_reserved)
  pub tabbed : read_header_rfc (ascii "Subject:;a=b\tc Hi") ≡ refused param_value_reserved
  -- 21 even when replacing
  pub eleven : Reads (ascii "Subject:" ++ (many (ascii "abcdefghijk") ++ ascii " Hi")) (subject (many (ascii "abcdefghijk") ++ ascii " Hi") []) (refused (too_many_params 11))
  pub replaced : Reads (ascii "Subject:" ++ (many (ascii "abcdefghija") ++ ascii " Hi")) (subject (many (ascii "abcdefghija") ++ ascii " Hi") []) (refused (too_many_params 11))
  -- escapes follow the RFC
  pub apostrophe : Reads (ascii "Subject: \\'x") (refused bad_escape) (subject (ascii "'x") [])
  pub plus : Reads (ascii "Subject: \\u+041") (subject (ascii "A") []) (refused bad_escape)
  pub surrogate : Reads (ascii "Subject: \\ud800") (refused bad_escape) (refused bad_escape)

-- Of two faults the one whose check comes first is answered: 4; the name; 28; for each parameter 27, 12 to 16, 21; 5; 10; 20; 25.
pub record InOrder : Type 0 where
  pub colon : read_header_rfc (ascii "=;a") ≡ refused lacks_colon
  pub empty : read_header_rfc (ascii ":x") ≡ refused name_empty
  pub reserved : Reads (ascii "=:x") (refused name_reserved) (refused name_reserved)
  pub space : read_header_rfc (ascii "a:;b") ≡ refused lacks_space
  pub equals : read_header_rfc (ascii "a:;b;=c \\") ≡ refused param_lacks_equals
  pub bare : read_header_rfc (ascii "a:; c") ≡ refused param_lacks_equals
  pub turn : read_header_rfc (ascii "a:;=b;c \\") ≡ refused param_name_empty
  -- 12 before 15; 13 before 14 before 15 before 16 before 21
  pub unnamed : read_header_rfc (ascii "a:;=" ++ (letters 257 ++ ascii " c")) ≡ refused param_name_empty
  pub name_length : read_header_rfc (ascii "a:;\"" ++ (letters 64 ++ ascii "=b c")) ≡ refused (param_name_too_long 65)
  pub name_bytes : read_header_rfc (ascii "a:;\"b=" ++ (letters 257 ++ ascii " c")) ≡ refused param_name_reserved
  pub value_length : read_header_rfc (ascii "a:;b=\"" ++ (letters 256 ++ ascii " c")) ≡ refused (param_value_too_long 257)
  pub value_bytes : read_header_rfc (ascii "a:" ++ (many (ascii "abcdefghij") ++ ascii ";k=\" c")) ≡ refused param_value_reserved
  pub value : read_header_rfc (ascii "a:;b=\" \\") ≡ refused param_value_reserved
  pub count : read_header_rfc (ascii "a:" ++ (many (ascii "abcdefghijk") ++ ascii ";x \\")) ≡ refused (too_many_params 11)
  pub escape : read_header_rfc (ascii "a: \\" ++ letters 1025) ≡ refused bad_escape
  pub long : read_rfc (notice (texts (λ c. c ∷ ascii ": b\r\n") (letters 50) ++ (ascii "a: " ++ letters 1025)) []) roomy ≡ refused (value_too_long 1025)
  pub headers : read_rfc (notice (texts (λ c. c ∷ ascii ": b\r\n") (letters 51)) []) (record { head = 1156; body = 9 }) ≡ refused (too_many_headers 51)
  -- 25, the last of all, alone
  pub room : read_rfc (notice (ascii "a:;b=c d") []) (record { head = 291; body = 9 }) ≡ refused (no_room 292)

-- What is written is read back whole.
pub record Whole : Type 0 where
  -- P7: lost by the first reading, and not by the second
  pub first : back p7 ≡ accepted (single (ascii "Subject") (ascii ";lang=en Hi") [])
  pub second : back_rfc p7 ≡ accepted p7
  pub tests : (comes_back p7 ≡ false) × (comes_back_rfc p7 ≡ true)
  -- a space in a parameter value is taken for the one behind the parameters
  pub spaced_read : back_rfc spaced ≡ accepted (single (ascii "Subject") (ascii "c Hi") (param (ascii "a") (ascii "b")))
  pub spaced_test : comes_back_rfc spaced ≡ false
  -- any ends of name and value
  pub ends : back_rfc (single (ascii " a ") (ascii " b ") (param (ascii "c") no_break)) ≡ accepted (single (ascii " a ") (ascii " b ") (param (ascii "c") no_break))
