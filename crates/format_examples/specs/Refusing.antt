-- Document 01, "Refusals by number": the example of each row of the table, document 02's two with them, and the limits at and one past; proved
-- in proofs/Refusing.antt. Assumes nothing.
use Rattle.std.specs.Prelude.{ℕ, ◌≡◌, List, [], ◌∷◌, ◌++◌, length, replicate}
use Rattle.std.proofs.Math.Option.{none, some}
use Rattle.format.specs.Bytes.{Bytes, ascii, texts}
use Rattle.format.specs.Refusals.{◌carrying◌, numbers, pass}
use Rattle.format.specs.declared.Numbers.{Numbers}
use Rattle.format.specs.Validators.{header_name, header_value, content_value, param_name, param_value, content_type}
use Rattle.format.specs.Message.{Entry, entry, LoneHeader, Message}
use Rattle.format.specs.Calls.{Stores, new, header_added, header_set, add_param, body_set, answer, add_header, with_param}
use Rattle.format.specs.Writing.{to_text}
use Rattle.format.specs.Reading.{read}
use Rattle.format.specs.ReadingRfc.{read_header_rfc}
use Rattle.format_examples.specs.Specimens.{roomy, single}

-- a text with this header line and this content line
abbrev pub notice : Bytes → Bytes → Bytes
notice h c = ascii "Content-type: Message/CPIM\r\n\r\n" ++ (h ++ (ascii "\r\n\r\n" ++ (c ++ ascii "\r\n\r\nHi")))

abbrev pub read_header_of : Bytes → Numbers
read_header_of h = numbers (read (notice h (ascii "Content-type: text/plain")) roomy)

abbrev pub read_content_of : Bytes → Numbers
read_content_of c = numbers (read (notice (ascii "To: a") c) roomy)

abbrev pub letters : ℕ → Bytes
letters n = replicate n 97

-- a message of n headers To; a header with a parameter for each letter
abbrev pub headers_of : ℕ → Message
headers_of n =
    record {
      headers = replicate n (record { name = ascii "To"; value = ascii "a"; params = [] });
      type = ascii "text/plain";
      contents = [];
      body = [];
    }

abbrev pub params_of : Bytes → LoneHeader
params_of names = record { value = []; params = named names }
  where
    named : Bytes → List Entry
    named [] = []
    named (c ∷ s) = entry (c ∷ []) (ascii "x") ∷ named s

abbrev pub tabbed : Bytes
tabbed = ascii "a\tb"

pub record RefusalExamples : Type 0 where
  pub row1 : (t : Bytes) (stores : Stores) → length t ≡ 20971521 → numbers (read t stores) ≡ 1 carrying 20971521
  pub row2 : numbers (read [] roomy) ≡ 2 carrying 0
  pub row3 : numbers (read (ascii "Hi\n\nTo: a\n\n\n\n") roomy) ≡ 3 carrying 0
  pub row4 : read_header_of (ascii "To") ≡ 4 carrying 0
  pub row5 : read_header_of (ascii "To: \\q") ≡ 5 carrying 0
  pub row6 : read_header_of (ascii ": a") ≡ 6 carrying 0
  pub row7 : read_header_of (letters 129 ++ ascii ": a") ≡ 7 carrying 129
  pub row8 : read_header_of (tabbed ++ ascii ": c") ≡ 8 carrying 0
  pub row9 : read_header_of (ascii "a=b: c") ≡ 9 carrying 0
  pub row10 : read_header_of (ascii "To: " ++ letters 1025) ≡ 10 carrying 1025
  pub row11 : read_content_of (ascii "a: " ++ tabbed) ≡ 11 carrying 0
  pub row12 : read_header_of (ascii "To;=x: a") ≡ 12 carrying 0
  pub row13 : read_header_of (ascii "To;" ++ (letters 65 ++ ascii "=x: a")) ≡ 13 carrying 65
  pub row14 : read_header_of (ascii "To;a\"b=x: a") ≡ 14 carrying 0
  pub row15 : read_header_of (ascii "To;x=" ++ (letters 257 ++ ascii ": a")) ≡ 15 carrying 257
  pub row16 : numbers (with_param (ascii "x") (ascii "a;b") 1000 (some (params_of []))) ≡ 16 carrying 0
  pub row17 : read_content_of (ascii "Content-type:") ≡ 17 carrying 0
  pub row18 : read_content_of (ascii "Content-type: " ++ letters 257) ≡ 18 carrying 257
  pub row19 : read_content_of (ascii "Content-type: a" ++ (7 ∷ ascii "b")) ≡ 19 carrying 0
  pub row20 : read_header_of (texts (λ l. l) (replicate 51 (ascii "To: a\r\n"))) ≡ 20 carrying 51
  pub row21 : numbers (with_param (ascii "k") [] 1000 (some (params_of (ascii "abcdefghij")))) ≡ 21 carrying 11
  pub row22 : read_content_of (texts (λ c. c ∷ ascii ": x\r\n") (ascii "abcdefghijklmnopqrstu")) ≡ 22 carrying 21
  pub row23 : (b : Bytes) (stores : Stores) → length b ≡ 10485761 → numbers (new (ascii "text/plain") b stores) ≡ 23 carrying 10485761
  pub row24 : numbers (read (255 ∷ []) roomy) ≡ 24 carrying 0
  pub row25 : numbers (new (ascii "text/plain") [] (record { head = 255; body = 0 })) ≡ 25 carrying 256
  pub row26 : numbers (to_text (some (single (ascii "To") (ascii "a") [])) 0) ≡ 26 carrying 69
  -- document 02, T-01
  pub row27 : numbers (read_header_rfc (ascii "To:;a b")) ≡ 27 carrying 0
  pub row28 : numbers (read_header_rfc (ascii "To:a")) ≡ 28 carrying 0
  -- a message that is not held: 25 carrying 0, ahead of 24
  pub unheld : numbers (answer (add_header (255 ∷ []) []) roomy none) ≡ 25 carrying 0

-- at the limit, and one past it
pub record AtLimits : Type 0 where
  pub name : (header_name (letters 128) ≡ pass) × (numbers (header_name (letters 129)) ≡ 7 carrying 129)
  pub value : (header_value (letters 1024) ≡ pass) × (numbers (header_value (letters 1025)) ≡ 10 carrying 1025)
  pub content : (content_value (letters 1024) ≡ pass) × (numbers (content_value (letters 1025)) ≡ 10 carrying 1025)
  pub param : (param_name (letters 64) ≡ pass) × (numbers (param_name (letters 65)) ≡ 13 carrying 65)
  pub param_text : (param_value (letters 256) ≡ pass) × (numbers (param_value (letters 257)) ≡ 15 carrying 257)
  pub type : (content_type (letters 256) ≡ pass) × (numbers (content_type (letters 257)) ≡ 18 carrying 257)
  pub headers : (numbers (header_added (ascii "cc") [] roomy (headers_of 49)) ≡ 0 carrying 0) × (numbers (header_added (ascii "cc") [] roomy (headers_of 50)) ≡ 20 carrying 51)
  -- 20 is counted without what `set_header` replaces
  pub replaced : numbers (header_set (ascii "To") [] roomy (headers_of 50)) ≡ 0 carrying 0
  pub params : (numbers (add_param (ascii "k") [] (params_of (ascii "abcdefghi"))) ≡ 0 carrying 0) × (numbers (add_param (ascii "k") [] (params_of (ascii "abcdefghij"))) ≡ 21 carrying 11)
  -- the head store is judged at each line by the message as read up to and with it: a shorter value in its place comes too late
  pub peak : (numbers (read (ascii "message/cpim\n\na:b\n\nx:yy\nx:y\n\n") (record { head = 292; body = 0 })) ≡ 25 carrying 293)
      × (numbers (read (ascii "message/cpim\n\na:b\n\nx:yy\nx:y\n\n") (record { head = 293; body = 0 })) ≡ 0 carrying 0)
  pub body : (numbers (body_set (ascii "Hi") (record { head = 256; body = 1 }) (headers_of 0)) ≡ 26 carrying 2)
      × (numbers (body_set (ascii "Hi") (record { head = 256; body = 2 }) (headers_of 0)) ≡ 0 carrying 0)
