-- Document 01, "Specimens" and the sections before it: the mistakes to expect, the order of checks where two faults meet, and worked examples of its rules and of Unicode
-- chapter 3; proved in proofs/Rules.antt. Assumes nothing.
use Rattle.std.specs.Prelude.{ℕ, ◌^◌, ◌≡◌, true, false, [], ◌∷◌, ◌++◌, length, replicate}
use Rattle.std.proofs.Math.Option.{none, some}
use Rattle.format.specs.Bytes.{Bytes, ascii, texts}
use Rattle.format.specs.Characters.{trim, replaced, replacement}
use Rattle.format.specs.Escaping.{escape, unescape}
use Rattle.format.specs.Refusals.{Refusal, accepted, refused, ◌carrying◌, numbers}
use Rattle.format.specs.Message.{entry, Message}
use Rattle.format.specs.Calls.{new, header_set, header_added, content_header_added, with_param, answer, add_header_obj, with_ns, with_subject_lang}
use Rattle.format.specs.Reading.{read, read_header, Parts, text_parts}
use Rattle.format.specs.LookingUp.{address, get_header, get_header_value, get_param, get_type, get_body, get_content, alone_value, alone_param, count_headers, count_params, count_contents, body_as_str, find_body, body_length_of, buffer_after, body_part}
use Rattle.format.specs.Showing.{show, showcpim}
use Rattle.format.specs.Writing.{writes}
use Rattle.format.specs.Layout.{Lent, empty_message, empty_header}
use Rattle.format.specs.Lending.{makes, leaves, zeroed, zeroed_lent, ReadLeaves, LentHeader, makes_header, leaves_header}
use Rattle.format_examples.specs.Specimens.{roomy, single, back, with_twenty, two_sections}
use Rattle.format_examples.specs.Refusing.{notice, read_header_of, read_content_of, letters, headers_of, params_of}

-- The mistakes to expect are not made.
pub record Mistakes : Type 0 where
  -- parameters read after the colon
  pub params : read_header (ascii "To:;a=b c") ≡ accepted (record { name = ascii "To"; value = ascii ";a=b c"; params = [] })
  -- outer tabs counted as lost
  pub tabs : back (single (ascii "To") (ascii "\ta\t") []) ≡ accepted (single (ascii "To") (ascii "\ta\t") [])
  -- the 22 test skipped on replacing
  pub replacing : read_content_of (texts (λ c. c ∷ ascii ": x\r\n") (ascii "abcdefghijklmnopqrsta")) ≡ 22 carrying 21
  -- white space cut to ASCII: U+00A0 and U+3000
  pub white : trim (0xC2 ∷ 0xA0 ∷ ascii "a" ++ (0xE3 ∷ 0x80 ∷ 0x80 ∷ [])) ≡ ascii "a"
  -- U+0130 taken for i in message/cpim
  pub dotted : numbers (read (ascii "message/cp" ++ (0xC4 ∷ 0xB0 ∷ ascii "m\n\nTo: a\n\n\n\n")) roomy) ≡ 3 carrying 0

-- Of two faults the one whose check comes first is answered.
pub record Order : Type 0 where
  -- `new`: 24, type, 25, 26
  pub new_text : numbers (new (255 ∷ []) [] (record { head = 0; body = 0 })) ≡ 24 carrying 0
  pub new_type : numbers (new [] [] (record { head = 0; body = 0 })) ≡ 17 carrying 0
  pub new_room : numbers (new (ascii "a") (ascii "b") (record { head = 255; body = 0 })) ≡ 25 carrying 256
  pub new_body : numbers (new (ascii "a") (ascii "b") (record { head = 256; body = 0 })) ≡ 26 carrying 1
  -- `set_header`: name, 20, value, 25
  pub set_name : numbers (header_set [] (letters 1025) roomy (headers_of 50)) ≡ 6 carrying 0
  pub set_count : numbers (header_set (ascii "cc") (letters 1025) roomy (headers_of 50)) ≡ 20 carrying 51
  pub set_value : numbers (header_set (ascii "cc") (letters 1025) (record { head = 0; body = 0 }) (headers_of 1)) ≡ 10 carrying 1025
  -- what a replaced entry held is free
  pub set_room : numbers (header_set (ascii "To") (ascii "bc") (record { head = 275; body = 0 }) (headers_of 2)) ≡ 25 carrying 276
  pub set_free : numbers (header_set (ascii "To") (ascii "bc") (record { head = 276; body = 0 }) (headers_of 2)) ≡ 0 carrying 0
  -- `add_header`: value, name, 20, 25
  pub add_value : numbers (header_added [] (letters 1025) roomy (headers_of 50)) ≡ 10 carrying 1025
  pub add_name : numbers (header_added [] [] roomy (headers_of 50)) ≡ 6 carrying 0
  pub add_count : numbers (header_added (ascii "a") [] (record { head = 0; body = 0 }) (headers_of 50)) ≡ 20 carrying 51
  pub add_room : numbers (header_added (ascii "a") (ascii "b") (record { head = 273; body = 0 }) (headers_of 0)) ≡ 25 carrying 274
  -- `add_content_header`: name, value, 22, 25
  pub content_name : numbers (content_header_added [] (letters 1025) roomy with_twenty) ≡ 6 carrying 0
  pub content_text : numbers (content_header_added (ascii "a") (letters 1025) roomy with_twenty) ≡ 10 carrying 1025
  pub content_many : numbers (content_header_added (ascii "a") [] (record { head = 0; body = 0 }) with_twenty) ≡ 22 carrying 21
  -- `with_param`: 25 carrying 0, 24, name, value, 21, 25
  pub param_held : numbers (with_param (255 ∷ []) [] 0 none) ≡ 25 carrying 0
  pub param_utf8 : numbers (with_param [] (255 ∷ []) 0 (some (params_of []))) ≡ 24 carrying 0
  pub param_name : numbers (with_param [] (letters 257) 0 (some (params_of (ascii "abcdefghij")))) ≡ 12 carrying 0
  pub param_text : numbers (with_param (ascii "a") (letters 257) 0 (some (params_of (ascii "abcdefghij")))) ≡ 15 carrying 257
  pub param_many : numbers (with_param (ascii "a") [] 0 (some (params_of (ascii "abcdefghij")))) ≡ 21 carrying 11
  pub param_room : numbers (with_param (ascii "a") [] 32 (some (params_of []))) ≡ 25 carrying 33
  -- a header that is not held: 25 carrying 0, ahead of 24
  pub obj_held : numbers (answer (add_header_obj (255 ∷ []) none) roomy (some (headers_of 0))) ≡ 25 carrying 0
  pub obj_utf8 : numbers (answer (add_header_obj (255 ∷ []) (some (params_of []))) roomy (some (headers_of 0))) ≡ 24 carrying 0
  -- `with_ns`: 24 for either argument ahead of 10; the length counts what joins them
  pub ns_utf8 : numbers (answer (with_ns (letters 1025) (255 ∷ [])) roomy (some (headers_of 0))) ≡ 24 carrying 0
  pub ns_value : numbers (answer (with_ns (letters 1000) (letters 22)) roomy (some (headers_of 0))) ≡ 10 carrying 1025
  -- `with_subject_lang`: value, parameter, 20, 25
  pub lang_value : numbers (answer (with_subject_lang (letters 1025) (ascii ";")) roomy (some (headers_of 50))) ≡ 10 carrying 1025
  pub lang_param : numbers (answer (with_subject_lang [] (ascii ";")) roomy (some (headers_of 50))) ≡ 16 carrying 0
  pub lang_room : numbers (answer (with_subject_lang (ascii "Hi") (ascii "en")) (record { head = 302; body = 0 }) (some (headers_of 0))) ≡ 25 carrying 303
  -- reading: 24, 2, 3, 25, headers, content headers, 26
  pub read_utf8 : numbers (read (ascii "Hi" ++ (255 ∷ [])) (record { head = 0; body = 0 })) ≡ 24 carrying 0
  pub read_few : numbers (read (ascii "Hi") (record { head = 0; body = 0 })) ≡ 2 carrying 0
  pub read_cpim : numbers (read (ascii "Hi\n\nTo\n\nContent-type:\n\nHi") (record { head = 0; body = 0 })) ≡ 3 carrying 0
  pub read_room : numbers (read (notice (ascii "To") (ascii "Content-type:")) (record { head = 255; body = 0 })) ≡ 25 carrying 256
  pub read_headers : numbers (read (notice (ascii "To") (ascii "Content-type:")) (record { head = 256; body = 0 })) ≡ 4 carrying 0
  pub read_contents : numbers (read (notice (ascii "To:") (ascii "Content-type:")) (record { head = 274; body = 0 })) ≡ 17 carrying 0
  pub read_body : numbers (read (notice (ascii "To:") (ascii "A")) (record { head = 274; body = 1 })) ≡ 26 carrying 2
  -- a header line: 4, name, each parameter, 5, 10, 20, 25
  pub line_name : read_header_of (ascii "=;=: \\") ≡ 9 carrying 0
  pub line_param : read_header_of (ascii "a;=: \\") ≡ 12 carrying 0
  pub line_params : read_header_of (ascii "a;b=\\;=: \\") ≡ 16 carrying 0
  -- 21 even when replacing, ahead of 5; a name set again counts once
  pub line_many : read_header_of (ascii "x" ++ (texts (λ c. ascii ";" ++ (c ∷ ascii "=")) (ascii "abcdefghija") ++ ascii ": \\")) ≡ 21 carrying 11
  pub line_again : read_header_of (ascii "x" ++ (texts (λ c. ascii ";" ++ (c ∷ ascii "=")) (ascii "aaaaaaaaaaa") ++ ascii ": \\")) ≡ 5 carrying 0

-- Worked examples of the rules
pub record Rules : Type 0 where
  -- the digits of an escape are in lower case when written, in either case when read
  pub lower_case : escape (0x1F ∷ []) ≡ ascii "\\u001f"
  pub either_case : (unescape (ascii "\\u00E9") ≡ some (0xC3 ∷ 0xA9 ∷ [])) × (unescape (ascii "\\u00e9") ≡ some (0xC3 ∷ 0xA9 ∷ []))
  -- Cc beyond ASCII is escaped: U+0085
  pub upper_control : escape (0xC2 ∷ 0x85 ∷ []) ≡ ascii "\\u0085"
  -- the short forms
  pub short_forms : (escape (92 ∷ 34 ∷ 8 ∷ 9 ∷ 10 ∷ 13 ∷ []) ≡ ascii "\\\\\\\"\\b\\t\\n\\r") × (unescape (ascii "\\\\\\\"\\b\\t\\n\\r") ≡ some (92 ∷ 34 ∷ 8 ∷ 9 ∷ 10 ∷ 13 ∷ []))
  -- \' of the RFC is refused, and so is an escape that breaks off
  pub refused_escapes : (unescape (ascii "\\'") ≡ none) × (unescape (ascii "\\") ≡ none) × (unescape (ascii "\\u004") ≡ none) × (unescape (ascii "\\u-041") ≡ none)
  -- maximal subparts: the examples of Unicode chapter 3, Tables 3-8 to 3-11
  pub non_shortest : replaced (0xC0 ∷ 0xAF ∷ 0xE0 ∷ 0x80 ∷ 0xBF ∷ 0xF0 ∷ 0x81 ∷ 0x82 ∷ 0x41 ∷ []) ≡ texts (λ l. l) (replicate 8 replacement) ++ ascii "A"
  pub surrogates : replaced (0xED ∷ 0xA0 ∷ 0x80 ∷ 0xED ∷ 0xBF ∷ 0xBF ∷ 0xED ∷ 0xAF ∷ 0x41 ∷ []) ≡ texts (λ l. l) (replicate 8 replacement) ++ ascii "A"
  pub other_ill_formed : replaced (0xF4 ∷ 0x91 ∷ 0x92 ∷ 0x93 ∷ 0xFF ∷ 0x41 ∷ 0x80 ∷ 0xBF ∷ 0x42 ∷ []) ≡ texts (λ l. l) (replicate 5 replacement) ++ (ascii "A" ++ (replacement ++ (replacement ++ ascii "B")))
  pub truncated : replaced (0xE1 ∷ 0x80 ∷ 0xE2 ∷ 0xF0 ∷ 0x91 ∷ 0x92 ∷ 0xF1 ∷ 0xBF ∷ 0x41 ∷ []) ≡ texts (λ l. l) (replicate 4 replacement) ++ ascii "A"
  -- a section with a CRLF has its lines end in CRLF only
  pub line_ends : read_header_of (ascii "To: a\nb\r\nX: c") ≡ 0 carrying 0
  -- a line of white space only is not empty: 4 among headers, skipped among content headers
  pub blank_header : read_header_of (ascii " ") ≡ 4 carrying 0
  pub blank_content : read_content_of (ascii " ") ≡ 0 carrying 0
  -- Content-type in any ASCII case; the last one wins
  pub type_case : showcpim (notice (ascii "To: a") (ascii "CONTENT-TYPE: x\r\nContent-type: y"))
      ≡ ascii "result=0\ncarried=0\nheaders=1\nparams=0\ncontents=0\ntype=y\nbody=2\n"
  -- the last of equal parameters wins
  pub param_wins : read_header (ascii "To ; b = 1 ;c;a=2;b=3: x ") ≡ accepted (record { name = ascii "To"; value = ascii "x"; params = entry (ascii "a") (ascii "2") ∷ entry (ascii "b") (ascii "3") ∷ [] })
  -- values of one name stand in the order read, names in byte order
  pub appended : read (notice (ascii "b: 1\r\na: 2\r\nb: 3") (ascii "")) roomy
      ≡ accepted (record {
        headers = record { name = ascii "a"; value = ascii "2"; params = [] } ∷ record { name = ascii "b"; value = ascii "1"; params = [] } ∷ record { name = ascii "b"; value = ascii "3"; params = [] } ∷ [];
        type = ascii "text/plain";
        contents = [];
        body = ascii "Hi";
      })
  -- the body without a store: part of the text under CRLFCRLF, written to the buffer under LFLF; faults in headers play no part
  pub body_in_text : (numbers (find_body (ascii "\r\n\r\n\r\n\r\n\r\n\r\nHi") 0) ≡ 0 carrying 0) × (body_part (ascii "\r\n\r\n\r\n\r\n\r\n\r\nHi") [] 9 ≡ ascii "Hi")
  pub body_short : numbers (find_body two_sections 5) ≡ 26 carrying 6
  pub body_written : buffer_after two_sections (ascii "1234567") ≡ ascii "a\r\n\r\nb7"
  pub body_in_buffer : (body_part two_sections (ascii "1234567") 6 ≡ ascii "123456") × (body_part two_sections (ascii "1234567") 8 ≡ [])

-- two headers of one name with parameters, and a content header
abbrev pub two_values : Message
two_values =
    record {
      headers = record { name = ascii "To"; value = ascii "a"; params = entry (ascii "p") (ascii "1") ∷ [] } ∷ record { name = ascii "To"; value = ascii "b"; params = entry (ascii "p") (ascii "2") ∷ entry (ascii "q") (ascii "3") ∷ [] } ∷ [];
      type = ascii "text/plain";
      contents = entry (ascii "A") (ascii "x") ∷ entry (ascii "B") (ascii "y") ∷ [];
      body = 255 ∷ [];
    }

-- The address in a value
pub record Senders : Type 0 where
  pub addressed : address (ascii "Alice <im:a@b>") ≡ some (ascii "im:a@b")
  pub empty_address : address (ascii "<>") ≡ some []
  pub no_address : address (ascii "a > b < c") ≡ none
  -- a `<` in a quoted string opens no address
  pub coach : address (ascii "\"Lost < Found\" <im:lost@depot>") ≡ some (ascii "im:lost@depot")
  pub empty_name : address (ascii "\"\" <b>") ≡ some (ascii "b")
  pub several : address (ascii "Lost \"a\" and \"b<\" <im:x>") ≡ some (ascii "im:x")
  -- inside quotes a backslash covers a quote, and another backslash
  pub covered_quote : address (ascii "\"a\\\"<b\" <c>") ≡ some (ascii "c")
  pub covered_backslash : address (ascii "\"a\\\\\" <b>") ≡ some (ascii "b")
  -- outside quotes it covers nothing
  pub bare_backslash : address (ascii "\\\"a <b>") ≡ none
  -- a quote that is left unclosed: the first, a second pair's, a stray one
  pub unclosed : address (ascii "\"a <b>") ≡ none
  pub unclosed_again : address (ascii "\"a\" b\" <c>") ≡ none
  pub stray : address (ascii "5\" pipe <im:x>") ≡ none
  -- behind the `<` quotes are plain
  pub quote_behind : address (ascii "<\"a>\"") ≡ some (ascii "\"a")
  -- escapes of the text are read before: a quoted name that has one there is another name in the value that is held. It may have no address then,
  -- or one that stood in the name
  pub escaped_quote : (read_header (ascii "From: \"a\\\"b\" <im:x>") ≡ accepted (record { name = ascii "From"; value = ascii "\"a\"b\" <im:x>"; params = [] })) × (address (ascii "\"a\"b\" <im:x>") ≡ none)
  pub escaped_backslash : (read_header (ascii "From: \"a\\\\\" <im:x>") ≡ accepted (record { name = ascii "From"; value = ascii "\"a\\\" <im:x>"; params = [] })) × (address (ascii "\"a\\\" <im:x>") ≡ none)
  pub escaped_name : (read_header (ascii "From: \"a\\\" <im:b> \\\"\" <im:x>") ≡ accepted (record { name = ascii "From"; value = ascii "\"a\" <im:b> \"\" <im:x>"; params = [] })) × (address (ascii "\"a\" <im:b> \"\" <im:x>") ≡ some (ascii "im:b"))

-- Looking up
pub record Lookups : Type 0 where
  pub first_value : get_header (some two_values) (ascii "To") ≡ some (ascii "a")
  pub second_value : get_header_value (some two_values) (ascii "To") 1 ≡ some (ascii "b")
  pub third_value : get_header_value (some two_values) (ascii "To") 2 ≡ none
  pub other_case : get_header (some two_values) (ascii "to") ≡ none
  -- absent for a name that is not UTF-8, were there such a header
  pub ill_formed : get_header (some (single (255 ∷ []) (ascii "a") [])) (255 ∷ []) ≡ none
  -- the n-th parameter of the k-th value
  pub param_of : (get_param (some two_values) (ascii "To") 1 0 ≡ some (entry (ascii "p") (ascii "2"))) × (get_param (some two_values) (ascii "To") 0 1 ≡ none)
  pub alone_params : (alone_value (some (params_of (ascii "ab"))) ≡ some []) × (alone_param (some (params_of (ascii "ab"))) 1 ≡ some (entry (ascii "b") (ascii "x")))
  pub type_and_body : (get_type (some two_values) ≡ some (ascii "text/plain")) × (get_body (some two_values) ≡ some (255 ∷ []))
  pub contents : (get_content (some two_values) 1 ≡ some (entry (ascii "B") (ascii "y"))) × (get_content (some two_values) 2 ≡ none)
  pub counts : (count_headers (some two_values) ≡ 2) × (count_params (some two_values) ≡ 3) × (count_contents (some two_values) ≡ 2)
  pub body_text : (body_as_str (some two_values) ≡ false) × (body_as_str (some with_twenty) ≡ true)
  -- absent where nothing is held
  pub unheld : (get_header none (ascii "To") ≡ none) × (get_type none ≡ none) × (get_body none ≡ none) × (get_content none 0 ≡ none) × (alone_value none ≡ none) × (body_as_str none ≡ false)
  -- body without a store: 1, 2 and 23; the second call gives nothing of a refused text
  pub long_text : (t : Bytes) (n : ℕ) → length t ≡ 20971521 → numbers (find_body t n) ≡ 1 carrying 20971521
  pub long_body : (t : Bytes) (n : ℕ) (p : Parts) → text_parts t ≡ accepted p → length p.body ≡ 10485761 → numbers (find_body t n) ≡ 23 carrying 10485761
  pub refused_body : (numbers (find_body (ascii "Hi") 9) ≡ 2 carrying 0) × (body_length_of (find_body (ascii "Hi") 9) ≡ 0) × (body_part (ascii "Hi") (ascii "123") 2 ≡ [])

-- Refused calls: `new` and `CpimHeader::new` hand back an empty record and write nothing, a reading writes zeros over both stores,
-- `to_string` and changing calls write nothing.
pub record Refused : Type 0 where
  pub made : (l : Lent) (r : Refusal) → makes l (refused r) ≡ record { message = empty_message; head = l.head; body = l.body }
  pub read : (l : Lent) (r : Refusal) → ReadLeaves l (record { message = empty_message; head = zeroed l.head; body = zeroed_lent l.body }) (refused r)
  pub zeros : zeroed (ascii "Hi") ≡ 0 ∷ 0 ∷ []
  pub written : (out : Bytes) (r : Refusal) → writes out (refused r) ≡ out
  pub changed : (l : Lent) (r : Refusal) → leaves l (refused r) ≡ l
  pub made_header : (store : Bytes) (r : Refusal) → makes_header store (refused r) ≡ record { header = empty_header; store = store }
  pub param_set : (l : LentHeader) (r : Refusal) → leaves_header l (refused r) ≡ l

-- What `showcpim` prints
pub record Shown : Type 0 where
  pub printed : showcpim (notice (ascii "From: <im:a@b>") (ascii "Content-type: text/plain"))
      ≡ ascii "result=0\ncarried=0\nheaders=1\nparams=0\ncontents=0\ntype=text/plain\nbody=2\n"
  pub refused_printed : showcpim (ascii "Hi") ≡ ascii "result=2\ncarried=0\n"
  -- the type is escaped by document 01's rule
  pub type_escaped : showcpim (notice (ascii "a;b=c: d") (ascii "e: f\r\nContent-type: \"\\"))
      ≡ ascii "result=0\ncarried=0\nheaders=1\nparams=1\ncontents=1\ntype=\\\"\\\\\nbody=2\n"
  -- at most 65,536 bytes, and stores of 65,536 bytes
  pub at_most : (input : Bytes) → length input ≡ 65536 → showcpim input ≡ show (read input roomy)
  pub too_long : (input : Bytes) → length input ≡ 65537 → showcpim input ≡ ascii "result=26\ncarried=65537\n"
  -- a carried number has 64 bits, the largest for more
  pub capped : (◌carrying◌ 10 (2 ^ 64)).carried ≡ 18446744073709551615
