-- Document 02, T-03, "Descriptions that end in a space": how header values are written, by examples; proved in proofs/ValueEnds.antt.
-- Assumes nothing.
use Rattle.std.specs.Prelude.{◌+◌, ◌≡◌, List, [], ◌∷◌, ◌++◌, map, length, replicate}
use Rattle.std.proofs.Math.Option.{some}
use Rattle.format.specs.Bytes.{Bytes, ascii}
use Rattle.format.specs.Characters.{encoding, white_space}
use Rattle.format.specs.Escaping.{escape, value_text}
use Rattle.format.specs.Refusals.{accepted, ◌carrying◌, numbers}
use Rattle.format.specs.Message.{Entry, entry, Message}
use Rattle.format.specs.Writing.{header_line, write, to_text}
use Rattle.format_examples.specs.Specimens.{single, back}

-- the 25 white-space characters at an end, in the order of `white_space`: the six controls as everywhere, the others as `\u`
abbrev pub white_texts : List Bytes
white_texts =
    ascii "\\t" ∷ ascii "\\n" ∷ ascii "\\u000b" ∷ ascii "\\u000c" ∷ ascii "\\r" ∷ ascii "\\u0020" ∷ ascii "\\u0085" ∷ ascii "\\u00a0"
    ∷ ascii "\\u1680" ∷ ascii "\\u2000" ∷ ascii "\\u2001" ∷ ascii "\\u2002" ∷ ascii "\\u2003" ∷ ascii "\\u2004" ∷ ascii "\\u2005"
    ∷ ascii "\\u2006" ∷ ascii "\\u2007" ∷ ascii "\\u2008" ∷ ascii "\\u2009" ∷ ascii "\\u200a" ∷ ascii "\\u2028" ∷ ascii "\\u2029"
    ∷ ascii "\\u202f" ∷ ascii "\\u205f" ∷ ascii "\\u3000" ∷ []

-- a value of one such character, as a message holds it
abbrev pub white_only : List Message
white_only = map (λ n. single (ascii "To") (encoding n) []) white_space

-- 1,024 spaces, the longest value
abbrev pub spaces : Bytes
spaces = replicate 1024 32

-- a subject with U+00A0 at its end
abbrev pub subject : Bytes → List Entry → Message
subject v ps = single (ascii "Subject") (v ++ (0xC2 ∷ 0xA0 ∷ [])) ps

abbrev pub lang : List Entry
lang = entry (ascii "lang") (ascii "en") ∷ []

pub record ValueEnds : Type 0 where
  -- one character stands once, at both ends; of more the first and the last
  pub empty : value_text [] ≡ []
  pub one : value_text (ascii " ") ≡ ascii "\\u0020"
  pub two : value_text (ascii "  ") ≡ ascii "\\u0020\\u0020"
  pub three : value_text (ascii "   ") ≡ ascii "\\u0020 \\u0020"
  pub first : value_text (ascii " x") ≡ ascii "\\u0020x"
  pub last : value_text (ascii "x" ++ (0xC2 ∷ 0xA0 ∷ [])) ≡ ascii "x\\u00a0"
  pub inside : value_text (ascii "a" ++ (0xC2 ∷ 0xA0 ∷ ascii "b")) ≡ ascii "a" ++ (0xC2 ∷ 0xA0 ∷ ascii "b")
  -- each of the 25, alone, in front and at the back
  pub alone : map (λ n. value_text (encoding n)) white_space ≡ white_texts
  pub front : map (λ n. value_text (encoding n ++ ascii "x")) white_space ≡ map (λ t. t ++ ascii "x") white_texts
  pub behind : map (λ n. value_text (ascii "x" ++ encoding n)) white_space ≡ map (λ t. ascii "x" ++ t) white_texts
  -- a control at one end, a space at the other
  pub control_first : value_text (0xC2 ∷ 0x85 ∷ 0x20 ∷ []) ≡ ascii "\\u0085\\u0020"
  pub control_last : value_text (ascii " \t") ≡ ascii "\\u0020\\t"
  -- an escape in front of the last character
  pub escaped : value_text (ascii "\\ ") ≡ ascii "\\\\\\u0020"
  -- U+200B and U+FEFF are no white space
  pub zero_width : value_text (0xE2 ∷ 0x80 ∷ 0x8B ∷ []) ≡ 0xE2 ∷ 0x80 ∷ 0x8B ∷ []
  pub byte_order : value_text (0xEF ∷ 0xBB ∷ 0xBF ∷ []) ≡ 0xEF ∷ 0xBB ∷ 0xBF ∷ []
  -- all 25 come back
  pub come_back : map back white_only ≡ map accepted white_only
  -- the length follows, and the room that the text needs
  pub longest : length (value_text spaces) ≡ length (escape spaces) + 10
  pub room : numbers (to_text (some (single (ascii "To") spaces [])) 1101) ≡ 26 carrying 1102
  pub enough : to_text (some (single (ascii "To") spaces [])) 1102 ≡ accepted (write (single (ascii "To") spaces []))
  -- behind a parameter, which is read as part of the value
  pub with_param : map header_line (subject (ascii "Hi") lang).headers ≡ ascii "Subject:;lang=en Hi\\u00a0" ∷ []
  pub param_read : back (subject (ascii "Hi") lang) ≡ accepted (subject (ascii ";lang=en Hi") [])
