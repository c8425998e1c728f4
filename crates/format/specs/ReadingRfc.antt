-- Document 02, T-01: the second reading of a header line, with parameters where RFC 3862 (section 3.6) puts them: the name up to the first
-- colon, untrimmed, then parameters, one space, and the value, untrimmed. Sections, lines and the content part are those of `read_with`.
-- Stricter than the RFC: quoted parameter values are refused (16). Laxer: names and parameter values are any UTF-8 that the validators let
-- pass, a parameter value may be empty, and controls may stand raw in a value. Assumes nothing.
use Rattle.std.specs.Prelude.{Bool, not, ◌||◌, List, [], ◌∷◌}
use Rattle.format.specs.Bytes.{Bytes, colon, semicolon, equals, space, begins, has, up_to, past, split}
use Rattle.format.specs.Escaping.{unescape_by}
use Rattle.format.specs.Refusals.{lacks_colon, param_lacks_equals, lacks_space, Out, accepted, refuse_if, ◌>>◌, ◌>>=◌}
use Rattle.format.specs.Validators.{header_name}
use Rattle.format.specs.Message.{Entry, Header, Message}
use Rattle.format.specs.Calls.{Stores, set_param}
use Rattle.format.specs.Reading.{each, checked_value, read_header, read_with}
use Rattle.format.specs.declared.Manner.{Manner}
use Rattle.format.specs.declared.Manner.TheVariants.{Source, Rfc}

-- 27 if it lacks `=`; else name and value at its first `=`, untrimmed, checked (12 to 16), then 21 even when replacing
unfoldable pub read_param_rfc : Bytes → List Entry → Out (List Entry)
read_param_rfc part ps = do
  refuse_if (not (has equals part)) param_lacks_equals
  set_param (up_to equals part) (past equals part) ps

-- 28: the byte after the colon is neither space nor `;`, or no space follows the colon
unfoldable pub misplaced : Bytes → Bool
misplaced right = not (begins (space ∷ []) right || begins (semicolon ∷ []) right) || not (has space right)

-- Behind the colon: parameters run from `;` to the first space and are parted at `;`, so what stands before the first `;` is empty. The value
-- is all that follows that space, unescaped (5), 10.
unfoldable pub read_right : Bytes → Bytes → Out Header
read_right name right = do
  refuse_if (misplaced right) lacks_space
  ps ← each read_param_rfc (split (semicolon ∷ []) (up_to space right)).rest []
  v ← checked_value (unescape_by Rfc (past space right))
  accepted (record { name = name; value = v; params = ps })

-- Header line: first colon or 4; the name's checks (6 to 9).
unfoldable pub read_header_rfc : Bytes → Out Header
read_header_rfc l = do
  refuse_if (not (has colon l)) lacks_colon
  header_name (up_to colon l)
  read_right (up_to colon l) (past colon l)

-- `parse_cpim_rfc`
abbrev pub read_rfc : Bytes → Stores → Out Message
read_rfc t stores = read_with read_header_rfc t stores

-- both readings of a header line
abbrev pub line_reader : Manner → Bytes → Out Header
line_reader Source = read_header
line_reader Rfc = read_header_rfc
