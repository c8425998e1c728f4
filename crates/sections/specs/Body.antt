-- The body of a text whose separator is LFLF, and the part of a store that each of its sections fills. Assumes nothing.
use Rattle.std.specs.Prelude.{ℕ, ◌+◌, Bool, true, false, List, [], ◌∷◌, ◌++◌, leb, length, if◌then◌else◌}
use Rattle.format.specs.Bytes.{Bytes, lf_lf_text, crlf_crlf_text, pieces, split, pasted}
use Rattle.format.specs.Reading.{body_of}

-- the pieces of a text between its LFLF, joined by CRLFCRLF
abbrev pub joined : Bytes → Bytes
joined t = body_of (pieces (split lf_lf_text t))

-- a section, with CRLFCRLF ahead of it where another stands before it
unfoldable pub led : Bool → Bytes → Bytes
led ahead s = if ahead then crlf_crlf_text ++ s else s

-- A part for each section. (The flag, whether another section stands before the first of these, is a device of the recursion: `body_parts` is
-- what T-05 speaks of.)
unfoldable pub parts_from : Bool → List Bytes → List Bytes
parts_from ahead [] = []
parts_from ahead (s ∷ ss) = led ahead s ∷ parts_from true ss

-- the parts of a body, one for each section
abbrev pub body_parts : List Bytes → List Bytes
body_parts ss = parts_from false ss

-- A store with parts laid over it one behind another, the first from the place at on, up to the first that does not fit.
unfoldable pub filled : ℕ → List Bytes → Bytes → Bytes
filled at [] d = d
filled at (p ∷ ps) d = if leb (at + length p) (length d) then filled (at + length p) ps (pasted at p d) else d
