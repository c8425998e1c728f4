-- The type's line and those of the content headers in the parts that are written one behind another. Assumes nothing.
use mathlib.Core.Path.{◌≡◌, ap}
use mathlib.Core.List.{[], ◌++◌, append_assoc, append-nil}
use Rattle.format.specs.Bytes.{Bytes, ascii, crlf_text}
use Rattle.format.specs.Writing.{type_line, ended}

-- a blank line, and the beginning of the type's
abbrev pub opening : Bytes
opening = crlf_text ++ ascii "Content-type: "

pub type_parts : (type lines : Bytes) → crlf_text ++ (ended (type_line type) ++ lines) ≡ opening ++ (type ++ (crlf_text ++ (lines ++ [])))
unfolding type_line
type_parts type lines = rw (append-nil lines) (ap (λ (x : Bytes). opening ++ x) (append_assoc type crlf_text lines))
