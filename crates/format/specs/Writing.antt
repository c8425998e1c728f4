-- Document 01, "Writing", with header values as document 02, T-03, has them: the text T of a message. Assumes nothing.
use Rattle.std.specs.Prelude.{ℕ, ◌++◌, length}
use Rattle.std.proofs.Math.Option.{Option, none, some}
use Rattle.format.specs.Bytes.{Bytes, ascii, texts, crlf_text, over}
use Rattle.format.specs.Characters.{replaced}
use Rattle.format.specs.Escaping.{value_text}
use Rattle.format.specs.Refusals.{Out, accepted, refused, nothing_held, ◌>>◌}
use Rattle.format.specs.Message.{Entry, Header, Message}
use Rattle.format.specs.Calls.{enough}

-- `;` name `=` value
unfoldable pub param_text : Entry → Bytes
param_text e = ascii ";" ++ (e.name ++ (ascii "=" ++ e.value))

-- a header's line: name, `:`, the parameters, a space, the value as it is written
unfoldable pub header_line : Header → Bytes
header_line h = h.name ++ (ascii ":" ++ (texts param_text h.params ++ (ascii " " ++ value_text h.value)))

-- a content header's line: name, `: `, value
unfoldable pub content_line : Entry → Bytes
content_line e = e.name ++ (ascii ": " ++ e.value)

unfoldable pub type_line : Bytes → Bytes
type_line t = ascii "Content-type: " ++ t

abbrev pub first_line : Bytes
first_line = ascii "Content-type: Message/CPIM"

abbrev pub ended : Bytes → Bytes
ended l = l ++ crlf_text

-- T
unfoldable pub write : Message → Bytes
write m =
    ended first_line
    ++ (crlf_text
    ++ (texts (λ h. ended (header_line h)) m.headers
    ++ (crlf_text ++ (ended (type_line m.type) ++ (texts (λ e. ended (content_line e)) m.contents ++ (crlf_text ++ replaced m.body))))))

-- an answer's text at the start of an output, bytes past it as they were; a refused call writes nothing
unfoldable pub writes : Bytes → Out Bytes → Bytes
writes out (accepted t) = over t out
writes out (refused r) = out

-- `to_string`: only 25 carrying 0, then 26, can refuse
unfoldable pub to_text : Option Message → ℕ → Out Bytes
to_text none output = refused nothing_held
to_text (some m) output = do
  enough output (length (write m))
  accepted (write m)
