-- How the bytes of a value are written, a byte or a two-byte control at a time: what document 01, "Escaping", says of the characters
-- of a value, for any bytes. proofs/Units.antt has the law that says so. Assumes nothing.
use Rattle.std.specs.Prelude.{ℕ, ◌&&◌, [], ◌∷◌, eqb, if◌then◌else◌}
use Rattle.std.proofs.Math.Option.{Option, none, some}
use Rattle.format.specs.Bytes.{Bytes, backslash}
use Rattle.format.specs.Characters.{◌to◌, within, is_ascii_control}
use Rattle.format.specs.Escaping.{short_form, unicode_escape}
use Rattle.escape.specs.declared.forms.Form.{Form}
use Rattle.escape.specs.declared.forms.Form.TheVariants.{Raw, Short, Long, Upper}

-- a byte with no short form: an ASCII control as `\u`, any other as it is
abbrev pub long_byte : ℕ → Form
long_byte b = if is_ascii_control b then Long b else Raw b

-- the short form where there is one, else the long form
abbrev pub short_byte : Option ℕ → ℕ → Form
short_byte none b = long_byte b
short_byte (some c) b = Short c

-- a byte by itself
unfoldable pub byte_form : ℕ → Form
byte_form b = short_byte (short_form b) b

-- the first bytes of a text: C2 with 80 to 9F behind it is a control, and every other byte stands by itself
unfoldable pub form_of : Bytes → Form
form_of [] = Raw 0
form_of (b ∷ []) = byte_form b
form_of (b ∷ c ∷ t) = if eqb b 0xC2 && within c (0x80 to 0x9F) then Upper c else byte_form b

-- how many bytes a form is written for
abbrev pub takes_form : Form → ℕ
takes_form (Raw b) = 1
takes_form (Short c) = 1
takes_form (Long n) = 1
takes_form (Upper n) = 2

-- how many bytes it is written in
abbrev pub width_form : Form → ℕ
width_form (Raw b) = 1
width_form (Short c) = 2
width_form (Long n) = 6
width_form (Upper n) = 6

-- its bytes
abbrev pub written_form : Form → Bytes
written_form (Raw b) = b ∷ []
written_form (Short c) = backslash ∷ c ∷ []
written_form (Long n) = unicode_escape n
written_form (Upper n) = unicode_escape n
