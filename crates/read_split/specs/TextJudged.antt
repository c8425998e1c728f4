-- What reading makes of a text before it reads a line, by the cases of the answer. Assumes nothing.
use Rattle.std.specs.Prelude.{◌≤◌, ◌≡◌, Bool, true, length, Some, Result, Ok, Err}
use Rattle.format.specs.Bytes.{Bytes, pieces, split}
use Rattle.format.specs.Characters.{is_utf8}
use Rattle.format.specs.Limits.{max_text}
use Rattle.format.specs.Refusals.{refused}
use Rattle.format.specs.Reading.{body_of, text_parts}
use Rattle.format.specs.LookingUp.{stands_in_text}
use Rattle.format.specs.Told.{meant}
use Rattle.format.specs.declared.refusal.Refusal.{Refusal}
use Rattle.sections.specs.Cuts.{separator_for, places_of, parts_at}
use Rattle.read_split.specs.declared.Parted.{Parted}

-- Neither 1 nor 24 nor 2 applies: the separator, and where the sections stand.
pub record Stands (t : Bytes) (p : Parted) : Type 0 where
  pub short : length t ≤ max_text
  pub utf8 : is_utf8 t ≡ true
  pub separated : p.crlf ≡ stands_in_text t
  pub placed : Some p.places ≡ places_of (separator_for p.crlf) t
  pub parts : text_parts t ≡ parts_at (separator_for p.crlf) t (Some p.places)

-- what an answer says of a text
abbrev pub Judged : Bytes → Result Parted Refusal → Type 0
Judged t (Ok p) = Stands t p
Judged t (Err r) = text_parts t ≡ refused (meant r)

-- the body, by what stands behind the third separator
abbrev pub body_behind : Bool → Bytes → Bytes
body_behind crlf s = body_of (pieces (split (separator_for crlf) s))
