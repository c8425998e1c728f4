-- Reading a text up to its body: what its lines give, and where the body stands that is then judged by 23 and 26
-- (`lines_first` in proofs/BodyLast.antt: the two together are the definition of reading). Assumes nothing.
use Rattle.std.specs.Prelude.{ℕ, ◌≤◌, ◌≡◌, Bool, Result, Ok, Err, not, length, drop, if◌then◌else◌}
use Rattle.format.specs.Bytes.{Bytes, lf_lf_text, pieces, split, over}
use Rattle.format.specs.Limits.{max_text}
use Rattle.format.specs.Refusals.{no_message_cpim, Out, refuse_if, ◌>>◌, ◌>>=◌}
use Rattle.format.specs.Message.{Header, Message, need}
use Rattle.format.specs.Calls.{room}
use Rattle.format.specs.Reading.{each, lines, read_content_line, blank, says_cpim, text_parts, read_header_line}
use Rattle.format.specs.LookingUp.{stands_in_text}
use Rattle.sections.specs.Body.{body_parts, filled}
use Rattle.read_split.specs.TextJudged.{body_behind}
use Rattle.format.specs.Layout.{empty_message}
use Rattle.format.specs.declared.CpimMessage.{CpimMessage}
use Rattle.format.specs.declared.refusal.Refusal.{Refusal}
use Rattle.read.specs.declared.Lines.{Lines}
use Rattle.read.specs.Heads.{any_body}

-- the first three sections of a text, by any reader of a header line: 3, 25 carrying 256, headers, content headers
unfoldable pub read_sections : (Bytes → Out Header) → Bytes → Bytes → Bytes → ℕ → Out Message
read_sections reader mime headers contents head = do
  refuse_if (not (says_cpim mime)) no_message_cpim
  room head (need blank)
  m ← each (read_header_line reader (any_body head)) (lines headers) blank
  each (read_content_line (any_body head)) (lines contents) m

-- the sections of a text, if neither 1 nor 24 nor 2 applies
unfoldable pub read_lines_with : (Bytes → Out Header) → Bytes → ℕ → Out Message
read_lines_with reader t head = do
  p ← text_parts t
  read_sections reader p.mime p.headers p.contents head

-- the body b is what stands in the text t, which is within its limit, behind a place, or the sections there, joined
pub record BodyStands (t : Bytes) (crlf : Bool) (rest : ℕ) (b : Bytes) : Type 0 where
  pub short : length t ≤ max_text
  pub separated : crlf ≡ stands_in_text t
  pub within : rest ≤ length t
  pub behind : b ≡ body_behind crlf (drop rest t)

-- A store once the sections of such a body are joined over it, and once a body that stands in the text is copied there.
abbrev pub joined_over : Bool → Bytes → Bytes → Bytes
joined_over crlf s store = if crlf then store else filled 0 (body_parts (pieces (split lf_lf_text s))) store

abbrev pub copied_over : Bool → Bytes → Bytes → Bytes
copied_over crlf s store = if crlf then over s store else store

-- the record that reading the lines of a text leaves
abbrev pub lines_message : Result Lines Refusal → CpimMessage
lines_message (Ok l) = l.message
lines_message (Err r) = empty_message
