-- Document 01, "Reading": a text read into a message, with the room of both stores. Assumes nothing.
use Rattle.std.specs.Prelude.{Bool, not, List, [], ◌∷◌, map, length, if◌then◌else◌}
use Rattle.std.proofs.Math.Option.{Option, none, some}
use Rattle.format.specs.Bytes.{is_empty, Bytes, ascii, colon, semicolon, equals, lf_text, crlf_text, lf_lf_text, crlf_crlf_text, occurs, has, up_to, past, lower, same_letters, Pieces, pieces, split, join}
use Rattle.format.specs.Characters.{trim}
use Rattle.format.specs.Escaping.{unescape}
use Rattle.format.specs.Limits.{max_text}
use Rattle.format.specs.Refusals.{text_too_long, too_few_sections, no_message_cpim, lacks_colon, bad_escape, Out, accepted, refused, refuse_if, at_most, ◌>>◌, ◌>>=◌}
use Rattle.format.specs.Validators.{header_name, header_value, content_type, utf8}
use Rattle.format.specs.Message.{Entry, Header, Message, need}
use Rattle.format.specs.Calls.{Stores, room, fresh, with_type, set_param, append, content_header_added, body_set}

-- one step for each element, in order, up to the first refusal
unfoldable pub each : {A B : Type 0} → (A → B → Out B) → List A → B → Out B
each step [] b = accepted b
each step (x ∷ xs) b = do
  c ← step x b
  each step xs c

-- The separator is CRLFCRLF if it occurs anywhere, else LFLF.
unfoldable pub separator : Bytes → Bytes
separator t = if occurs crlf_crlf_text t then crlf_crlf_text else lf_lf_text

-- the text split leftmost, without overlap
unfoldable pub sections : Bytes → List Bytes
sections t = pieces (split (separator t) t)

-- In either header section lines end in CRLF if the section has one, else LF.
unfoldable pub line_end : Bytes → Bytes
line_end s = if occurs crlf_text s then crlf_text else lf_text

unfoldable pub lines : Bytes → List Bytes
lines s = pieces (split (line_end s) s)

-- a part with `=` gives name and value, trimmed, checked, then 21 even when replacing; a part without `=` is skipped
unfoldable pub read_param : Bytes → List Entry → Out (List Entry)
read_param part ps = if has equals part then set_param (trim (up_to equals part)) (trim (past equals part)) ps else accepted ps

-- the value right of the colon: trimmed, unescaped (5), 10
unfoldable pub checked_value : Option Bytes → Out Bytes
checked_value none = refused bad_escape
checked_value (some v) = do
  header_value v
  accepted v

unfoldable pub read_value : Bytes → Out Bytes
read_value s = checked_value (unescape (trim s))

-- left of the colon, split at `;`: the name, trimmed and checked, then the parameters
unfoldable pub read_name_and_value : Pieces → Bytes → Out Header
read_name_and_value left right = do
  header_name (trim left.first)
  ps ← each read_param left.rest []
  v ← read_value right
  accepted (record { name = trim left.first; value = v; params = ps })

-- Header line: first colon or 4.
unfoldable pub read_header : Bytes → Out Header
read_header l = do
  refuse_if (not (has colon l)) lacks_colon
  read_name_and_value (split (semicolon ∷ []) (up_to colon l)) (past colon l)

-- sets the type; the last one wins
unfoldable pub read_type : Bytes → Message → Out Message
read_type v m = do
  content_type v
  accepted (with_type m v)

-- Content-type in any ASCII case sets the type; others: name, value, 22 even when replacing, 25
unfoldable pub read_named : Bytes → Bytes → Stores → Message → Out Message
read_named n v stores m = if same_letters (ascii "Content-type") n then read_type v m else content_header_added n v stores m

-- Content line: no colon, skipped. Name and value trimmed.
unfoldable pub read_content_line : Stores → Bytes → Message → Out Message
read_content_line stores l m = if has colon l then read_named (trim (up_to colon l)) (trim (past colon l)) stores m else accepted m

-- what reading starts from: `text/plain` if no line sets the type
abbrev pub blank : Message
blank = fresh (ascii "text/plain") []

-- 3: message/cpim in the first section, letters in any ASCII case
unfoldable pub says_cpim : Bytes → Bool
says_cpim s = occurs (ascii "message/cpim") (map lower s)

-- the sections from the fourth, joined by CRLFCRLF even for LFLF texts
unfoldable pub body_of : List Bytes → Bytes
body_of ss = join crlf_crlf_text ss

-- The parts of a text: the first three sections, and the body.
pub record Parts : Type 0 where
  pub mime : Bytes
  pub headers : Bytes
  pub contents : Bytes
  pub body : Bytes

-- 2: fewer than 4 sections
unfoldable pub parts_of : List Bytes → Out Parts
parts_of [] = refused too_few_sections
parts_of (a ∷ []) = refused too_few_sections
parts_of (a ∷ b ∷ []) = refused too_few_sections
parts_of (a ∷ b ∷ c ∷ []) = refused too_few_sections
parts_of (a ∷ b ∷ c ∷ d ∷ rest) = accepted (record { mime = a; headers = b; contents = c; body = body_of (d ∷ rest) })

-- 1, then 24, then 2
unfoldable pub text_parts : Bytes → Out Parts
text_parts t = do
  at_most max_text text_too_long (length t)
  utf8 t
  parts_of (sections t)

-- The rest asks only for some reader of a header line.
module _ (reader : Bytes → Out Header) where
  -- a header read is appended to its name's list: 20, then 25
  unfoldable pub read_line : Stores → Bytes → Message → Out Message
  read_line stores l m = do
    h ← reader l
    append h stores m

  -- a line of the header section; empty lines are skipped
  unfoldable pub read_header_line : Stores → Bytes → Message → Out Message
  read_header_line stores l m = if is_empty l then accepted m else read_line stores l m

  -- 3, 25 carrying 256 for a head store under 256 bytes, headers, content headers, body (23, then 26)
  unfoldable pub read_parts : Parts → Stores → Out Message
  read_parts p stores = do
    refuse_if (not (says_cpim p.mime)) no_message_cpim
    room stores.head (need blank)
    m ← each (read_header_line stores) (lines p.headers) blank
    k ← each (read_content_line stores) (lines p.contents) m
    body_set p.body stores k

  unfoldable pub read_with : Bytes → Stores → Out Message
  read_with t stores = do
    p ← text_parts t
    read_parts p stores

-- `parse_cpim`
abbrev pub read : Bytes → Stores → Out Message
read t stores = read_with read_header t stores
