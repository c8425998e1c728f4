-- Document 01, "The message and its calls": what a message is, when it is within limits and validators, and the room that it needs.
-- Assumes nothing.
use Rattle.std.specs.Prelude.{ℕ, ◌+◌, Bool, true, not, ◌&&◌, List, [], ◌∷◌, leb, length, if◌then◌else◌}
use Rattle.format.specs.Bytes.{Bytes, all, total, same, before}
use Rattle.format.specs.Characters.{is_utf8}
use Rattle.format.specs.Limits.{max_headers, max_params, max_contents, max_body}
use Rattle.format.specs.Refusals.{passes}
use Rattle.format.specs.Validators.{header_name, header_value, content_value, param_name, param_value, content_type}

-- A parameter, or a content header.
pub record Entry : Type 0 where
  pub name : Bytes
  pub value : Bytes

-- A header alone (the source's CpimHeader): a value and its parameter map.
pub record LoneHeader : Type 0 where
  pub value : Bytes
  pub params : List Entry

-- A header of a message.
pub record Header : Type 0 where
  pub name : Bytes
  pub value : Bytes
  pub params : List Entry

-- A message. The map from header name to a nonempty list of (value, parameter map) is one list here, by ascending name, the values of
-- one name in their order; it is determined by its lists for each name (proofs/Messages/Map.antt). The other maps are lists by ascending name.
-- Two messages are equal when these four are.
pub record Message : Type 0 where
  pub headers : List Header
  pub type : Bytes
  pub contents : List Entry
  pub body : Bytes

abbrev pub entry : Bytes → Bytes → Entry
entry n v = record { name = n; value = v }

abbrev pub named : Bytes → LoneHeader → Header
named n h = record { name = n; value = h.value; params = h.params }

abbrev pub alone : Header → LoneHeader
alone h = record { value = h.value; params = h.params }

abbrev pub entry_name : Entry → Bytes
entry_name e = e.name

abbrev pub name_of : Header → Bytes
name_of h = h.name

-- Maps run in byte order of their names: lists of elements with a key.
module _ {A : Type 0} (key : A → Bytes) where
  -- x behind all that do not come after it
  unfoldable pub insert : A → List A → List A
  insert x [] = x ∷ []
  insert x (y ∷ ys) = if before (key x) (key y) then x ∷ y ∷ ys else y ∷ insert x ys

  -- all but those of the name k
  unfoldable pub without : Bytes → List A → List A
  without k [] = []
  without k (y ∷ ys) = if same k (key y) then without k ys else y ∷ without k ys

  -- those of the name k
  unfoldable pub only : Bytes → List A → List A
  only k [] = []
  only k (y ∷ ys) = if same k (key y) then y ∷ only k ys else only k ys

  -- none comes before an earlier one
  unfoldable pub ascending : List A → Bool
  ascending [] = true
  ascending (x ∷ xs) = all (λ y. not (before (key y) (key x))) xs && ascending xs

  -- each comes before all later ones: ascending, and no name twice
  unfoldable pub increasing : List A → Bool
  increasing [] = true
  increasing (x ∷ xs) = all (λ y. before (key x) (key y)) xs && increasing xs

-- a map of parameters or content headers with the value of a name set
unfoldable pub put : Entry → List Entry → List Entry
put e es = insert entry_name e (without entry_name e.name es)

-- within limits and validators, every text UTF-8 but the body
unfoldable pub valid_param : Entry → Bool
valid_param e = passes (param_name e.name) && (passes (param_value e.value) && (is_utf8 e.name && is_utf8 e.value))

unfoldable pub valid_alone : LoneHeader → Bool
valid_alone h =
    passes (header_value h.value)
    && (is_utf8 h.value && (all valid_param h.params && (increasing entry_name h.params && leb (length h.params) max_params)))

unfoldable pub valid_header : Header → Bool
valid_header h = passes (header_name h.name) && (is_utf8 h.name && valid_alone (alone h))

unfoldable pub valid_content : Entry → Bool
valid_content e = passes (header_name e.name) && (passes (content_value e.value) && (is_utf8 e.name && is_utf8 e.value))

unfoldable pub valid_headers : List Header → Bool
valid_headers hs = all valid_header hs && (ascending name_of hs && leb (length hs) max_headers)

unfoldable pub valid_type : Bytes → Bool
valid_type t = passes (content_type t) && is_utf8 t

unfoldable pub valid_contents : List Entry → Bool
valid_contents es = all valid_content es && (increasing entry_name es && leb (length es) max_contents)

unfoldable pub valid : Message → Bool
valid m = valid_headers m.headers && (valid_type m.type && (valid_contents m.contents && leb (length m.body) max_body))

-- Room: 16 + name + value for a parameter or a content header.
unfoldable pub need_entry : Entry → ℕ
need_entry e = 16 + (length e.name + length e.value)

-- a header built alone: 16 + value plus its parameters
unfoldable pub need_alone : LoneHeader → ℕ
need_alone h = 16 + (length h.value + total need_entry h.params)

-- 16 + name + value for a header, and its parameters
unfoldable pub need_header : Header → ℕ
need_header h = length h.name + need_alone (alone h)

-- the head store: 256 bytes, plus the headers with their parameters, plus the content headers
unfoldable pub need : Message → ℕ
need m = 256 + (total need_header m.headers + total need_entry m.contents)
