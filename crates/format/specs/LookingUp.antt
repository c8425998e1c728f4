-- Document 01, "Looking up": what is held is a message, or nothing. Absent is a case of its own (`none`). Assumes nothing.
use Rattle.std.specs.Prelude.{ℕ, zero, suc, Bool, true, false, List, [], ◌∷◌, leb, eqb, length, take, if◌then◌else◌}
use Rattle.std.proofs.Math.Option.{Option, none, some}
use Rattle.format.specs.Bytes.{Bytes, total, has, up_to, occurs, quote, less_sign, greater_sign, backslash, crlf_crlf_text}
use Rattle.format.specs.Characters.{is_utf8}
use Rattle.format.specs.Refusals.{Out, accepted, refused, Check, pass, ◌>>◌, ◌>>=◌}
use Rattle.format.specs.Message.{Entry, LoneHeader, Header, name_of, Message, only}
use Rattle.format.specs.Calls.{enough, body_length}
use Rattle.format.specs.Writing.{writes}
use Rattle.format.specs.Reading.{text_parts}
use Rattle.format.specs.declared.Quoting.{Quoting}
use Rattle.format.specs.declared.Quoting.TheVariants.{Outside, Inside, Covered}

module _ {A : Type 0} where
  -- the n-th element, n counting from 0
  unfoldable pub nth : ℕ → List A → Option A
  nth n [] = none
  nth zero (x ∷ xs) = some x
  nth (suc n) (x ∷ xs) = nth n xs

  abbrev pub mapped : {B : Type 0} → (A → B) → Option A → Option B
  mapped f none = none
  mapped f (some a) = some (f a)

  -- what is read of what is held; absent where nothing is
  abbrev pub of_held : {B : Type 0} → Option A → (A → Option B) → Option B
  of_held none f = none
  of_held (some a) f = f a

  abbrev pub counted : Option A → (A → ℕ) → ℕ
  counted none f = 0
  counted (some a) f = f a

-- the n-th header of a name; absent for a name that is not UTF-8
unfoldable pub nth_header : Option Message → Bytes → ℕ → Option Header
nth_header held name n = of_held held (λ m. if is_utf8 name then nth n (only name_of name m.headers) else none)

-- `get_header_values`: the n-th value of a name
unfoldable pub get_header_value : Option Message → Bytes → ℕ → Option Bytes
get_header_value held name n = mapped (λ h. h.value) (nth_header held name n)

-- `get_header`: the first value of a name
unfoldable pub get_header : Option Message → Bytes → Option Bytes
get_header held name = get_header_value held name 0

-- the n-th parameter, in map order, of the k-th value of a name
unfoldable pub get_param : Option Message → Bytes → ℕ → ℕ → Option Entry
get_param held name k n = of_held (nth_header held name k) (λ h. nth n h.params)

-- the content type, the body, the n-th content header in map order
unfoldable pub get_type : Option Message → Option Bytes
get_type held = mapped (λ m. m.type) held

unfoldable pub get_body : Option Message → Option Bytes
get_body held = mapped (λ m. m.body) held

unfoldable pub get_content : Option Message → ℕ → Option Entry
get_content held n = of_held held (λ m. nth n m.contents)

-- of a header alone: its value and its n-th parameter in map order
unfoldable pub alone_value : Option LoneHeader → Option Bytes
alone_value held = mapped (λ h. h.value) held

unfoldable pub alone_param : Option LoneHeader → ℕ → Option Entry
alone_param held n = of_held held (λ h. nth n h.params)

-- how many headers, parameters of all headers, and content headers are held
unfoldable pub count_headers : Option Message → ℕ
count_headers held = counted held (λ m. length m.headers)

unfoldable pub count_params : Option Message → ℕ
count_params held = counted held (λ m. total (λ h. length h.params) m.headers)

unfoldable pub count_contents : Option Message → ℕ
count_contents held = counted held (λ m. length m.contents)

-- `body_as_str`: yes or no (no where nothing is held)
unfoldable pub body_as_str : Option Message → Bool
body_as_str none = false
body_as_str (some m) = is_utf8 m.body

-- the part of a value up to the next `>`, or none
unfoldable pub closed : Bytes → Option Bytes
closed s = if has greater_sign s then some (up_to greater_sign s) else none

-- whether a byte, by where it stands, is a `<` outside quoted strings
unfoldable pub opens : Quoting → ℕ → Bool
opens Outside b = eqb b less_sign
opens Inside b = false
opens Covered b = false

-- where the byte behind b stands: inside quotes a backslash covers it
unfoldable pub quoting_behind : Quoting → ℕ → Quoting
quoting_behind Outside b = if eqb b quote then Inside else Outside
quoting_behind Inside b = if eqb b backslash then Covered else if eqb b quote then Outside else Inside
quoting_behind Covered b = Inside

-- what stands behind the first `<` outside a quoted string, the first byte standing as told; none where there is no such `<`, so where a quote
-- is left unclosed
unfoldable pub past_opening : Quoting → Bytes → Option Bytes
past_opening q [] = none
past_opening q (b ∷ s) = if opens q b then some s else past_opening (quoting_behind q b) s

-- Address (T-02 of document 02): the part of a value between the first `<` outside a quoted string and the next `>`, or none.
unfoldable pub address : Bytes → Option Bytes
address v = of_held (past_opening Outside v) closed

-- Body without a store: 1, 24, 2, 23.
unfoldable pub body_of_text : Bytes → Out Bytes
body_of_text t = do
  p ← text_parts t
  body_length p.body
  accepted p.body

-- the body is part of the text under CRLFCRLF
unfoldable pub stands_in_text : Bytes → Bool
stands_in_text t = occurs crlf_crlf_text t

-- 26 under LFLF only
unfoldable pub buffer_for : Bool → ℕ → ℕ → Check
buffer_for true buffer n = pass
buffer_for false buffer n = enough buffer n

-- The first call refuses by 1, 24, 2, 23, 26, else gives the body, whose length it answers.
unfoldable pub find_body : Bytes → ℕ → Out Bytes
find_body t buffer = do
  b ← body_of_text t
  buffer_for (stands_in_text t) buffer (length b)
  accepted b

-- the length that the first call gives; 0 where it is refused
unfoldable pub body_length_of : Out Bytes → ℕ
body_length_of (accepted b) = length b
body_length_of (refused r) = 0

-- the buffer after the first call: under LFLF the body at its start, and no other byte changes
unfoldable pub buffer_after : Bytes → Bytes → Bytes
buffer_after t buffer = if stands_in_text t then buffer else writes buffer (find_body t (length buffer))

-- the part given by the second call
abbrev pub part_of : Out Bytes → Bool → Bytes → ℕ → Bytes
part_of (refused r) inside buffer n = []
part_of (accepted b) inside buffer n = if inside then b else if leb n (length buffer) then take n buffer else []

-- The second call: part of the text under CRLFCRLF, the buffer's first n bytes under LFLF; empty if 1, 24, 2 or 23 applies,
-- or under LFLF n exceeds the buffer.
unfoldable pub body_part : Bytes → Bytes → ℕ → Bytes
body_part t buffer n = part_of (body_of_text t) (stands_in_text t) buffer n
