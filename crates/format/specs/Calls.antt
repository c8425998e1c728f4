-- Document 01, "The message and its calls": every call as a function of what is held, its arguments and the stores' lengths,
-- its checks in the order given there. Assumes nothing.
use Rattle.std.specs.Prelude.{ℕ, ◌+◌, not, List, [], ◌∷◌, ◌++◌, ltb, length}
use Rattle.std.proofs.Math.Option.{Option, none, some}
use Rattle.format.specs.Bytes.{Bytes, ascii, all}
use Rattle.format.specs.Characters.{is_utf8}
use Rattle.format.specs.Limits.{max_headers, max_params, max_contents, max_body}
use Rattle.format.specs.Refusals.{too_many_headers, too_many_params, too_many_contents, body_too_long, not_utf8, no_room, too_short, nothing_held, Out, accepted, refused, Check, pass, refuse_if, at_most, ◌>>◌, ◌>>=◌}
use Rattle.format.specs.Validators.{header_name, header_value, content_value, param_name, param_value, content_type, utf8}
use Rattle.format.specs.Message.{Entry, entry, LoneHeader, Header, name_of, named, Message, insert, without, put, need, need_alone}

-- The lengths of the stores lent to a call.
pub record Stores : Type 0 where
  pub head : ℕ
  pub body : ℕ

-- 25: the need exceeds the head or header store
unfoldable pub room : ℕ → ℕ → Check
room store n = refuse_if (ltb store n) (no_room n)

-- 26: the body store or the output is shorter than what it is to hold
unfoldable pub enough : ℕ → ℕ → Check
enough store n = refuse_if (ltb store n) (too_short n)

-- 23
unfoldable pub body_length : Bytes → Check
body_length b = at_most max_body body_too_long (length b)

-- 20, where n headers stand beside the one to come
unfoldable pub header_count : ℕ → Check
header_count n = at_most max_headers too_many_headers (n + 1)

-- 21, even when replacing: n parameters are there
unfoldable pub param_count : ℕ → Check
param_count n = at_most max_params too_many_params (n + 1)

-- 22, even when replacing: n content headers are there
unfoldable pub content_count : ℕ → Check
content_count n = at_most max_contents too_many_contents (n + 1)

-- accepted if the head store has room for the message: 25, last
unfoldable pub if_room : ℕ → Message → Out Message
if_room store m = do
  room store (need m)
  accepted m

-- the message with other headers, another type, other content headers, another body
abbrev pub with_headers : Message → List Header → Message
with_headers m hs = record { headers = hs; type = m.type; contents = m.contents; body = m.body }

abbrev pub with_type : Message → Bytes → Message
with_type m t = record { headers = m.headers; type = t; contents = m.contents; body = m.body }

abbrev pub with_contents : Message → List Entry → Message
with_contents m es = record { headers = m.headers; type = m.type; contents = es; body = m.body }

abbrev pub with_body : Message → Bytes → Message
with_body m b = record { headers = m.headers; type = m.type; contents = m.contents; body = b }

-- the message of a type and a body, with no entry
abbrev pub fresh : Bytes → Bytes → Message
fresh t b = record { headers = []; type = t; contents = []; body = b }

-- `new`: 24, type, 23, 25, then 26 if the body store is short
unfoldable pub new : Bytes → Bytes → Stores → Out Message
new t b stores = do
  utf8 t
  content_type t
  body_length b
  room stores.head (need (fresh t b))
  enough stores.body (length b)
  accepted (fresh t b)

-- `set_body`: 23, 26
unfoldable pub body_set : Bytes → Stores → Message → Out Message
body_set b stores m = do
  body_length b
  enough stores.body (length b)
  accepted (with_body m b)

-- `set_header`: name, 20 counted without what it replaces, value; it replaces every value
unfoldable pub header_set : Bytes → Bytes → Stores → Message → Out Message
header_set n v stores m = do
  header_name n
  header_count (length (without name_of n m.headers))
  header_value v
  if_room stores.head (with_headers m (insert name_of (record { name = n; value = v; params = [] }) (without name_of n m.headers)))

-- a header appended to its name's list: 20, then 25
unfoldable pub append : Header → Stores → Message → Out Message
append h stores m = do
  header_count (length m.headers)
  if_room stores.head (with_headers m (insert name_of h m.headers))

-- `add_header_obj`: name, 20; it appends
unfoldable pub header_obj_added : Bytes → LoneHeader → Stores → Message → Out Message
header_obj_added n h stores m = do
  header_name n
  append (named n h) stores m

-- `add_header`: value, name, 20; it appends
unfoldable pub header_added : Bytes → Bytes → Stores → Message → Out Message
header_added n v stores m = do
  header_value v
  header_obj_added n (record { value = v; params = [] }) stores m

-- `add_content_header`: name, value, 22 even when replacing
unfoldable pub content_header_added : Bytes → Bytes → Stores → Message → Out Message
content_header_added n v stores m = do
  header_name n
  content_value v
  content_count (length m.contents)
  if_room stores.head (with_contents m (put (entry n v) m.contents))

-- `CpimHeader::new` without a store: value
unfoldable pub alone_of : Bytes → Out LoneHeader
alone_of v = do
  header_value v
  accepted (record { value = v; params = [] })

-- a parameter set: name, value, 21 even when replacing
unfoldable pub set_param : Bytes → Bytes → List Entry → Out (List Entry)
set_param n v ps = do
  param_name n
  param_value v
  param_count (length ps)
  accepted (put (entry n v) ps)

-- `with_param` without a store
unfoldable pub add_param : Bytes → Bytes → LoneHeader → Out LoneHeader
add_param n v h = do
  ps ← set_param n v h.params
  accepted (record { value = h.value; params = ps })

-- accepted if the header store has room for the header: 25, last
unfoldable pub if_room_alone : ℕ → LoneHeader → Out LoneHeader
if_room_alone store h = do
  room store (need_alone h)
  accepted h

-- `CpimHeader::new`, with the length of the header store
unfoldable pub new_header : Bytes → ℕ → Out LoneHeader
new_header v store = do
  utf8 v
  h ← alone_of v
  if_room_alone store h

-- `with_param`, on what the header store holds
unfoldable pub with_param : Bytes → Bytes → ℕ → Option LoneHeader → Out LoneHeader
with_param n v store none = refused nothing_held
with_param n v store (some h) = do
  utf8 n
  utf8 v
  k ← add_param n v h
  if_room_alone store k

-- A changing call with its arguments; the header of `add_header_obj` counts as what it holds.
pub data Call : Type 0 where
  set_body : Bytes → Call
  set_header : Bytes → Bytes → Call
  add_header : Bytes → Bytes → Call
  add_header_obj : Bytes → Option LoneHeader → Call
  add_content_header : Bytes → Bytes → Call
  with_from : Bytes → Call
  with_to : Bytes → Call
  with_datetime : Bytes → Call
  with_subject : Bytes → Call
  with_subject_lang : Bytes → Bytes → Call
  with_cc : Bytes → Call
  with_ns : Bytes → Bytes → Call
  with_require : Bytes → Call
  with_content_header : Bytes → Bytes → Call

-- the arguments that have to be UTF-8: any but a body
unfoldable pub arguments : Call → List Bytes
arguments (set_body b) = []
arguments (set_header n v) = n ∷ v ∷ []
arguments (add_header n v) = n ∷ v ∷ []
arguments (add_header_obj n h) = n ∷ []
arguments (add_content_header n v) = n ∷ v ∷ []
arguments (with_from v) = v ∷ []
arguments (with_to v) = v ∷ []
arguments (with_datetime v) = v ∷ []
arguments (with_subject v) = v ∷ []
arguments (with_subject_lang v l) = v ∷ l ∷ []
arguments (with_cc v) = v ∷ []
arguments (with_ns p u) = p ∷ u ∷ []
arguments (with_require v) = v ∷ []
arguments (with_content_header n v) = n ∷ v ∷ []

-- the value of `with_ns`: prefix, space, `<`, uri, `>`
unfoldable pub ns_value : Bytes → Bytes → Bytes
ns_value p u = p ++ (ascii " <" ++ (u ++ ascii ">"))

-- what a call does to a message, its arguments being UTF-8
unfoldable pub change : Call → Stores → Message → Out Message
change (set_body b) stores m = body_set b stores m
change (set_header n v) stores m = header_set n v stores m
change (add_header n v) stores m = header_added n v stores m
change (add_header_obj n none) stores m = refused nothing_held
change (add_header_obj n (some h)) stores m = header_obj_added n h stores m
change (add_content_header n v) stores m = content_header_added n v stores m
change (with_from v) stores m = header_set (ascii "From") v stores m
change (with_to v) stores m = header_added (ascii "To") v stores m
change (with_datetime v) stores m = header_set (ascii "DateTime") v stores m
change (with_subject v) stores m = header_added (ascii "Subject") v stores m
change (with_subject_lang v l) stores m = do
  h ← alone_of v
  k ← add_param (ascii "lang") l h
  header_obj_added (ascii "Subject") k stores m
change (with_cc v) stores m = header_added (ascii "cc") v stores m
change (with_ns p u) stores m = header_added (ascii "NS") (ns_value p u) stores m
change (with_require v) stores m = header_added (ascii "Require") v stores m
change (with_content_header n v) stores m = content_header_added n v stores m

-- What a call is lent beside the head store: the body store, a header store (for a name, with what it holds), or nothing more.
pub data Lends : Type 0 where
  body_store : Lends
  header_store : Bytes → Option LoneHeader → Lends
  head_alone : Lends

unfoldable pub lends : Call → Lends
lends (set_body b) = body_store
lends (set_header n v) = head_alone
lends (add_header n v) = head_alone
lends (add_header_obj n h) = header_store n h
lends (add_content_header n v) = head_alone
lends (with_from v) = head_alone
lends (with_to v) = head_alone
lends (with_datetime v) = head_alone
lends (with_subject v) = head_alone
lends (with_subject_lang v l) = head_alone
lends (with_cc v) = head_alone
lends (with_ns p u) = head_alone
lends (with_require v) = head_alone
lends (with_content_header n v) = head_alone

-- 25 carrying 0 where a header is handed in that is not held
unfoldable pub header_held : Lends → Check
header_held body_store = pass
header_held (header_store n none) = refused nothing_held
header_held (header_store n (some h)) = pass
header_held head_alone = pass

abbrev pub handed_in : Call → Check
handed_in c = header_held (lends c)

-- the answer of a changing call to what is held: 25 carrying 0 first, then 24, then the call's own checks
unfoldable pub answer : Call → Stores → Option Message → Out Message
answer c stores none = refused nothing_held
answer c stores (some m) = do
  handed_in c
  refuse_if (not (all is_utf8 (arguments c))) not_utf8
  change c stores m
