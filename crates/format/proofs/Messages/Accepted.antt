-- What an accepted call has passed, and what it gives: the calls of document 01 read backwards, once, so that no other proof
-- unfolds them. Assumes nothing.
use Prim.Native.Nat.{ℕ, suc, ◌+◌, ◌≤◌}
use mathlib.Core.Path.{◌≡◌, sym, ap, ◌∙◌}
use mathlib.Core.Bool.{true}
use mathlib.Core.List.{List, []}
use mathlib.Core.Option.{some}
use native.Mathlib.Omega.{arith}
use lib.ListN.{length}
use borrow.Author.Tests.{ltb-false}
use Rattle.format.specs.Bytes.{Bytes, all}
use Rattle.format.specs.Characters.{is_utf8}
use Rattle.format.specs.Limits.{max_headers, max_params, max_contents, max_body}
use Rattle.format.specs.Refusals.{body_too_long, too_many_headers, too_many_params, too_many_contents, not_utf8, accepted, passes}
use Rattle.format.specs.Validators.{header_name, header_value, content_value, param_name, param_value, content_type, utf8}
use Rattle.format.specs.Message.{Entry, entry, LoneHeader, Header, name_of, named, Message, insert, without, put, need, need_alone}
use Rattle.format.specs.Calls
use Rattle.format.specs.Calls.{Stores, room, body_length, header_count, param_count, content_count, if_room, with_headers, with_contents, with_body, fresh, new, body_set, header_set, append, header_obj_added, header_added, content_header_added, alone_of, set_param, add_param, if_room_alone, new_header, with_param, Call, arguments, change, answer}
use Rattle.format.proofs.Steps.{accepted_same, then_accepted, bind_accepted, refuse_if_passes, refuse_unless_passes, at_most_passes}

-- the checks of calls

pub room_passes : (store n : ℕ) → passes (room store n) ≡ true → n ≤ store
unfolding room
room_passes store n h = ltb-false store n (refuse_if_passes _ _ h)

pub space_passes : (store n : ℕ) → passes (Calls.enough store n) ≡ true → n ≤ store
unfolding Calls.enough
space_passes store n h = ltb-false store n (refuse_if_passes _ _ h)

pub body_length_passes : (b : Bytes) → passes (body_length b) ≡ true → length b ≤ max_body
unfolding body_length
body_length_passes b h = at_most_passes max_body body_too_long (length b) h

pub header_count_passes : (n : ℕ) → passes (header_count n) ≡ true → suc n ≤ max_headers
unfolding header_count
header_count_passes n h = omega (arith, at_most_passes max_headers too_many_headers (n + 1) h)

pub param_count_passes : (n : ℕ) → passes (param_count n) ≡ true → suc n ≤ max_params
unfolding param_count
param_count_passes n h = omega (arith, at_most_passes max_params too_many_params (n + 1) h)

pub content_count_passes : (n : ℕ) → passes (content_count n) ≡ true → suc n ≤ max_contents
unfolding content_count
content_count_passes n h = omega (arith, at_most_passes max_contents too_many_contents (n + 1) h)

pub utf8_passes : (s : Bytes) → passes (utf8 s) ≡ true → is_utf8 s ≡ true
unfolding utf8
utf8_passes s h = refuse_unless_passes (is_utf8 s) not_utf8 h

pub if_room_accepted : (store : ℕ) (m k : Message) → if_room store m ≡ accepted k → (m ≡ k) × (need k ≤ store)
unfolding if_room
if_room_accepted store m k h =
    let a = then_accepted _ _ _ h in
    let e = accepted_same m k a.0 in
    (e, rw (← e) (room_passes store (need m) a.1))

-- the calls

pub new_accepted : (t b : Bytes) (st : Stores) (m : Message) → new t b st ≡ accepted m
    → (m ≡ fresh t b) × (is_utf8 t ≡ true) × (passes (content_type t) ≡ true) × (length b ≤ max_body) × (need m ≤ st.head) × (length b ≤ st.body)
unfolding new
new_accepted t b st m h =
    let h1 = then_accepted _ _ _ h in
    let h2 = then_accepted _ _ _ h1.0 in
    let h3 = then_accepted _ _ _ h2.0 in
    let h4 = then_accepted _ _ _ h3.0 in
    let h5 = then_accepted _ _ _ h4.0 in
    let e = accepted_same (fresh t b) m h5.0 in (
      sym e,
      utf8_passes t h1.1,
      h2.1,
      body_length_passes b h3.1,
      rw (← e) (room_passes st.head (need (fresh t b)) h4.1),
      space_passes st.body (length b) h5.1,
    )

pub set_body_accepted : (b : Bytes) (st : Stores) (m k : Message) → body_set b st m ≡ accepted k
    → (k ≡ with_body m b) × (length b ≤ max_body) × (length b ≤ st.body)
unfolding body_set
set_body_accepted b st m k h =
    let h1 = then_accepted _ _ _ h in
    let h2 = then_accepted _ _ _ h1.0 in
    (sym (accepted_same (with_body m b) k h2.0), body_length_passes b h1.1, space_passes st.body (length b) h2.1)

pub set_header_accepted : (n v : Bytes) (st : Stores) (m k : Message) → header_set n v st m ≡ accepted k
    → (k ≡ with_headers m (insert name_of (record { name = n; value = v; params = [] }) (without name_of n m.headers)))
    × (passes (header_name n) ≡ true)
    × (suc (length (without name_of n m.headers)) ≤ max_headers)
    × (passes (header_value v) ≡ true)
    × (need k ≤ st.head)
unfolding header_set
set_header_accepted n v st m k h =
    let h1 = then_accepted _ _ _ h in
    let h2 = then_accepted _ _ _ h1.0 in
    let h3 = then_accepted _ _ _ h2.0 in
    let r = if_room_accepted _ _ _ h3.0 in
    (sym r.0, h1.1, header_count_passes (length (without name_of n m.headers)) h2.1, h3.1, r.1)

pub append_accepted : (a : Header) (st : Stores) (m k : Message) → append a st m ≡ accepted k
    → (k ≡ with_headers m (insert name_of a m.headers)) × (suc (length m.headers) ≤ max_headers) × (need k ≤ st.head)
unfolding append
append_accepted a st m k h =
    let h1 = then_accepted _ _ _ h in
    let r = if_room_accepted _ _ _ h1.0 in
    (sym r.0, header_count_passes (length m.headers) h1.1, r.1)

pub add_header_obj_accepted : (n : Bytes) (a : LoneHeader) (st : Stores) (m k : Message) → header_obj_added n a st m ≡ accepted k
    → (append (named n a) st m ≡ accepted k) × (passes (header_name n) ≡ true)
unfolding header_obj_added
add_header_obj_accepted n a st m k h = then_accepted _ _ _ h

pub add_header_accepted : (n v : Bytes) (st : Stores) (m k : Message) → header_added n v st m ≡ accepted k
    → (header_obj_added n (record { value = v; params = [] }) st m ≡ accepted k) × (passes (header_value v) ≡ true)
unfolding header_added
add_header_accepted n v st m k h = then_accepted _ _ _ h

pub add_content_header_accepted : (n v : Bytes) (st : Stores) (m k : Message) → content_header_added n v st m ≡ accepted k
    → (k ≡ with_contents m (put (entry n v) m.contents))
    × (passes (header_name n) ≡ true)
    × (passes (content_value v) ≡ true)
    × (suc (length m.contents) ≤ max_contents)
    × (need k ≤ st.head)
unfolding content_header_added
add_content_header_accepted n v st m k h =
    let h1 = then_accepted _ _ _ h in
    let h2 = then_accepted _ _ _ h1.0 in
    let h3 = then_accepted _ _ _ h2.0 in
    let r = if_room_accepted _ _ _ h3.0 in
    (sym r.0, h1.1, h2.1, content_count_passes (length m.contents) h3.1, r.1)

pub alone_of_accepted : (v : Bytes) (a : LoneHeader) → alone_of v ≡ accepted a → (a ≡ record { value = v; params = [] }) × (passes (header_value v) ≡ true)
unfolding alone_of
alone_of_accepted v a h =
    let h1 = then_accepted _ _ _ h in
    (sym (accepted_same _ a h1.0), h1.1)

pub set_param_accepted : (n v : Bytes) (ps qs : List Entry) → set_param n v ps ≡ accepted qs
    → (qs ≡ put (entry n v) ps) × (passes (param_name n) ≡ true) × (passes (param_value v) ≡ true) × (suc (length ps) ≤ max_params)
unfolding set_param
set_param_accepted n v ps qs h =
    let h1 = then_accepted _ _ _ h in
    let h2 = then_accepted _ _ _ h1.0 in
    let h3 = then_accepted _ _ _ h2.0 in
    (sym (accepted_same _ qs h3.0), h1.1, h2.1, param_count_passes (length ps) h3.1)

pub add_param_accepted : (n v : Bytes) (a k : LoneHeader) → add_param n v a ≡ accepted k
    → (qs : List Entry) × (set_param n v a.params ≡ accepted qs) × (k ≡ record { value = a.value; params = qs })
unfolding add_param
add_param_accepted n v a k h =
    let h1 = bind_accepted _ _ _ h in
    (h1.0, h1.1, sym (accepted_same _ k h1.2))

pub if_room_alone_accepted : (store : ℕ) (a k : LoneHeader) → if_room_alone store a ≡ accepted k → (a ≡ k) × (need_alone k ≤ store)
unfolding if_room_alone
if_room_alone_accepted store a k h =
    let h1 = then_accepted _ _ _ h in
    let e = accepted_same a k h1.0 in
    (e, rw (← e) (room_passes store (need_alone a) h1.1))

pub new_header_accepted : (v : Bytes) (store : ℕ) (k : LoneHeader) → new_header v store ≡ accepted k
    → (alone_of v ≡ accepted k) × (is_utf8 v ≡ true) × (need_alone k ≤ store)
unfolding new_header
new_header_accepted v store k h =
    let h1 = then_accepted _ _ _ h in
    let h2 = bind_accepted _ _ _ h1.0 in
    let r = if_room_alone_accepted store h2.0 k h2.2 in
    (h2.1 ∙ ap accepted r.0, utf8_passes v h1.1, r.1)

pub with_param_accepted : (n v : Bytes) (store : ℕ) (a k : LoneHeader) → with_param n v store (some a) ≡ accepted k
    → (add_param n v a ≡ accepted k) × (is_utf8 n ≡ true) × (is_utf8 v ≡ true) × (need_alone k ≤ store)
unfolding with_param
with_param_accepted n v store a k h =
    let h1 = then_accepted _ _ _ h in
    let h2 = then_accepted _ _ _ h1.0 in
    let h3 = bind_accepted _ _ _ h2.0 in
    let r = if_room_alone_accepted store h3.0 k h3.2 in
    (h3.1 ∙ ap accepted r.0, utf8_passes n h1.1, utf8_passes v h2.1, r.1)

pub answer_accepted : (c : Call) (st : Stores) (m k : Message) → answer c st (some m) ≡ accepted k
    → (change c st m ≡ accepted k) × (all is_utf8 (arguments c) ≡ true)
unfolding answer
answer_accepted c st m k h =
    let h1 = then_accepted _ _ _ h in
    let h2 = then_accepted _ _ _ h1.0 in
    (h2.0, refuse_unless_passes (all is_utf8 (arguments c)) not_utf8 h2.1)
