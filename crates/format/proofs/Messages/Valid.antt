-- Every call keeps a message within limits and validators: what a call puts in it has checked, and the order of names, the counts
-- and the rest stay. Assumes nothing.
use Prim.Native.Nat.{ℕ}
use mathlib.Core.Path.{◌≡◌, refl, ◌∙◌}
use mathlib.Core.Bool.{true}
use mathlib.Core.List.{List, [], ◌∷◌, ◌++◌}
use mathlib.Core.Option.{none, some}
use native.Mathlib.Omega.{arith}
use Rattle.format.specs.Bytes.{Bytes, ascii, all}
use Rattle.format.specs.Characters.{is_utf8}
use Rattle.format.specs.Refusals.{Out, accepted, refused, nothing_held}
use Rattle.format.specs.Message.{Entry, entry, LoneHeader, Header, name_of, named, Message, without, ascending, increasing, valid_alone, valid}
use Rattle.format.specs.Calls.{Stores, new, body_set, header_set, append, header_obj_added, header_added, content_header_added, alone_of, set_param, add_param, new_header, with_param, Call, set_body, set_header, add_header, add_header_obj, add_content_header, with_from, with_to, with_datetime, with_subject, with_subject_lang, with_cc, with_ns, with_require, with_content_header, arguments, ns_value, change, answer, lends}
use Rattle.format.specs.Demand3.{holds_header, next, after, header_valid}
use Rattle.format.proofs.Lists.{all_head, all_tail}
use Rattle.format.proofs.Characters.Chars.{utf8_append, utf8_ascii_text}
use Rattle.format.proofs.Steps.{refused_accepted, bind_accepted}
use Rattle.format.proofs.Messages.Keyed.{all_insert, all_without, length_insert, ascending_insert, ascending_without, all_put, increasing_put, length_put}
use Rattle.format.proofs.Messages.Accepted.{new_accepted, set_body_accepted, set_header_accepted, append_accepted, add_header_obj_accepted, add_header_accepted, add_content_header_accepted, alone_of_accepted, set_param_accepted, add_param_accepted, new_header_accepted, with_param_accepted, answer_accepted}
use Rattle.format.proofs.Messages.Parts.{Params, ByItself, Head, Within, param_whole, content_whole, alone_parts, alone_whole, header_whole_lem, message_parts, message_whole}

-- a list with no parameter
pub no_params : Params []
unfolding all increasing
no_params = record { each = refl; ordered = refl; few = omega arith }

pub new_valid : (t b : Bytes) (st : Stores) (m : Message) → new t b st ≡ accepted m → valid m ≡ true
unfolding all ascending increasing
new_valid t b st m h =
    let a = new_accepted t b st m h in
    rw a.0
    (message_whole _
    (record {
      headers = record { each = refl; ordered = refl; few = omega arith };
      type = record { passed = a.2; utf8 = a.1 };
      contents = record { each = refl; ordered = refl; few = omega arith };
      body = a.3;
    }))

-- The same of a message within limits that a call changes.
module _ (st : Stores) (m k : Message) (w : Within m) where
  pub set_body_within : (b : Bytes) → body_set b st m ≡ accepted k → Within k
  set_body_within b h =
      let a = set_body_accepted b st m k h in
      rw a.0 (record { headers = w.headers; type = w.type; contents = w.contents; body = a.1 })

  pub append_within : (a : Header) → Head a → append a st m ≡ accepted k → Within k
  append_within a p h =
      let q = append_accepted a st m k h in
      let hs = w.headers in
      rw q.0
      (record {
        headers = record {
          each = all_insert name_of _ a m.headers (header_whole_lem a p) hs.each;
          ordered = ascending_insert name_of a m.headers hs.ordered;
          few = omega (arith, length_insert name_of a m.headers);
        };
        type = w.type;
        contents = w.contents;
        body = w.body;
      })

  pub add_header_obj_within : (n : Bytes) (a : LoneHeader) → is_utf8 n ≡ true → ByItself a → header_obj_added n a st m ≡ accepted k → Within k
  add_header_obj_within n a u p h =
      let q = add_header_obj_accepted n a st m k h in
      append_within (named n a) (record { named = q.1; name_utf8 = u; rest = p }) q.0

  pub add_header_within : (n v : Bytes) → is_utf8 n ≡ true → is_utf8 v ≡ true → header_added n v st m ≡ accepted k → Within k
  add_header_within n v u w h =
      let q = add_header_accepted n v st m k h in
      add_header_obj_within n (record { value = v; params = [] }) u (record { valued = q.1; value_utf8 = w; params = no_params }) q.0

  pub set_header_within : (n v : Bytes) → is_utf8 n ≡ true → is_utf8 v ≡ true → header_set n v st m ≡ accepted k → Within k
  set_header_within n v u x h =
      let q = set_header_accepted n v st m k h in
      let hs = w.headers in
      let a : Header = record { name = n; value = v; params = [] } in
      let p : Head a = record { named = q.1; name_utf8 = u; rest = record { valued = q.3; value_utf8 = x; params = no_params } } in
      let others = without name_of n m.headers in
      rw q.0
      (record {
        headers = record {
          each = all_insert name_of _ a others (header_whole_lem a p) (all_without name_of _ n m.headers hs.each);
          ordered = ascending_insert name_of a others (ascending_without name_of n m.headers hs.ordered);
          few = omega (arith, length_insert name_of a others);
        };
        type = w.type;
        contents = w.contents;
        body = w.body;
      })

  pub add_content_header_within : (n v : Bytes) → is_utf8 n ≡ true → is_utf8 v ≡ true → content_header_added n v st m ≡ accepted k → Within k
  add_content_header_within n v u x h =
      let q = add_content_header_accepted n v st m k h in
      let es = w.contents in
      rw q.0
      (record {
        headers = w.headers;
        type = w.type;
        contents = record {
          each = all_put _ (entry n v) m.contents
              (content_whole (entry n v) (record { named = q.1; valued = q.2; name_utf8 = u; value_utf8 = x }))
              es.each;
          ordered = increasing_put (entry n v) m.contents es.ordered;
          few = omega (arith, length_put (entry n v) m.contents);
        };
        body = w.body;
      })

-- A header alone.
pub alone_of_within : (v : Bytes) (a : LoneHeader) → is_utf8 v ≡ true → alone_of v ≡ accepted a → ByItself a
alone_of_within v a u h =
    let q = alone_of_accepted v a h in
    rw q.0 (record { valued = q.1; value_utf8 = u; params = no_params })

pub set_param_within : (n v : Bytes) (ps qs : List Entry) → is_utf8 n ≡ true → is_utf8 v ≡ true → Params ps → set_param n v ps ≡ accepted qs → Params qs
set_param_within n v ps qs u x w h =
    let q = set_param_accepted n v ps qs h in
    rw q.0
    (record {
      each = all_put _ (entry n v) ps
          (param_whole (entry n v) (record { named = q.1; valued = q.2; name_utf8 = u; value_utf8 = x }))
          w.each;
      ordered = increasing_put (entry n v) ps w.ordered;
      few = omega (arith, length_put (entry n v) ps);
    })

pub add_param_within : (n v : Bytes) (a k : LoneHeader) → is_utf8 n ≡ true → is_utf8 v ≡ true → ByItself a → add_param n v a ≡ accepted k → ByItself k
add_param_within n v a k u x w h =
    let q = add_param_accepted n v a k h in
    rw q.2
    (record { valued = w.valued; value_utf8 = w.value_utf8; params = set_param_within n v a.params q.0 u x w.params q.1 })

pub new_header_valid : (v : Bytes) (store : ℕ) (k : LoneHeader) → new_header v store ≡ accepted k → valid_alone k ≡ true
new_header_valid v store k h =
    let q = new_header_accepted v store k h in
    alone_whole k (alone_of_within v k q.1 q.0)

pub with_param_valid : (n v : Bytes) (store : ℕ) (a k : LoneHeader) → valid_alone a ≡ true → with_param n v store (some a) ≡ accepted k → valid_alone k ≡ true
with_param_valid n v store a k w h =
    let q = with_param_accepted n v store a k h in
    alone_whole k (add_param_within n v a k q.1 q.2 (alone_parts a w) q.0)

-- the arguments of a call are UTF-8, and so is what `with_ns` makes of them
one : (s : Bytes) → all is_utf8 (s ∷ []) ≡ true → is_utf8 s ≡ true
one s h = all_head is_utf8 s [] h

first : (s t : Bytes) → all is_utf8 (s ∷ t ∷ []) ≡ true → is_utf8 s ≡ true
first s t h = all_head is_utf8 s (t ∷ []) h

second : (s t : Bytes) → all is_utf8 (s ∷ t ∷ []) ≡ true → is_utf8 t ≡ true
second s t h = one t (all_tail is_utf8 s (t ∷ []) h)

pub ns_utf8_lem : (p u : Bytes) → is_utf8 p ≡ true → is_utf8 u ≡ true → is_utf8 (ns_value p u) ≡ true
unfolding ns_value all
ns_utf8_lem p u h k =
    utf8_append p (ascii " <" ++ (u ++ ascii ">")) h
    ∙ utf8_append (ascii " <") (u ++ ascii ">") (utf8_ascii_text (ascii " <") refl)
    ∙ utf8_append u (ascii ">") k
    ∙ utf8_ascii_text (ascii ">") refl

subject_within : (v l : Bytes) (st : Stores) (m k : Message) → is_utf8 v ≡ true → is_utf8 l ≡ true → Within m
    → change (with_subject_lang v l) st m ≡ accepted k → Within k
unfolding change all
subject_within v l st m k x y w h =
    let a = bind_accepted _ _ _ h in
    let b = bind_accepted _ _ _ a.2 in
    let p = alone_of_within v a.0 x a.1 in
    let q = add_param_within (ascii "lang") l a.0 b.0 (utf8_ascii_text (ascii "lang") refl) y p b.1 in
    add_header_obj_within st m k w (ascii "Subject") b.0 (utf8_ascii_text (ascii "Subject") refl) q b.2

change_within : (c : Call) (st : Stores) (m k : Message) → holds_header c ≡ true → all is_utf8 (arguments c) ≡ true → Within m
    → change c st m ≡ accepted k → Within k
unfolding change arguments header_valid lends all
change_within (set_body b) st m k g u w h = set_body_within st m k w b h
change_within (set_header n v) st m k g u w h = set_header_within st m k w n v (first n v u) (second n v u) h
change_within (add_header n v) st m k g u w h = add_header_within st m k w n v (first n v u) (second n v u) h
change_within (add_header_obj n none) st m k g u w h = refused_accepted nothing_held k h
change_within (add_header_obj n (some a)) st m k g u w h = add_header_obj_within st m k w n a (one n u) (alone_parts a g) h
change_within (add_content_header n v) st m k g u w h = add_content_header_within st m k w n v (first n v u) (second n v u) h
change_within (with_from v) st m k g u w h = set_header_within st m k w (ascii "From") v (utf8_ascii_text (ascii "From") refl) (one v u) h
change_within (with_to v) st m k g u w h = add_header_within st m k w (ascii "To") v (utf8_ascii_text (ascii "To") refl) (one v u) h
change_within (with_datetime v) st m k g u w h = set_header_within st m k w (ascii "DateTime") v (utf8_ascii_text (ascii "DateTime") refl) (one v u) h
change_within (with_subject v) st m k g u w h = add_header_within st m k w (ascii "Subject") v (utf8_ascii_text (ascii "Subject") refl) (one v u) h
change_within (with_subject_lang v l) st m k g u w h = subject_within v l st m k (first v l u) (second v l u) w h
change_within (with_cc v) st m k g u w h = add_header_within st m k w (ascii "cc") v (utf8_ascii_text (ascii "cc") refl) (one v u) h
change_within (with_ns p v) st m k g u w h =
    add_header_within st m k w (ascii "NS") (ns_value p v) (utf8_ascii_text (ascii "NS") refl) (ns_utf8_lem p v (first p v u) (second p v u)) h
change_within (with_require v) st m k g u w h = add_header_within st m k w (ascii "Require") v (utf8_ascii_text (ascii "Require") refl) (one v u) h
change_within (with_content_header n v) st m k g u w h = add_content_header_within st m k w n v (first n v u) (second n v u) h

pub answer_valid : (c : Call) (st : Stores) (m k : Message) → holds_header c ≡ true → valid m ≡ true → answer c st (some m) ≡ accepted k
    → valid k ≡ true
answer_valid c st m k g v h =
    let a = answer_accepted c st m k h in
    message_whole k (change_within c st m k g a.1 (message_parts m v) a.0)

next_valid : (o : Out Message) (m : Message) → ((k : Message) → o ≡ accepted k → valid k ≡ true) → valid m ≡ true → valid (next o m) ≡ true
unfolding next
next_valid (accepted k) m f v = f k refl
next_valid (refused r) m f v = v

pub after_valid : (st : Stores) (m : Message) (cs : List Call) → all holds_header cs ≡ true → valid m ≡ true → valid (after st m cs) ≡ true
unfolding after
after_valid st m [] g v = v
after_valid st m (c ∷ cs) g v =
    after_valid st (next (answer c st (some m)) m) cs (all_tail holds_header c cs g)
    (next_valid (answer c st (some m)) m (λ k h. answer_valid c st m k (all_head holds_header c cs g) v h) v)
