-- A call that is not lent the body store looks neither at that store's length nor at the body: on a message with another body it
-- answers the same, with that body. Assumes nothing.
use Prim.Native.Nat.{ℕ}
use mathlib.Core.Path.{◌≡◌, refl}
use mathlib.Core.Bool.{false}
use mathlib.Core.Option.{none, some}
use lib.ListN.{length}
use Rattle.format.specs.Bytes.{Bytes, ascii}
use Rattle.format.specs.Refusals.{Out, accepted, refused, numbers, Check, ◌>>◌, ◌>>=◌}
use Rattle.format.specs.Message.{LoneHeader, Header, Message, need}
use Rattle.format.specs.Calls.{Stores, room, if_room, with_body, header_set, append, header_obj_added, header_added, content_header_added, alone_of, add_param, ns_value, Call, set_body, set_header, add_header, add_header_obj, add_content_header, with_from, with_to, with_datetime, with_subject, with_subject_lang, with_cc, with_ns, with_require, with_content_header, change, answer, lends}
use Rattle.format.specs.Layout.{layout, record_of, Lent}
use Rattle.format.specs.Lending.{laid_in, leaves}
use Rattle.format.specs.Runs.{takes_body, is_body}
use Rattle.format.proofs.Lists.{clash}

-- The length of the body store.

-- the same head store, no body store
abbrev bare : ℕ → Stores
bare n = record { head = n; body = 0 }

change_bare : (c : Call) (st : Stores) (m : Message) → takes_body c ≡ false → change c st m ≡ change c (bare st.head) m
unfolding change header_set append header_obj_added header_added content_header_added is_body lends
change_bare (set_body b) st m h = clash refl h
change_bare (set_header n v) st m h = refl
change_bare (add_header n v) st m h = refl
change_bare (add_header_obj n none) st m h = refl
change_bare (add_header_obj n (some a)) st m h = refl
change_bare (add_content_header n v) st m h = refl
change_bare (with_from v) st m h = refl
change_bare (with_to v) st m h = refl
change_bare (with_datetime v) st m h = refl
change_bare (with_subject v) st m h = refl
change_bare (with_subject_lang v l) st m h = refl
change_bare (with_cc v) st m h = refl
change_bare (with_ns p u) st m h = refl
change_bare (with_require v) st m h = refl
change_bare (with_content_header n v) st m h = refl

pub answer_head : (c : Call) (st su : Stores) (m : Message) → takes_body c ≡ false → st.head ≡ su.head
    → answer c st (some m) ≡ answer c su (some m)
unfolding answer
answer_head c st su m h e = rw (change_bare c st m h, change_bare c su m h, e) refl

-- The body.

-- an answer with another body in its message
pub rebody : Bytes → Out Message → Out Message
rebody b (accepted m) = accepted (with_body m b)
rebody b (refused r) = refused r

module _ (b : Bytes) where
  then_rebody : (x : Check) (o : Out Message) → ◌>>◌ x (rebody b o) ≡ rebody b (◌>>◌ x o)
  unfolding rebody ◌>>◌
  then_rebody (accepted a) o = refl
  then_rebody (refused r) o = refl

  bind_rebody : {A : Type 0} (x : Out A) (f g : A → Out Message) → ((a : A) → f a ≡ rebody b (g a)) → ◌>>=◌ x f ≡ rebody b (◌>>=◌ x g)
  unfolding rebody ◌>>=◌
  bind_rebody (accepted a) f g h = h a
  bind_rebody (refused r) f g h = refl

  room_rebody : (store : ℕ) (m : Message) → if_room store (with_body m b) ≡ rebody b (if_room store m)
  unfolding if_room need rebody
  room_rebody store m = then_rebody (room store (need m)) (accepted m)

  module _ (st : Stores) (m : Message) where
    set_rebody : (n v : Bytes) → header_set n v st (with_body m b) ≡ rebody b (header_set n v st m)
    unfolding header_set
    set_rebody n v = simp (← then_rebody, ← room_rebody)

    append_rebody : (h : Header) → append h st (with_body m b) ≡ rebody b (append h st m)
    unfolding append
    append_rebody h = simp (← then_rebody, ← room_rebody)

    obj_rebody : (n : Bytes) (h : LoneHeader) → header_obj_added n h st (with_body m b) ≡ rebody b (header_obj_added n h st m)
    unfolding header_obj_added
    obj_rebody n h = simp (← then_rebody, ← append_rebody)

    add_rebody : (n v : Bytes) → header_added n v st (with_body m b) ≡ rebody b (header_added n v st m)
    unfolding header_added
    add_rebody n v = simp (← then_rebody, ← obj_rebody)

    content_rebody : (n v : Bytes) → content_header_added n v st (with_body m b) ≡ rebody b (content_header_added n v st m)
    unfolding content_header_added
    content_rebody n v = simp (← then_rebody, ← room_rebody)

    change_rebody : (c : Call) → takes_body c ≡ false → change c st (with_body m b) ≡ rebody b (change c st m)
    unfolding change is_body lends rebody
    change_rebody (set_body x) h = clash refl h
    change_rebody (set_header n v) h = set_rebody n v
    change_rebody (add_header n v) h = add_rebody n v
    change_rebody (add_header_obj n none) h = refl
    change_rebody (add_header_obj n (some a)) h = obj_rebody n a
    change_rebody (add_content_header n v) h = content_rebody n v
    change_rebody (with_from v) h = set_rebody (ascii "From") v
    change_rebody (with_to v) h = add_rebody (ascii "To") v
    change_rebody (with_datetime v) h = set_rebody (ascii "DateTime") v
    change_rebody (with_subject v) h = add_rebody (ascii "Subject") v
    change_rebody (with_subject_lang v l) h =
        bind_rebody (alone_of v) _ _ (λ a. bind_rebody (add_param (ascii "lang") l a) _ _ (λ k. obj_rebody (ascii "Subject") k))
    change_rebody (with_cc v) h = add_rebody (ascii "cc") v
    change_rebody (with_ns p u) h = add_rebody (ascii "NS") (ns_value p u)
    change_rebody (with_require v) h = add_rebody (ascii "Require") v
    change_rebody (with_content_header n v) h = content_rebody n v

    pub answer_rebody : (c : Call) → takes_body c ≡ false → answer c st (some (with_body m b)) ≡ rebody b (answer c st (some m))
    unfolding answer
    answer_rebody c h = rw (change_rebody c h) (simp then_rebody)

-- Such an answer has the same numbers, and leaves the same where no body store is lent and the body's length is the same.
pub rebody_numbers : (b : Bytes) (o : Out Message) → numbers (rebody b o) ≡ numbers o
unfolding rebody numbers
rebody_numbers b (accepted m) = refl
rebody_numbers b (refused r) = refl

pub rebody_leaves : (b : Bytes) (l : Lent) (o : Out Message) → l.body ≡ none → ((k : Message) → o ≡ accepted k → length k.body ≡ length b)
    → leaves l (rebody b o) ≡ leaves l o
unfolding rebody leaves laid_in layout record_of
rebody_leaves b l (accepted m) e f = rw (e, f m refl) refl
rebody_leaves b l (refused r) e f = refl
