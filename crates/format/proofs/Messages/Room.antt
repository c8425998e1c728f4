-- An accepted call leaves a message that fits its stores: `set_body` has asked for the body's room and a body does not count in
-- the need; every other call has asked for the need and leaves the body. Assumes nothing.
use Prim.Native.Nat.{◌≤◌}
use mathlib.Core.Path.{◌≡◌, refl, ap}
use mathlib.Core.Bool.{true, false}
use mathlib.Core.Logic.{◌⊎◌, inl, inr, ⊎_elim}
use mathlib.Core.List.{[]}
use mathlib.Core.Option.{none, some}
use native.Mathlib.Omega.{arith}
use lib.ListN.{length}
use Rattle.format.specs.Bytes.{Bytes, ascii}
use Rattle.format.specs.Refusals.{accepted, nothing_held}
use Rattle.format.specs.Message.{LoneHeader, named, Message, need}
use Rattle.format.specs.Calls.{Stores, body_set, header_obj_added, header_added, header_set, content_header_added, Call, set_body, set_header, add_header, add_header_obj, add_content_header, with_from, with_to, with_datetime, with_subject, with_subject_lang, with_cc, with_ns, with_require, with_content_header, ns_value, change, answer, lends}
use Rattle.format.specs.Runs.{takes_body, is_body}
use Rattle.format.proofs.Lists.{clash}
use Rattle.format.proofs.Steps.{refused_accepted, bind_accepted}
use Rattle.format.proofs.Messages.Accepted.{set_body_accepted, set_header_accepted, append_accepted, add_header_obj_accepted, add_header_accepted, add_content_header_accepted, answer_accepted}

-- The call was lent the body store and asked for the body's room.
record Stored (c : Call) (st : Stores) (m k : Message) : Type 0 where
  lent : takes_body c ≡ true
  fits : length k.body ≤ st.body
  rest : need k ≡ need m

-- The call asked for the need and left the body.
record Kept (st : Stores) (m k : Message) : Type 0 where
  fits : need k ≤ st.head
  rest : k.body ≡ m.body

module _ (st : Stores) (m k : Message) where
  stored : (b : Bytes) → body_set b st m ≡ accepted k → Stored (set_body b) st m k
  unfolding need is_body lends
  stored b h =
      let a = set_body_accepted b st m k h in
      record { lent = refl; fits = rw a.0 a.2; rest = rw a.0 refl }

  obj_kept : (n : Bytes) (a : LoneHeader) → header_obj_added n a st m ≡ accepted k → Kept st m k
  obj_kept n a h =
      let q = append_accepted (named n a) st m k (add_header_obj_accepted n a st m k h).0 in
      record { fits = q.2; rest = ap (λ x. x.body) q.0 }

  add_kept : (n v : Bytes) → header_added n v st m ≡ accepted k → Kept st m k
  add_kept n v h = obj_kept n (record { value = v; params = [] }) (add_header_accepted n v st m k h).0

  set_kept : (n v : Bytes) → header_set n v st m ≡ accepted k → Kept st m k
  set_kept n v h =
      let q = set_header_accepted n v st m k h in
      record { fits = q.4; rest = ap (λ x. x.body) q.0 }

  content_kept : (n v : Bytes) → content_header_added n v st m ≡ accepted k → Kept st m k
  content_kept n v h =
      let q = add_content_header_accepted n v st m k h in
      record { fits = q.4; rest = ap (λ x. x.body) q.0 }

  subject_kept : (v l : Bytes) → change (with_subject_lang v l) st m ≡ accepted k → Kept st m k
  unfolding change
  subject_kept v l h =
      let a = bind_accepted _ _ _ h in
      let b = bind_accepted _ _ _ a.2 in
      obj_kept (ascii "Subject") b.0 b.2

  change_kept : (c : Call) → change c st m ≡ accepted k → Stored c st m k ⊎ Kept st m k
  unfolding change
  change_kept (set_body b) h = inl (stored b h)
  change_kept (set_header n v) h = inr (set_kept n v h)
  change_kept (add_header n v) h = inr (add_kept n v h)
  change_kept (add_header_obj n none) h = refused_accepted nothing_held k h
  change_kept (add_header_obj n (some a)) h = inr (obj_kept n a h)
  change_kept (add_content_header n v) h = inr (content_kept n v h)
  change_kept (with_from v) h = inr (set_kept (ascii "From") v h)
  change_kept (with_to v) h = inr (add_kept (ascii "To") v h)
  change_kept (with_datetime v) h = inr (set_kept (ascii "DateTime") v h)
  change_kept (with_subject v) h = inr (add_kept (ascii "Subject") v h)
  change_kept (with_subject_lang v l) h = inr (subject_kept v l h)
  change_kept (with_cc v) h = inr (add_kept (ascii "cc") v h)
  change_kept (with_ns p u) h = inr (add_kept (ascii "NS") (ns_value p u) h)
  change_kept (with_require v) h = inr (add_kept (ascii "Require") v h)
  change_kept (with_content_header n v) h = inr (content_kept n v h)

module _ (c : Call) (st : Stores) (m k : Message) (h : answer c st (some m) ≡ accepted k) where
  answer_kept : Stored c st m k ⊎ Kept st m k
  answer_kept = change_kept st m k c (answer_accepted c st m k h).0

  pub answer_room : need m ≤ st.head → need k ≤ st.head
  answer_room r = ⊎_elim (λ s. omega (arith, s.rest)) (λ s. s.fits) answer_kept

  -- the same of the body store
  pub answer_space : length m.body ≤ st.body → length k.body ≤ st.body
  answer_space r = ⊎_elim (λ s. s.fits) (λ s. rw s.rest r) answer_kept

  -- a call that is not lent the body store leaves the body
  pub answer_body : takes_body c ≡ false → k.body ≡ m.body
  answer_body e = ⊎_elim (λ s. clash s.lent e) (λ s. s.rest) answer_kept
