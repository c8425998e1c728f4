-- A run of calls over lent stores holds the message that the calls define: what an accepted call lays into the stores is held in
-- stores of the same lengths. And every list of calls has a run from a state that holds a message. Assumes nothing.
use Prim.Native.Nat.{◌≤◌}
use mathlib.Core.Path.{◌≡◌, refl, sym, ap, ◌∙◌}
use mathlib.Core.Bool.{Bool, true, false}
use mathlib.Core.List.{List, [], ◌∷◌}
use mathlib.Core.Option.{Option, some}
use native.Mathlib.Omega.{arith}
use lib.ListN.{length, take}
use Rattle.format.specs.Bytes.{all, over}
use Rattle.format.specs.Refusals.{Out, accepted, refused, numbers}
use Rattle.format.specs.declared.Numbers.{Numbers}
use Rattle.format.specs.Message.{Message, need, valid}
use Rattle.format.specs.Calls.{Call, with_body, answer}
use Rattle.format.specs.Layout.{layout, record_of, Lent, Holds, Held, message, nothing}
use Rattle.format.specs.Lending.{length_of, lengths, laid_in, leaves, Changed}
use Rattle.format.specs.Runs.{State, takes_body, lend, Run, done, step}
use Rattle.format.specs.Demand3.{holds_header, next, after}
use Rattle.format.proofs.Lists.{all_head, all_tail}
use Rattle.format.proofs.Messages.Layout.{layout_length, over_length, over_same, taken, laid_holds}
use Rattle.format.proofs.Messages.Unique.{SameHead, holds_head_unique, holds_unique}
use Rattle.format.proofs.Messages.Valid.{answer_valid}
use Rattle.format.proofs.Messages.Room.{answer_room, answer_space, answer_body}
use Rattle.format.proofs.Messages.Handed.{ensured_changed, ensured_handed, changed_ensured}
use Rattle.format.proofs.Messages.WithoutBody.{answer_head, rebody, answer_rebody, rebody_numbers, rebody_leaves}

-- A state with a message laid into its stores.
laid_state : State → Message → State
laid_state s k = record { message = record_of k; head = over (layout k) s.head; body = over k.body s.body }

laid_lengths : (s : State) (k : Message) → valid k ≡ true → need k ≤ length s.head → length k.body ≤ length s.body
    → lengths (lend true (laid_state s k)) ≡ lengths (lend true s)
unfolding laid_state lengths length_of
laid_lengths s k v h b =
    rw (over_length (layout k) s.head (omega (arith, layout_length k v)), over_length k.body s.body b) refl

-- the room that a state which holds a message has for it
holds_room : (s : State) (m : Message) → Holds (lend true s) m → need m ≤ length s.head
holds_room s m h = taken (need m) (layout m) s.head h.laid (layout_length m h.within)

holds_space : (s : State) (m : Message) → Holds (lend true s) m → length m.body ≤ length s.body
holds_space s m h = taken (length m.body) m.body s.body h.stored refl

-- lent without its body store, a state holds what it holds with it
pub holds_head : (s : State) (m : Message) → Holds (lend true s) m → Holds (lend false s) m
holds_head s m h = record { within = h.within; recorded = h.recorded; laid = h.laid; stored = tt }

state_same : (s t : State) → s.message ≡ t.message → s.head ≡ t.head → s.body ≡ t.body → s ≡ t
state_same s t p q r = λ i. record { message = p i; head = q i; body = r i }

-- What one call leaves: the state as it was, or with the accepted message laid into it.
leaves_state : State → Out Message → State
leaves_state s (accepted k) = laid_state s k
leaves_state s (refused r) = s

some_same : {A : Type 0} (a b : A) → some a ≡ some b → a ≡ b
some_same a b h = cc

-- lent with the body store
left_with : (s t : State) (o : Out Message) → lend true t ≡ leaves (lend true s) o → t ≡ leaves_state s o
unfolding leaves laid_in leaves_state laid_state
left_with s t (accepted k) e =
    state_same t (laid_state s k) (ap (λ l. l.message) e) (ap (λ l. l.head) e) (some_same t.body (over k.body s.body) (ap (λ l. l.body) e))
left_with s t (refused r) e =
    state_same t s (ap (λ l. l.message) e) (ap (λ l. l.head) e) (some_same t.body s.body (ap (λ l. l.body) e))

-- lent without it, where the message keeps its body
left_without : (s t : State) (m : Message) (o : Out Message) → Holds (lend true s) m → ((k : Message) → o ≡ accepted k → k.body ≡ m.body)
    → t.body ≡ s.body → lend false t ≡ leaves (lend false s) o → t ≡ leaves_state s o
unfolding leaves laid_in leaves_state laid_state
left_without s t m (accepted k) h f b e =
    let there : take (length k.body) s.body ≡ k.body = rw (f k refl) h.stored in
    state_same t (laid_state s k) (ap (λ l. l.message) e) (ap (λ l. l.head) e) (b ∙ sym (over_same k.body s.body there))
left_without s t m (refused r) h f b e = state_same t s (ap (λ l. l.message) e) (ap (λ l. l.head) e) b

-- one call, by whether it is lent the body store
left : (c : Call) (s t : State) (m : Message) (n : Numbers) (b : Bool) → takes_body c ≡ b → Holds (lend true s) m
    → Changed c (lend b s) (lend b t) n → (b ≡ false → t.body ≡ s.body) → t ≡ leaves_state s (answer c (lengths (lend true s)) (some m))
unfolding lengths
left c s t m n true e h ch f = left_with s t (answer c (lengths (lend true s)) (some m)) (ch.left (some m) (message h))
left c s t m n false e h ch f =
    let same = answer_head c (lengths (lend false s)) (lengths (lend true s)) m e refl in
    left_without s t m (answer c (lengths (lend true s)) (some m)) h
    (λ k g. answer_body c (lengths (lend true s)) m k g e)
    (f refl)
    (ch.left (some m) (message (holds_head s m h)) ∙ ap (leaves (lend false s)) same)

-- What holds of a state that an answer leaves: it holds the next message, in stores of the same lengths.
record Goes (s t : State) (m : Message) : Type 0 where
  holds : Holds (lend true t) m
  lasting : lengths (lend true t) ≡ lengths (lend true s)

goes : (s : State) (m : Message) (o : Out Message) → Holds (lend true s) m
    → ((k : Message) → o ≡ accepted k → (valid k ≡ true) × (need k ≤ length s.head) × (length k.body ≤ length s.body))
    → Goes s (leaves_state s o) (next o m)
unfolding leaves_state laid_state laid_in next
goes s m (accepted k) h f =
    let a = f k refl in
    record { holds = laid_holds (lend true s) k a.0; lasting = laid_lengths s k a.0 a.1 a.2 }
goes s m (refused r) h f = record { holds = h; lasting = refl }

one_call : (c : Call) (s t : State) (m : Message) (n : Numbers) → holds_header c ≡ true → Holds (lend true s) m
    → Changed c (lend (takes_body c) s) (lend (takes_body c) t) n → (takes_body c ≡ false → t.body ≡ s.body)
    → Goes s t (next (answer c (lengths (lend true s)) (some m)) m)
unfolding lengths length_of
one_call c s t m n g h ch f =
    let st = lengths (lend true s) in
    rw (left c s t m n (takes_body c) refl h ch f)
    (goes s m (answer c st (some m)) h
    (λ k e. (
      answer_valid c st m k g h.within e,
      answer_room c st m k e (holds_room s m h),
      answer_space c st m k e (holds_space s m h),
    )))

pub run_held : (s t : State) (m : Message) (cs : List Call) → Holds (lend true s) m → Run s cs t
    → Holds (lend true t) (after (lengths (lend true s)) m cs)
unfolding after
run_held s t m cs h r = go r m h
  where
    go : {s : State} {cs : List Call} {t : State} → Run s cs t → (m : Message) → Holds (lend true s) m
        → Holds (lend true t) (after (lengths (lend true s)) m cs)
    go done m h = h
    go (step {c = c} {cs = cs} {s = s} {t = t} {u = u} n e f r) m h =
        let k = next (answer c (lengths (lend true s)) (some m)) m in
        let l = lend (takes_body c) s in
        let j = lend (takes_body c) t in
        let a = one_call c s t m n (ensured_handed c l j n e) h (ensured_changed c l j n e) f in
        rw a.lasting at (go r k a.holds)

-- From a state that holds a message every call has a step, to the state that its answer leaves. Changed speaks of every message held:
-- with the body store there is one; without it any other differs in the body's bytes alone, at which the call does not look.

leaves_with : (s : State) (o : Out Message) → lend true (leaves_state s o) ≡ leaves (lend true s) o
unfolding leaves laid_in leaves_state laid_state
leaves_with s (accepted k) = refl
leaves_with s (refused r) = refl

leaves_without : (s : State) (o : Out Message) → lend false (leaves_state s o) ≡ leaves (lend false s) o
unfolding leaves laid_in leaves_state laid_state
leaves_without s (accepted k) = refl
leaves_without s (refused r) = refl

-- the body store is left as it was where the message keeps its body
body_left : (s : State) (m : Message) (o : Out Message) → Holds (lend true s) m → ((k : Message) → o ≡ accepted k → k.body ≡ m.body)
    → (leaves_state s o).body ≡ s.body
unfolding leaves_state laid_state
body_left s m (accepted k) h f =
    let there : take (length k.body) s.body ≡ k.body = rw (f k refl) h.stored in
    over_same k.body s.body there
body_left s m (refused r) h f = refl

-- the answer to what else is held, where no body store is lent
other_answer : (c : Call) (s : State) (m k : Message) → takes_body c ≡ false → SameHead k m
    → answer c (lengths (lend false s)) (some k) ≡ rebody k.body (answer c (lengths (lend true s)) (some m))
unfolding lengths
other_answer c s m k e a =
    let bare = lengths (lend false s) in
    let alike : k ≡ with_body m k.body =
    λ i. record { headers = a.headers i; type = a.type i; contents = a.contents i; body = k.body } in
    ap (λ x. answer c bare (some x)) alike
    ∙ (answer_rebody k.body bare m c e ∙ ap (rebody k.body) (answer_head c bare (lengths (lend true s)) m e refl))

-- What Changed asks of one held: the numbers n and the state k that is left.
record Agrees (c : Call) (l k : Lent) (n : Numbers) (q : Option Message) : Type 0 where
  answered : n ≡ numbers (answer c (lengths l) q)
  left : k ≡ leaves l (answer c (lengths l) q)

module _ (c : Call) (s : State) (m : Message) (h : Holds (lend true s) m) where
  gives : Out Message
  gives = answer c (lengths (lend true s)) (some m)

  agrees : (b : Bool) → takes_body c ≡ b → {q : Option Message} → Held (lend b s) q
      → Agrees c (lend b s) (lend b (leaves_state s gives)) (numbers gives) q
  unfolding gives
  agrees true e (message {m = k} g) =
      rw (holds_unique (lend true s) s.body k m refl g h) (record { answered = refl; left = leaves_with s gives })
  agrees true e (nothing f) = absurd (f m h)
  agrees false e (message {m = k} g) =
      let a = holds_head_unique (lend false s) k m g (holds_head s m h) in
      let o = other_answer c s m k e a in
      let long : (x : Message) → gives ≡ accepted x → length x.body ≡ length k.body =
      λ x y. ap length (answer_body c (lengths (lend true s)) m x y e) ∙ sym a.body_length_lem in
      record {
        answered = sym (ap numbers o ∙ rebody_numbers k.body gives);
        left = leaves_without s gives ∙ sym (ap (leaves (lend false s)) o ∙ rebody_leaves k.body (lend false s) gives refl long);
      }
  agrees false e (nothing f) = absurd (f m (holds_head s m h))

  changed : Changed c (lend (takes_body c) s) (lend (takes_body c) (leaves_state s gives)) (numbers gives)
  changed =
      record {
        answered = λ q g. (agrees (takes_body c) refl g).answered;
        left = λ q g. (agrees (takes_body c) refl g).left;
      }

  body_stays : takes_body c ≡ false → (leaves_state s gives).body ≡ s.body
  unfolding gives
  body_stays e = body_left s m gives h (λ k g. answer_body c (lengths (lend true s)) m k g e)

pub runs_on : (s : State) (m : Message) → Holds (lend true s) m → (cs : List Call) → all holds_header cs ≡ true → (t : State) × Run s cs t
runs_on s m h [] g = (s, done)
runs_on s m h (c ∷ cs) g =
    let o = gives c s m h in
    let t = leaves_state s o in
    let ch = changed c s m h in
    let a = one_call c s t m (numbers o) (all_head holds_header c cs g) h ch (body_stays c s m h) in
    let r = runs_on t _ a.holds cs (all_tail holds_header c cs g) in
    let e = changed_ensured c (lend (takes_body c) s) (lend (takes_body c) t) (numbers o) (all_head holds_header c cs g) ch in
    (r.0, step {c = c} {s = s} {t = t} (numbers o) e (body_stays c s m h) r.1)
