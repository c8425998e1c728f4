-- By any reader of a header line, a reading is that of the text's lines and then that of its body: the same refusals in the same order, and
-- the same message. Assumes nothing.
use Prim.Native.Nat.{ℕ, ◌≤◌, ◌<◌}
use mathlib.Core.Path.{◌≡◌, refl, sym, ap, ◌∙◌}
use mathlib.Core.Bool.{not}
use native.Mathlib.Omega.{arith}
use lib.ListN.{length}
use borrow.Author.Tests.{lt-ltb}
use Rattle.format.specs.Bytes.{Bytes}
use Rattle.format.specs.Limits.{max_body}
use Rattle.format.specs.Refusals.{Refusal, no_message_cpim, body_too_long, too_short, Out, accepted, refused, Check, refuse_if, ◌>>◌, ◌>>=◌}
use Rattle.format.specs.Message.{Header, Message, need}
use Rattle.format.specs.Calls.{Stores, room, enough, body_length, body_set, with_body}
use Rattle.format.specs.Reading.{each, lines, read_content_line, blank, says_cpim, Parts, text_parts, read_parts, read_with}
use Rattle.format.proofs.Steps.{then_on, then_passed, bind_on, bind_passed}
use Rattle.format.proofs.Answers.{over_limit, space_enough}
use Rattle.read.proofs.ReadStores.{body_within}
use Rattle.read.specs.Heads.{any_body}
use Rattle.read.specs.TextLines.{read_sections, read_lines_with}
use Rattle.read.proofs.Outcomes.{headers_same, contents_same}

-- what follows a step alike follows it alike
bind_same : {A B : Type 0} (x : Out A) (f g : A → Out B) → ((a : A) → f a ≡ g a) → ◌>>=◌ x f ≡ ◌>>=◌ x g
bind_same x f g h = λ i. ◌>>=◌ x (λ a. h a i)

module _ (reader : Bytes → Out Header) (st : Stores) where
  -- the lines do not ask for the body store
  sections_first : (p : Parts) → read_parts reader p st ≡ ◌>>=◌ (read_sections reader p.mime p.headers p.contents st.head) (body_set p.body st)
  unfolding read_parts read_sections any_body
  sections_first p =
      ap (λ (x : Out Message). ◌>>◌ (refuse_if (not (says_cpim p.mime)) no_message_cpim) (◌>>◌ (room st.head (need blank)) x))
      (ap (λ (x : Out Message). ◌>>=◌ x (λ m. ◌>>=◌ (each (read_content_line st) (lines p.contents) m) (body_set p.body st)))
      (headers_same st (any_body st.head) refl (lines p.headers) blank reader)
      ∙ bind_same _ _ _ (λ m. ap (λ (x : Out Message). ◌>>=◌ x (body_set p.body st)) (contents_same st (any_body st.head) refl (lines p.contents) m))
      ∙ bind_on _ _ _)
      ∙ ap (λ (x : Out Message). ◌>>◌ (refuse_if (not (says_cpim p.mime)) no_message_cpim) x) (then_on (room st.head (need blank)) _ (body_set p.body st))
      ∙ then_on (refuse_if (not (says_cpim p.mime)) no_message_cpim) _ (body_set p.body st)

  -- the lines of a text whose parts are p, then its body
  pub lines_first : (t : Bytes) (p : Parts) → text_parts t ≡ accepted p → read_with reader t st ≡ ◌>>=◌ (read_lines_with reader t st.head) (body_set p.body st)
  unfolding read_with read_lines_with
  lines_first t p e =
      bind_passed (text_parts t) (λ q. read_parts reader q st) p e
      ∙ sections_first p
      ∙ sym (ap (λ (x : Out Message). ◌>>=◌ x (body_set p.body st)) (bind_passed (text_parts t) (λ q. read_sections reader q.mime q.headers q.contents st.head) p e))

  -- a refusal of the text or of its lines is the answer
  pub lines_refused : (t : Bytes) (r : Refusal) → read_lines_with reader t st.head ≡ refused r → read_with reader t st ≡ refused r
  unfolding read_with read_lines_with ◌>>=◌
  lines_refused t r h = by (text_parts t) h
    where
      by : (o : Out Parts) → ◌>>=◌ o (λ p. read_sections reader p.mime p.headers p.contents st.head) ≡ refused r → ◌>>=◌ o (λ p. read_parts reader p st) ≡ refused r
      by (accepted p) g = sections_first p ∙ ap (λ (x : Out Message). ◌>>=◌ x (body_set p.body st)) g
      by (refused q) g = g

-- The lines of a text whose parts are p give the message m; its body has n bytes.
module _ (reader : Bytes → Out Header) (st : Stores) (t : Bytes) (p : Parts) (e : text_parts t ≡ accepted p) (m : Message)
    (h : read_lines_with reader t st.head ≡ accepted m) (n : ℕ) (size : n ≡ length p.body) where
  body_decides : read_with reader t st ≡ ◌>>◌ (body_length p.body) (◌>>◌ (enough st.body (length p.body)) (accepted (with_body m p.body)))
  unfolding body_set
  body_decides = lines_first reader st t p e ∙ bind_passed (read_lines_with reader t st.head) (body_set p.body st) m h

  -- 23
  pub read_long : max_body < n → read_with reader t st ≡ refused (body_too_long n)
  unfolding body_length ◌>>◌
  read_long l =
      body_decides
      ∙ rw (← size) (ap (λ (c : Check). ◌>>◌ c (◌>>◌ (enough st.body n) (accepted (with_body m p.body)))) (over_limit max_body body_too_long n l))

  module _ (short : n ≤ max_body) where
    room_decides : read_with reader t st ≡ ◌>>◌ (enough st.body n) (accepted (with_body m p.body))
    room_decides = body_decides ∙ then_passed (body_length p.body) _ (body_within p.body (omega arith)) ∙ rw size refl

    -- 26
    pub read_short : st.body < n → read_with reader t st ≡ refused (too_short n)
    unfolding enough refuse_if ◌>>◌
    read_short l = room_decides ∙ rw (lt-ltb st.body n l) refl

    pub read_whole : n ≤ st.body → read_with reader t st ≡ accepted (with_body m p.body)
    read_whole l = room_decides ∙ then_passed (enough st.body n) _ (space_enough st.body n l)
