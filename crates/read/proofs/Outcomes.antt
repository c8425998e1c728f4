-- One step of reading after another: the first refusal is the answer, and where all are accepted the message that the lines give is held,
-- by any reader of a header line. The body store plays no part. Assumes nothing.
use Prim.Native.Nat.{ℕ, ◌<◌, ◌≤◌}
use mathlib.Core.Path.{◌≡◌, refl, sym, ap, subst, ◌∙◌}
use mathlib.Core.Bool.{true, false, not}
use mathlib.Core.List.{List}
use native.Mathlib.Omega.{arith}
use Rattle.format.specs.Bytes.{Bytes}
use Rattle.format.specs.Refusals.{Refusal, no_message_cpim, table, Out, accepted, refused, numbers, Check, refuse_if, passes, ◌>>◌, ◌>>=◌}
use Rattle.format.specs.Message.{Header, Message, need}
use Rattle.format.specs.Calls.{Stores, room, append, content_header_added}
use Rattle.format.specs.Reading.{each, lines, read_named, read_content_line, blank, says_cpim, read_line, read_header_line, Parts, text_parts}
use Rattle.format.specs.Layout.{Lent}
use Rattle.format.specs.declared.Numbers.{Numbers}
use Rattle.format.proofs.Steps.{refused_accepted, refuse_unless_passed, then_passed, bind_passed}
use Rattle.format.proofs.Answers.{other_fails, then_refused, room_short, room_enough}
use Rattle.read.proofs.ReadStores.{blank_need}
use Rattle.read.proofs.LinesLoop.{other_refused}
use Rattle.read.specs.Heads.{any_body}
use Rattle.read.specs.SectionLines.{LinesRead}
use Rattle.read.specs.TextLines.{read_sections, read_lines_with}

module _ (k : Lent) (n : Numbers) where
  -- a check refuses, or passes
  module _ (x : Check) (o : Out Message) where
    by_refused : n ≡ numbers x → (n.number ≡ 0 → ⊥) → LinesRead k n (◌>>◌ x o)
    unfolding numbers
    by_refused e z =
        let r = then_refused x o (other_fails x n e z) in
        record { answered = e ∙ ap numbers r.1 ∙ sym (ap numbers r.2); held = λ m h. refused_accepted r.0 m (sym r.2 ∙ h) }

    by_passed : passes x ≡ true → LinesRead k n o → LinesRead k n (◌>>◌ x o)
    by_passed h d = subst (LinesRead k n) (sym (then_passed x o h)) d

  -- a step is refused, or hands on what it gives
  module _ {A : Type 0} (x : Out A) (f : A → Out Message) where
    pub by_stopped : n ≡ numbers x → (n.number ≡ 0 → ⊥) → LinesRead k n (◌>>=◌ x f)
    unfolding numbers ◌>>=◌
    by_stopped e z =
        let r = other_refused x n e z in
        let whole : ◌>>=◌ x f ≡ refused r.0 = ap (λ (y : Out A). ◌>>=◌ y f) r.1 in
        record { answered = e ∙ ap numbers r.1 ∙ sym (ap numbers whole); held = λ m h. refused_accepted r.0 m (sym whole ∙ h) }

    pub by_went : (a : A) → x ≡ accepted a → LinesRead k n (f a) → LinesRead k n (◌>>=◌ x f)
    by_went a e d = subst (LinesRead k n) (sym (bind_passed x f a e)) d

-- Lines do not ask for the length of the body store.
module _ (a b c : ℕ) (l : Bytes) (m : Message) where
  header_free : (reader : Bytes → Out Header) → read_header_line reader (record { head = a; body = b }) l m ≡ read_header_line reader (record { head = a; body = c }) l m
  unfolding read_header_line read_line append
  header_free reader = refl

  content_free : read_content_line (record { head = a; body = b }) l m ≡ read_content_line (record { head = a; body = c }) l m
  unfolding read_content_line read_named content_header_added
  content_free = refl

module _ (s t : Stores) (e : s.head ≡ t.head) (ls : List Bytes) (m : Message) where
  pub headers_same : (reader : Bytes → Out Header) → each (read_header_line reader s) ls m ≡ each (read_header_line reader t) ls m
  headers_same reader =
      ap (λ (i : ℕ). each (read_header_line reader (record { head = i; body = s.body })) ls m) e
      ∙ (λ i. each (λ l k. header_free t.head s.body t.body l k reader i) ls m)

  pub contents_same : each (read_content_line s) ls m ≡ each (read_content_line t) ls m
  contents_same =
      ap (λ (i : ℕ). each (read_content_line (record { head = i; body = s.body })) ls m) e
      ∙ (λ i. each (λ l k. content_free t.head s.body t.body l k i) ls m)

-- The first three sections: the ways out, in order.
module _ (reader : Bytes → Out Header) (mime headers contents : Bytes) (head : ℕ) (k : Lent) (n : Numbers) where
  -- 3
  pub no_cpim : n ≡ record { number = 3; carried = 0 } → says_cpim mime ≡ false → LinesRead k n (read_sections reader mime headers contents head)
  unfolding read_sections refuse_if numbers table
  no_cpim a h = by_refused k n (refuse_if (not (says_cpim mime)) no_message_cpim) _ (a ∙ rw h refl) (λ z. three (ap (λ (x : Numbers). x.number) (sym a) ∙ z))
    where
      three : ◌≡◌ {A = ℕ} 3 0 → ⊥
      three z = omega arith

  module _ (says : says_cpim mime ≡ true) where
    said : passes (refuse_if (not (says_cpim mime)) no_message_cpim) ≡ true
    said = refuse_unless_passed (says_cpim mime) no_message_cpim says

    -- 25 carrying 256
    pub no_room_lem : n ≡ record { number = 25; carried = 256 } → head < 256 → LinesRead k n (read_sections reader mime headers contents head)
    unfolding read_sections
    no_room_lem a h =
        by_passed k n (refuse_if (not (says_cpim mime)) no_message_cpim) _ said
        (by_refused k n (room head (need blank)) _
        (a ∙ room_short head 256 h (omega arith) ∙ ap (λ (i : ℕ). numbers (room head i)) (sym blank_need))
        (λ z. twenty_five (ap (λ (x : Numbers). x.number) (sym a) ∙ z)))
      where
        twenty_five : ◌≡◌ {A = ℕ} 25 0 → ⊥
        twenty_five z = omega arith

    module _ (roomy : 256 ≤ head) where
      lines_decide : LinesRead k n (◌>>=◌ (each (read_header_line reader (any_body head)) (lines headers) blank) (each (read_content_line (any_body head)) (lines contents)))
          → LinesRead k n (read_sections reader mime headers contents head)
      unfolding read_sections
      lines_decide d =
          by_passed k n (refuse_if (not (says_cpim mime)) no_message_cpim) _ said
          (by_passed k n (room head (need blank)) _ (ap (λ (i : ℕ). passes (room head i)) blank_need ∙ room_enough head 256 roomy) d)

      -- a header line is refused
      pub headers_stop : n ≡ numbers (each (read_header_line reader (any_body head)) (lines headers) blank) → (n.number ≡ 0 → ⊥)
          → LinesRead k n (read_sections reader mime headers contents head)
      headers_stop a z = lines_decide (by_stopped k n _ _ a z)

      -- the content lines decide
      pub contents_decide : (m : Message) → each (read_header_line reader (any_body head)) (lines headers) blank ≡ accepted m
          → LinesRead k n (each (read_content_line (any_body head)) (lines contents) m) → LinesRead k n (read_sections reader mime headers contents head)
      contents_decide m heads d = lines_decide (by_went k n _ _ m heads d)

-- a text that is refused
pub text_refused : (reader : Bytes → Out Header) (t : Bytes) (head : ℕ) (r : Refusal) → text_parts t ≡ refused r → read_lines_with reader t head ≡ refused r
unfolding read_lines_with ◌>>=◌
text_refused reader t head r h = ap (λ (o : Out Parts). ◌>>=◌ o (λ p. read_sections reader p.mime p.headers p.contents head)) h
