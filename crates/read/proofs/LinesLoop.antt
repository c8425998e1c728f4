-- The lines of a section, read one by one: what has been read so far is held, and the rest of the lines decides. Carried by the cut of a
-- line (`More`) and by what an accepted line leaves (`laid_holds`). Assumes nothing.
use Rattle.std.specs.Prelude.{Result, Ok, Err, None, Some}
use Rattle.std.specs.Prelude as std
use Rattle.std.specs.Result.{IsErrAnd, result_unwrap_or}
use Rattle.std.proofs.lemmas.Result.{err_from_is_err_and}
use Prim.Native.Nat.{ℕ, ◌+◌, ◌-◌, ◌≤◌, ◌<◌}
use mathlib.Core.Path.{◌≡◌, refl, sym, ap, subst, ◌∙◌}
use mathlib.Core.Bool.{Bool, true}
use mathlib.Core.List.{List, [], ◌∷◌}
use mathlib.Core.Option.{none}
use native.Mathlib.Omega.{arith}
use lib.ListN.{length, take, drop, length-drop}
use lib.Seq.{take-length}
use Rattle.format.specs.Bytes.{Bytes, all, pieces, split}
use Rattle.format.specs.Characters.{is_utf8}
use Rattle.format.specs.Refusals.{Refusal, Out, accepted, refused, numbers, table, ◌>>=◌}
use Rattle.format.specs.Message.{Message, valid}
use Rattle.format.specs.Calls.{Stores}
use Rattle.format.specs.Reading.{each, lines}
use Rattle.format.specs.Layout.{Lent, Holds}
use Rattle.format.specs.Lending.{head_lent, length_of, lengths, leaves}
use Rattle.format.specs.Told.{told, meant}
use Rattle.format.specs.declared.Numbers.{Numbers}
use Rattle.format.specs.declared.refusal.Refusal as code
use Rattle.format.specs.declared.CpimMessage.{CpimMessage}
use Rattle.format.proofs.Lists.{all_head, all_tail}
use Rattle.format.proofs.Steps.{accepted_same, refused_accepted, refused_number}
use Rattle.format.proofs.Messages.Layout.{laid_holds}
use Rattle.format.proofs.Texts.ReadValid.{lines_utf8}
use Rattle.store_check.specs.Holding.{message_holds}
use Rattle.store_check.proofs.MessageHeld.{holds_held}
use Rattle.message_edit.specs.Edits.{Does}
use Rattle.message_edit.proofs.MessageBounds.{held_in, holding}
use Rattle.sections.specs.declared.Piece.{Piece}
use Rattle.sections.specs.Cuts.{cut_of, line_end_for}
use Rattle.sections.proofs.Cutting.{by_next, rest_more, rest_last, rest_within, rest_whole}
use Rattle.sections.proofs.Sections.{line_end_long}
use Rattle.read.specs.SectionLines.{LinesRead}

-- an answer of 0 is accepted, any other is refused
pub zero_accepted : {A : Type 0} (o : Out A) (n : Numbers) → n ≡ numbers o → n.number ≡ 0 → (a : A) × (o ≡ accepted a)
unfolding numbers
zero_accepted (accepted a) n e z = (a, refl)
zero_accepted (refused r) n e z = absurd (refused_number r (ap (λ (x : Numbers). x.number) (sym e) ∙ z))

pub other_refused : {A : Type 0} (o : Out A) (n : Numbers) → n ≡ numbers o → (n.number ≡ 0 → ⊥) → (r : Refusal) × (o ≡ refused r)
unfolding numbers
other_refused (accepted a) n e z = absurd (z (ap (λ (x : Numbers). x.number) e))
other_refused (refused r) n e z = (r, refl)

-- One step after another, by what the first gives.
module _ (run : Bytes → Message → Out Message) (l : Bytes) (ls : List Bytes) (j : Message) where
  each_on : (i : Message) → run l j ≡ accepted i → each run (l ∷ ls) j ≡ each run ls i
  unfolding each ◌>>=◌
  each_on i h = rw h refl

  each_stops : (r : Refusal) → run l j ≡ refused r → each run (l ∷ ls) j ≡ refused r
  unfolding each ◌>>=◌
  each_stops r h = rw h refl

-- what an accepted line leaves is held
line_holds : (l k : Lent) (n : Numbers) (o : Out Message) (i : Message) → Does l k n o → o ≡ accepted i → valid i ≡ true → Holds k i
unfolding leaves
line_holds l k n o i d e v = subst (λ (x : Lent). Holds x i) (sym (d.left ∙ ap (leaves l) e)) (laid_holds l i v)

-- a line as a part of its section, and the same step for stores of the same lengths
pub does_same : (a b : Lent) (n : Numbers) (run : Stores → Bytes → Message → Out Message) (st sv : Stores) (l k : Bytes) → st ≡ sv → l ≡ k
    → ((j : Message) → Holds a j → Does a b n (run st l j)) → (j : Message) → Holds a j → Does a b n (run sv k j)
does_same a b n run st sv l k e f d j h =
    subst (λ (x : Stores). Does a b n (run x k j)) e (subst (λ (y : Bytes). Does a b n (run st y j)) f (d j h))

pub lengths_kept : (a b : CpimMessage) (s t : Bytes) → length s ≡ length t → lengths (head_lent a s) ≡ lengths (head_lent b t)
unfolding lengths
lengths_kept a b s t e = λ i. record { head = e i; body = length_of none }

-- the number of what is given, and of a refusal
pub ok_number : {A : Type 0} (x : A) → (told (Ok x)).number ≡ 0
unfolding told
ok_number x = refl

pub err_number : (A : Type 0) (e : code.Refusal) → (told {A = A} (Err e)).number ≡ 0 → ⊥
unfolding told
err_number A e z = refused_number (meant e) z

-- a refusal handed on by a `?`: the head store's bytes are free
pub refused_lines : {A : Type 0} (B : Type 0) (q : Result A code.Refusal) (e : code.Refusal) (k : Lent) {o : Out Message} → IsErrAnd q (λ d. d ≡ e) → told {A = B} (Err e) ≡ numbers o → LinesRead k (told q) o
unfolding told
refused_lines B q e k {o} s h =
    let p = err_from_is_err_and q s in
    let n : told q ≡ table (meant e) = ap told p.1 ∙ ap (λ (d : code.Refusal). table (meant d)) p.2 in
    let r = other_refused o (table (meant e)) h (refused_number (meant e)) in
    record { answered = n ∙ h; held = λ m x. refused_accepted r.0 m (sym r.1 ∙ x) }

-- the numbers of a refusal that a `?` handed on
pub err_told : {A : Type 0} (B : Type 0) (q : Result A code.Refusal) (e : code.Refusal) → IsErrAnd q (λ d. d ≡ e) → told q ≡ told {A = B} (Err e)
unfolding told
err_told B q e s = let p = err_from_is_err_and q s in ap told p.1 ∙ ap (λ (d : code.Refusal). table (meant d)) p.2

-- of a refusal the record is free
pub lines_default : (q : Result CpimMessage code.Refusal) (a b : CpimMessage) (head : Bytes) (o : Out Message) → LinesRead (head_lent (result_unwrap_or q a) head) (told q) o
    → LinesRead (head_lent (result_unwrap_or q b) head) (told q) o
lines_default (Ok x) a b head o d = d
lines_default (Err e) a b head o d =
    let r = other_refused o _ d.answered (err_number CpimMessage e) in
    record { answered = d.answered; held = λ m x. refused_accepted r.0 m (sym r.1 ∙ x) }

-- the lines behind the first, by the place behind it
others_of : Bool → Bytes → ℕ → std.Option ℕ → List Bytes
others_of crlf t at None = []
others_of crlf t at (Some n) = pieces (split (line_end_for crlf) (drop (at + n) t))

-- the first line of what is left of a section, and the others
module _ (crlf : Bool) (t : Bytes) (at : ℕ) (r : Piece) (e : r ≡ cut_of (line_end_for crlf) (take (length t - at) (drop at t))) where
  pub others : List Bytes
  others = others_of crlf t at r.next

  pub next_line : pieces (split (line_end_for crlf) (drop at t)) ≡ take r.end (drop at t) ∷ others
  unfolding others others_of
  next_line = by_next r.next last more
    where
      last : r.next ≡ None → pieces (split (line_end_for crlf) (drop at t)) ≡ take r.end (drop at t) ∷ others
      last h =
          let end : take r.end (drop at t) ≡ drop at t = ap (λ (n : ℕ). take n (drop at t)) (rest_whole (line_end_for crlf) t at r e h) ∙ take-length (drop at t) in
          rest_last (line_end_for crlf) t at r e h ∙ sym (ap (λ (l : Bytes). l ∷ []) end) ∙ ap (λ (o : std.Option ℕ). take r.end (drop at t) ∷ others_of crlf t at o) (sym h)

      more : (n : ℕ) → r.next ≡ Some n → pieces (split (line_end_for crlf) (drop at t)) ≡ take r.end (drop at t) ∷ others
      more n h =
          (rest_more (line_end_for crlf) t at r e n (line_end_long crlf) h).pieces_are
          ∙ ap (λ (o : std.Option ℕ). take r.end (drop at t) ∷ others_of crlf t at o) (sym h)

  pub no_others : r.next ≡ None → others ≡ []
  unfolding others others_of
  no_others h = ap (others_of crlf t at) h

  pub more_others : (n : ℕ) → r.next ≡ Some n → others ≡ pieces (split (line_end_for crlf) (drop (at + n) t))
  unfolding others others_of
  more_others n h = ap (others_of crlf t at) h

  pub end_within : at ≤ length t → at + r.end ≤ length t
  end_within h = omega (arith, length-drop at t, rest_within (line_end_for crlf) t at r e)

  pub next_within : at ≤ length t → (n : ℕ) → r.next ≡ Some n → (at + n ≤ length t) × (0 < n)
  next_within h n f =
      let m = rest_more (line_end_for crlf) t at r e n (line_end_long crlf) f in
      let l = line_end_long crlf in
      (omega (arith, length-drop at t, m.within), omega (arith, m.behind))

-- Lines of a section, ended by sep, from a place on; the message that was read so far is in the record now and the store head. `before`
-- and `store` are what the loop began with.
module _ (run : Bytes → Message → Out Message) (sep section : Bytes) (before : CpimMessage) (store : Bytes) where
  pub record SoFar (at : ℕ) (now : CpimMessage) (head : Bytes) : Type 0 where
    pub place : at ≤ length section
    pub kept : length head ≡ length store
    pub texts : all is_utf8 (pieces (split sep (drop at section))) ≡ true
    pub goes : (k : Message) → Holds (head_lent before store) k
        → (j : Message) × Holds (head_lent now head) j × (each run (lines section) k ≡ each run (pieces (split sep (drop at section))) j)

  pub so_far_start : lines section ≡ pieces (split sep section) → is_utf8 section ≡ true → SoFar 0 before store
  so_far_start e u =
      record {
        place = omega arith;
        kept = refl;
        texts = ap (all is_utf8) (sym e) ∙ lines_utf8 section u;
        goes = λ k h. (k, h, ap (λ (ls : List Bytes). each run ls k) e);
      }

  module _ (at : ℕ) (now : CpimMessage) (head : Bytes) (s : SoFar at now head) where
    pub still_held : message_holds before store ≡ true → message_holds now head ≡ true
    still_held h = let g = s.goes (held_in before store) (holding before store h) in holds_held (head_lent now head) g.0 g.1

    -- the next line, and the others
    module _ (line : Bytes) (ls : List Bytes) (cut : pieces (split sep (drop at section)) ≡ line ∷ ls) where
      pub line_utf8 : is_utf8 line ≡ true
      line_utf8 = all_head is_utf8 line ls (ap (all is_utf8) (sym cut) ∙ s.texts)

      others_utf8 : all is_utf8 ls ≡ true
      others_utf8 = all_tail is_utf8 line ls (ap (all is_utf8) (sym cut) ∙ s.texts)

      module _ (r : CpimMessage) (after : Bytes) (n : Numbers)
          (does : (j : Message) → Holds (head_lent now head) j → Does (head_lent now head) (head_lent r after) n (run line j)) where
        -- refused
        pub line_refused : (n.number ≡ 0 → ⊥) → (k : Message) → Holds (head_lent before store) k
            → LinesRead (head_lent r after) n (each run (lines section) k)
        unfolding numbers
        line_refused z k h =
            let g = s.goes k h in
            let d = does g.0 g.1 in
            let o = other_refused (run line g.0) n d.answered z in
            let whole : each run (lines section) k ≡ refused o.0 =
            g.2 ∙ ap (λ (x : List Bytes). each run x g.0) cut ∙ each_stops run line ls g.0 o.0 o.1 in
            record {
              answered = d.answered ∙ ap numbers o.1 ∙ sym (ap numbers whole);
              held = λ m e. refused_accepted o.0 m (sym whole ∙ e);
            }

        -- accepted, by a step that keeps a message within limits
        module _ (keeps : (l : Bytes) (m k : Message) → is_utf8 l ≡ true → valid m ≡ true → run l m ≡ accepted k → valid k ≡ true) (z : n.number ≡ 0) where
          line-accepted : (k : Message) → Holds (head_lent before store) k
              → (i : Message) × Holds (head_lent r after) i × (each run (lines section) k ≡ each run ls i) × (n ≡ numbers (accepted i))
          line-accepted k h =
              let g = s.goes k h in
              let d = does g.0 g.1 in
              let o = zero_accepted (run line g.0) n d.answered z in (
                o.0,
                line_holds (head_lent now head) (head_lent r after) n (run line g.0) o.0 d o.1 (keeps line g.0 o.0 line_utf8 g.1.within o.1),
                g.2 ∙ ap (λ (x : List Bytes). each run x g.0) cut ∙ each_on run line ls g.0 o.0 o.1,
                d.answered ∙ ap numbers o.1,
              )

          -- the last line
          pub line-last : ls ≡ [] → (k : Message) → Holds (head_lent before store) k → LinesRead (head_lent r after) n (each run (lines section) k)
          unfolding each
          line-last alone k h =
              let a = line-accepted k h in
              let whole : each run (lines section) k ≡ accepted a.0 = a.2 ∙ ap (λ (x : List Bytes). each run x a.0) alone in
              record {
                answered = a.3 ∙ sym (ap numbers whole);
                held = λ m e. subst (Holds (head_lent r after)) (accepted_same a.0 m (sym whole ∙ e)) a.1;
              }

          -- and one that others follow
          pub line-next : (next : ℕ) → next ≤ length section → length after ≡ length head → ls ≡ pieces (split sep (drop next section)) → SoFar next r after
          line-next next within long rest =
              record {
                place = within;
                kept = long ∙ s.kept;
                texts = ap (all is_utf8) (sym rest) ∙ others_utf8;
                goes = λ k h.
                    let a = line-accepted k h in
                    (a.0, a.1, a.2 ∙ ap (λ (x : List Bytes). each run x a.0) rest);
              }
