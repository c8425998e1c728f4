-- What is told of a clause, of a loss and of an input, by how each goes. Assumes nothing.
use Prim.Native.Nat.{ℕ, ◌≤◌, ◌<◌}
use mathlib.Core.Path.{◌≡◌, refl, sym, ap, ◌∙◌}
use mathlib.Core.Bool.{true, false}
use mathlib.Core.List.{[], ◌∷◌, ◌++◌, append_assoc}
use mathlib.Core.Option.{Option, some}
use native.Mathlib.Omega.{arith}
use lib.ListN.{length}
use borrow.Author.Tests.{eq-eqb, ne_eqb, lt-leb, le-leb}
use Rattle.format.specs.Bytes.{Bytes, ascii, lf_text, lf}
use Rattle.format.specs.Refusals.{Out, table}
use Rattle.format.specs.Message.{Message, name_of, entry_name}
use Rattle.format.specs.Layout.{Lent, Held, message, empty_message}
use Rattle.format.specs.Lending.{both_lent, Parsed}
use Rattle.format.specs.LookingUp.{nth, mapped}
use Rattle.format.specs.declared.Numbers.{Numbers}
use Rattle.roundtrip.specs.Loss.{loss_held}
use Rattle.roundtrip.specs.declared.Loss.{Loss}
use Rattle.output.specs.Put.{Put}
use Rattle.output.proofs.Puts.{Puts, puts, puts_nothing, puts_then, puts_as}
use Rattle.report.proofs.Read.{is_refused, is_read, in_both}
use Rattle.report.specs.Words.{reason, refused_words, entry_words}
use Rattle.report.specs.Telling.{of_header, of_content, subject, loss_words, tell, wholecpim}

module _ (k : Message) (c n : ℕ) where
  pub of_header_lem : of_header c ≡ true → entry_words (ascii "header ") n (mapped name_of (nth n k.headers)) ≡ subject k c n
  unfolding subject
  of_header_lem e = rw e refl

  pub of_content_lem : of_header c ≡ false → of_content c ≡ true → entry_words (ascii "content header ") n (mapped entry_name (nth n k.contents)) ≡ subject k c n
  unfolding subject
  of_content_lem f e = rw (f, e) refl

  pub of_none : of_header c ≡ false → of_content c ≡ false → (at : ℕ) (d : Bytes) → Put at 829 (subject k c n) d d at
  unfolding subject
  of_none f e at d = rw (f, e) (puts_nothing at 829 d)

  -- nothing is lost
  pub told_whole : {r : ℕ} {d out : Bytes} → c ≡ 0 → Put 0 80 (reason 0) d out r → Put 0 935 (loss_words k (record { clause = c; entry = n })) d out r
  unfolding loss_words
  told_whole e p = rw (eq-eqb c 0 e) (puts_as (reason 0) 935 refl (omega arith) p)

  -- something is
  pub told_lost : {p q r : ℕ} {d o x z : Bytes} → (c ≡ 0 → ⊥)
      → Puts 0 (ascii "does not come back whole: ") d o p
      → Put p 829 (subject k c n) o x q
      → Put q 80 (reason c) x z r
      → Put 0 935 (loss_words k (record { clause = c; entry = n })) d z r
  unfolding loss_words
  told_lost ne a b e =
      rw (ne_eqb c 0 ne)
      (puts_as _ 935 (simp append_assoc) (omega arith)
      (puts_then (omega arith) (puts_then (omega arith) (puts (ascii "does not come back whole: ") 26 (omega arith) a) b) e))

-- the words, and LF behind them
pub line_told : (input words : Bytes) (n : ℕ) {p r : ℕ} {d o z : Bytes} → words ++ lf_text ≡ wholecpim input → n ≤ 935
    → Put 0 n words d o p → Puts p (lf ∷ []) o z r → Put 0 936 (wholecpim input) d z r
line_told input words n e h a b = puts_as (wholecpim input) 936 e (omega arith) (puts_then (omega arith) a (puts (lf ∷ []) 1 (omega arith) b))

-- Of an input that is too long, refused, or accepted.
pub too_long_lem : (input : Bytes) → 65536 < length input → refused_words (record { number = 26; carried = 65537 }) ++ lf_text ≡ wholecpim input
unfolding wholecpim tell table
too_long_lem input h = sym (rw (lt-leb _ _ h) refl)

module _ (input head body : Bytes) (k : Lent) (n : Numbers) (fits : length input ≤ 65536) (h : length head ≡ 65536) (b : length body ≡ 65536)
    (parsed : Parsed input (both_lent empty_message head body) k n) where
  pub told_refused : (n.number ≡ 0 → ⊥) → refused_words n ++ lf_text ≡ wholecpim input
  unfolding wholecpim tell
  told_refused z =
      let r = is_refused input head body k n h b parsed z in
      rw (le-leb _ _ fits) (ap (λ (x : Numbers). refused_words x ++ lf_text) r.1.1 ∙ ap (λ (o : Out Message). tell o ++ lf_text) (sym r.1.0))

  pub told_accepted : (z : n.number ≡ 0) (l : Loss) → ((o : Option Message) → Held k o → l ≡ loss_held o)
      → loss_words (is_read input head body k n h b parsed z).0 l ++ lf_text ≡ wholecpim input
  unfolding wholecpim tell
  told_accepted z l f =
      let m = is_read input head body k n h b parsed z in
      rw (le-leb _ _ fits)
      (ap (λ (x : Loss). loss_words m.0 x ++ lf_text) (f (some m.0) (message (in_both input head body k n h b parsed z)))
      ∙ ap (λ (o : Out Message). tell o ++ lf_text) (sym m.1))
