-- The words in the parts that are put one behind another. Assumes nothing.
use Prim.Native.Nat.{ℕ, ◌+◌, ◌≤◌}
use mathlib.Core.Path.{◌≡◌}
use mathlib.Core.List.{append_assoc}
use mathlib.Core.Option.{none, some}
use native.Mathlib.Omega.{arith}
use lib.ListN.{length}
use borrow.Author.Tests.{eq-eqb, ne_eqb}
use Rattle.format.specs.Bytes.{Bytes, ascii}
use Rattle.format.specs.Escaping.{escape}
use Rattle.format.specs.Showing.{decimal}
use Rattle.output.specs.Put.{Put}
use Rattle.output.proofs.Puts.{Puts, puts, puts_nothing, puts_then, puts_as}
use Rattle.report.specs.Words.{condition, carried_words, refused_words, entry_words}

pub none_carried : (at n : ℕ) (d : Bytes) → n ≡ 0 → Put at 23 (carried_words n) d d at
unfolding carried_words
none_carried at n d e = rw (eq-eqb n 0 e) (puts_nothing at 23 d)

pub carried_put : (n : ℕ) {at p q r : ℕ} {d o x z : Bytes} → (n ≡ 0 → ⊥) → at ≤ length d
    → Puts at (ascii " (") d o p
    → Put p 20 (decimal n) o x q
    → Puts q (ascii ")") x z r
    → Put at 23 (carried_words n) d z r
unfolding carried_words
carried_put n ne h a b c =
    rw (ne_eqb n 0 ne)
    (puts_as _ 23 (simp append_assoc) (omega arith) (puts_then h (puts_then h (puts (ascii " (") 2 (omega arith) a) b) (puts (ascii ")") 1 (omega arith) c)))

pub refusal_put : (number carried : ℕ) {p q r s t : ℕ} {d o x y z w : Bytes}
    → Puts 0 (ascii "refused: ") d o p
    → Put p 20 (decimal number) o x q
    → Puts q (ascii ", ") x y r
    → Put r 80 (condition number) y z s
    → Put s 23 (carried_words carried) z w t
    → Put 0 134 (refused_words (record { number = number; carried = carried })) d w t
unfolding refused_words
refusal_put number carried a b c e f =
    puts_as _ 134 (simp append_assoc) (omega arith)
    (puts_then (omega arith) (puts_then (omega arith) (puts_then (omega arith) (puts_then (omega arith) (puts (ascii "refused: ") 9 (omega arith) a) b) (puts (ascii ", ") 2 (omega arith) c)) e) f)

-- An entry that is not found, and one that is.
pub no_entry : (kind : Bytes) (n at : ℕ) (d : Bytes) → Put at (length kind + 814) (entry_words kind n none) d d at
unfolding entry_words
no_entry kind n at d = puts_nothing at (length kind + 814) d

pub entry_put : (kind : Bytes) (n : ℕ) (name : Bytes) {at p q r s t : ℕ} {d o x y z w : Bytes} → at ≤ length d → length (escape name) ≤ 768
    → Puts at kind d o p
    → Put p 20 (decimal (n + 1)) o x q
    → Puts q (ascii " in the order of names, ") x y r
    → Puts r (escape name) y z s
    → Puts s (ascii ", ") z w t
    → Put at (length kind + 814) (entry_words kind n (some name)) d w t
unfolding entry_words
entry_put kind n name h l a b c e f =
    puts_as _ (length kind + 814) (simp append_assoc) (omega arith)
    (puts_then h (puts_then h (puts_then h (puts_then h (puts kind (length kind) (omega arith) a) b) (puts (ascii " in the order of names, ") 24 (omega arith) c)) (puts (escape name) 768 l e)) (puts (ascii ", ") 2 (omega arith) f))
