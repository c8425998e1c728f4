-- Lines in the parts that are put one behind another. Assumes nothing.
use Prim.Native.Nat.{ℕ, ◌+◌, ◌≤◌}
use mathlib.Core.Path.{◌≡◌}
use mathlib.Core.List.{[], ◌∷◌, append_assoc}
use native.Mathlib.Omega.{arith}
use lib.ListN.{length}
use Rattle.format.specs.Bytes.{Bytes, ascii, pasted, equals, lf}
use Rattle.format.specs.Escaping.{escape}
use Rattle.format.specs.Showing.{decimal, shown, show_numbers}
use Rattle.output.specs.Put.{Put}
use Rattle.output.proofs.Puts.{puts, puts_then, puts_as}
use Rattle.report.specs.ShownLines.{message_lines}

-- a line: label, `=`, a text of at most n bytes, LF
pub line_put : (label s : Bytes) (n : ℕ) {at p q u v : ℕ} {d o x y z : Bytes} → at ≤ length d
    → (p ≡ at + length label) × (o ≡ pasted at label d)
    → (q ≡ p + 1) × (x ≡ pasted p (equals ∷ []) o)
    → Put q n s x y u
    → (v ≡ u + 1) × (z ≡ pasted u (lf ∷ []) y)
    → Put at (length label + (n + 2)) (shown label s) d z v
line_put label s n h a b c e =
    puts_as (shown label s) (length label + (n + 2)) (simp append_assoc) (omega arith)
    (puts_then h (puts_then h (puts_then h (puts label (length label) (omega arith) a) (puts (equals ∷ []) 1 (omega arith) b)) c) (puts (lf ∷ []) 1 (omega arith) e))

-- the first two lines
pub numbers_put : (number carried : ℕ) {p q : ℕ} {d o z : Bytes}
    → Put 0 28 (shown (ascii "result") (decimal number)) d o p
    → Put p 29 (shown (ascii "carried") (decimal carried)) o z q
    → Put 0 57 (show_numbers (record { number = number; carried = carried })) d z q
unfolding show_numbers
numbers_put number carried a b = puts_then (omega arith) a b

-- the others
pub message_put : (headers params contents : ℕ) (type : Bytes) (body : ℕ) {at p q r s t : ℕ} {d o x y z w : Bytes} → at ≤ length d
    → Put at 29 (shown (ascii "headers") (decimal headers)) d o p
    → Put p 28 (shown (ascii "params") (decimal params)) o x q
    → Put q 30 (shown (ascii "contents") (decimal contents)) x y r
    → Put r 1542 (shown (ascii "type") (escape type)) y z s
    → Put s 26 (shown (ascii "body") (decimal body)) z w t
    → Put at 1655 (message_lines headers params contents type body) d w t
unfolding message_lines
message_put headers params contents type body h a b c e f =
    puts_as _ 1655 (simp append_assoc) (omega arith) (puts_then h (puts_then h (puts_then h (puts_then h a b) c) e) f)
