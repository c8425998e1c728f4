-- A step of `shift`, in either direction: k bytes more are moved, read from a slice of which others were moved before.
-- They are read where nothing was written yet. Assumes nothing.
use Prim.Native.Nat.{ℕ, ◌+◌, ◌-◌, ◌≤◌}
use mathlib.Core.Path.{◌≡◌, sym, ap, ◌∙◌}
use mathlib.Core.List.{◌++◌}
use native.Mathlib.Omega.{arith}
use lib.ListN.{length, take, drop, length-drop, take-append-drop}
use lib.Seq.{length-take-le, take-take, take-add, drop-drop, slice_empty}
use Rattle.format.specs.Bytes.{Bytes, pasted}
use Rattle.octets.proofs.Paste.{drop_take, drop_behind, part_before, pasted_pasted, pasted_front, take_front, pasted_nil}

part_length : (f n : ℕ) (l : Bytes) → f + n ≤ length l → length (take n (drop f l)) ≡ n
part_length f n l h = length-take-le n (drop f l) (rw (length-drop f l) (omega arith))

-- forwards: the first i were moved, then those up to j
pub shifted_left : (from to i k j : ℕ) (s₀ s q : Bytes) → i + k ≡ j → from + j ≤ length s₀ → to ≤ from
    → s ≡ pasted to (take i (drop from s₀)) s₀
    → q ≡ pasted (to + i) (take k (drop (from + i) s)) s
    → q ≡ pasted to (take j (drop from s₀)) s₀
shifted_left from to i k j s₀ s q e fits left now next =
    let x = take i (drop from s₀) in
    let t = take k (drop (from + i) s₀) in
    let n : length x ≡ i = part_length from i s₀ (omega arith) in
    next
    ∙ ap (λ (l : Bytes). pasted (to + i) (take k (drop (from + i) l)) l) now
    ∙ ap (λ (l : Bytes). pasted (to + i) (take k l) (pasted to x s₀)) (drop_behind to x s₀ (omega arith) (from + i) (omega arith))
    ∙ ap (λ (m : ℕ). pasted (to + m) t (pasted to x s₀)) (sym n)
    ∙ pasted_pasted to x t s₀ (omega arith)
    ∙ ap (λ (l : Bytes). pasted to (x ++ take k l) s₀) (sym (drop-drop i from s₀))
    ∙ ap (λ (l : Bytes). pasted to l s₀) (sym (take-add i k (drop from s₀)) ∙ ap (λ (m : ℕ). take m (drop from s₀)) e)

-- backwards: those from j on were moved, then those from i on, which stand at f and go to g
pub shifted_right : (from to n i k j f g : ℕ) (s₀ s q : Bytes) → i + k ≡ j → j ≤ n → to + n ≤ length s₀ → from ≤ to
    → from + i ≡ f → to + i ≡ g
    → s ≡ pasted (to + j) (drop j (take n (drop from s₀))) s₀
    → q ≡ pasted g (take k (drop f s)) s
    → q ≡ pasted g (drop i (take n (drop from s₀))) s₀
shifted_right from to n i k j f g s₀ s q e below fits right ef eg now next =
    let x = take n (drop from s₀) in
    let t = take k (drop f s₀) in
    let m : length t ≡ k = part_length f k s₀ (omega arith) in
    let r : to + j ≡ g + length t = omega arith in
    next
    ∙ ap (λ (l : Bytes). pasted g (take k (drop f l)) l) now
    ∙ ap (λ (l : Bytes). pasted g l (pasted (to + j) (drop j x) s₀)) (part_before (to + j) (drop j x) s₀ (omega arith) f k (omega arith))
    ∙ ap (λ (p : ℕ). pasted g t (pasted p (drop j x) s₀)) r
    ∙ pasted_front g t (drop j x) s₀ (omega arith)
    ∙ ap (λ (l : Bytes). pasted g l s₀) (ap (λ (l : Bytes). t ++ l) (ap (λ (p : ℕ). drop p x) (sym e) ∙ sym (drop-drop k i x)) ∙ ap (λ (l : Bytes). l ++ drop k (drop i x)) (sym front) ∙ take-append-drop k (drop i x))
  where
    front : take k (drop i (take n (drop from s₀))) ≡ take k (drop f s₀)
    front =
        let r : i + (n - i) ≡ n = omega arith in
        ap (λ (p : ℕ). take k (drop i (take p (drop from s₀)))) (sym r)
        ∙ ap (take k) (drop_take i (n - i) (drop from s₀))
        ∙ take-take k (n - i) (drop i (drop from s₀)) (omega arith)
        ∙ ap (take k) (drop-drop i from s₀ ∙ ap (λ (p : ℕ). drop p s₀) ef)

-- through another slice: p holds the part that was read, q what was written
pub shifted_part : (from to n m : ℕ) (s z p q : Bytes) → m ≡ n → from + n ≤ length s
    → p ≡ pasted 0 (take m (drop from s)) z → q ≡ pasted to (take n p) s → q ≡ pasted to (take n (drop from s)) s
shifted_part from to n m s z p q e fits one two =
    two
    ∙ ap (λ (l : Bytes). pasted to (take n l) s) one
    ∙ ap (λ (l : Bytes). pasted to l s) (take_front n (take m (drop from s)) z (rw e (part_length from n s fits)) ∙ ap (λ (k : ℕ). take k (drop from s)) e)

-- nothing is moved yet
pub shifted_none : (from to n : ℕ) (s : Bytes) → s ≡ pasted (to + n) (drop n (take n (drop from s))) s
shifted_none from to n s =
    sym (ap (λ (l : Bytes). pasted (to + n) l s) (slice_empty n (drop from s)) ∙ pasted_nil (to + n) s)
