-- Texts put one behind another. It rests on the laws of `pasted`. Assumes nothing.
use Prim.Native.Nat.{ℕ, ◌+◌, ◌≤◌}
use mathlib.Core.Path.{◌≡◌, sym, ap, ◌∙◌}
use mathlib.Core.List.{[], ◌++◌}
use native.Mathlib.Omega.{arith}
use lib.ListN.{length, length-append}
use Rattle.format.specs.Bytes.{Bytes, pasted}
use Rattle.octets.proofs.Paste.{pasted_nil, pasted_pasted, length_pasted}
use Rattle.output.specs.Put.{Put}

-- what a function that puts a text ensures
abbrev pub Puts : ℕ → Bytes → Bytes → Bytes → ℕ → Type 0
Puts at s d out r = (r ≡ at + length s) × (out ≡ pasted at s d)

-- a text of at most so many bytes
pub puts : {at r : ℕ} {d out : Bytes} (s : Bytes) (most : ℕ) → length s ≤ most → Puts at s d out r → Put at most s d out r
puts s most h p = record { place = p.0; bytes = p.1; within = omega (arith, p.0) }

-- nothing
pub puts_nothing : (at n : ℕ) (d : Bytes) → Put at n [] d d at
puts_nothing at n d = puts [] n (omega arith) (omega arith, sym (pasted_nil at d))

-- one text, and another behind it
pub puts_then : {at p q a b : ℕ} {s t d out now : Bytes} → at ≤ length d → Put at a s d out p → Put p b t out now q → Put at (a + b) (s ++ t) d now q
puts_then {at} {p} {q} {a} {b} {s} {t} {d} {out} {now} h x y =
    record {
      place = omega (arith, x.place, y.place, length-append s t);
      bytes = y.bytes ∙ rw (x.place, x.bytes) (pasted_pasted at s t d h);
      within = omega (arith, x.within, y.within);
    }

-- the same text by another name, under another bound
pub puts_as : {at a r : ℕ} {s d out : Bytes} (t : Bytes) (b : ℕ) → s ≡ t → a ≤ b → Put at a s d out r → Put at b t d out r
puts_as {at} {a} {r} {s} {d} {out} t b e h x =
    record {
      place = x.place ∙ ap (λ (u : Bytes). at + length u) e;
      bytes = x.bytes ∙ ap (λ (u : Bytes). pasted at u d) e;
      within = omega (arith, x.within);
    }

-- what is put from the start on lies within an output that has the bound's room
pub put_within : {most r : ℕ} {s d out : Bytes} → most ≤ length d → Put 0 most s d out r → r ≤ length out
put_within {most} {r} {s} {d} {out} h x =
    let same : length out ≡ length d = ap length x.bytes ∙ length_pasted 0 s d (omega (arith, x.place, x.within)) in
    omega (arith, x.within)
