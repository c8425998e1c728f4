use mathlib.Core.Path.{◌≡◌, sym, ap, ◌∙◌}
use mathlib.Core.Bool.{false}
use Prim.Native.Nat.{ℕ, ◌+◌, ◌-◌}
use native.Mathlib.Omega.{arith}
use lib.ListN.{take, drop, length-drop}
use lib.Seq.{drop-drop}
use Rattle.format.specs.Bytes.{has}
use Rattle.octets.proofs.Find.{found_within, up_to_skip}
use Rattle.octets.proofs.finding.find_byte.Goals as goal

pub loop-i-preserved : goal.loop-i-preserved
loop-i-preserved c =
    let args = c.args in
    let s = args.s.now in
    let i = c.loop-i.i in
    let n : i + 16 - i ≡ 16 = omega arith in
    let e : has args.c (take 16 (drop i s)) ≡ false =
    ap (λ (k : ℕ). has args.c (take k (drop i s))) (sym n) ∙ sym c.has_byte.ensures ∙ c.if-not-has_byte.true in
    let q = up_to_skip args.c 16 (drop i s) (simp length-drop (omega arith)) e in
    record { within = omega arith; found = c.loop-i.invariant.found ∙ rw (q, drop-drop 16 i s) (omega arith) }

pub overflow_add-result : goal.overflow_add-result
overflow_add-result c =
    let args = c.args in
    omega (arith, found_within args.c _ c.find_byte_plain.result c.find_byte_plain.ensures, length-drop c.loop-i.i args.s.now)
