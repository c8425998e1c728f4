use mathlib.Core.Path.{sym, ap, ◌∙◌}
use Prim.Native.Nat.{ℕ, ◌-◌}
use native.Mathlib.Omega.{arith}
use lib.ListN.{length, drop, length-drop}
use lib.Dec.{leb, eqb}
use Rattle.format.specs.Bytes.{all}
use borrow.Author.Tests.{lt-leb}
use Rattle.format.proofs.Lists.{clash}
use Rattle.store_entries.specs.Stored.{size_in}
use Rattle.store_entries.proofs.EntryShape.{few_shaped, zeros_shaped, whole_shaped, zero_part}
use Rattle.store_entries.proofs.is_shaped.Goals as goal
use Rattle.store_entries.proofs.is_shaped.Goals.{then-s-at-ge16, else-s-at-ge16}

pub returns-then-is_zero : goal.returns-then-is_zero
returns-then-is_zero c =
    let s = c.args.s.now in
    let at = c.args.at in
    let size = c.entry_len.ensures in
    elim c.if-s-at-ge16.branch [
      | then-s-at-ge16 w ↦
          ap (λ (n : ℕ). leb n (length s - at)) size.0
          ∙ ap (leb (size_in (drop at s))) (sym (length-drop at s))
          ∙ whole_shaped (drop at s) (rw (length-drop at s) (omega arith))
          (sym (w.is_zero.ensures ∙ ap (all (eqb 0)) (zero_part s at)) ∙ sym w.value-is ∙ c.if-is_zero.true) size.2 size.3
      | else-s-at-ge16 w ↦ clash c.if-is_zero.true (w.value-is ∙ lt-leb 16 (length s - at) (omega (arith, w.if-s-at-ge16.false)))
    ]

pub returns-else-is_zero : goal.returns-else-is_zero
returns-else-is_zero c =
    let s = c.args.s.now in
    let at = c.args.at in
    elim c.if-s-at-ge16.branch [
      | then-s-at-ge16 w ↦
          c.if-is_zero.false
          ∙ sym (zeros_shaped (drop at s) (sym (w.is_zero.ensures ∙ ap (all (eqb 0)) (zero_part s at)) ∙ sym w.value-is ∙ c.if-is_zero.false))
      | else-s-at-ge16 w ↦ c.if-is_zero.false ∙ sym (few_shaped (drop at s) (rw (length-drop at s) (omega arith)))
    ]
