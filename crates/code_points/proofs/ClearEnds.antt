-- Ends are clear of white space exactly where trimming takes nothing. Assumes nothing.
use mathlib.Core.Path.{◌≡◌, sym, ap, ◌∙◌}
use mathlib.Core.Logic.{⊎_elim}
use lib.Dec.{eqb}
use lib.ListN.{length}
use borrow.Author.Tests.{eq-eqb, ne_eqb}
use Rattle.format.specs.Bytes.{Bytes}
use Rattle.format.specs.Characters.{is_white, trim, clear_ends}
use Rattle.format.proofs.Lists.{bcase, clash}
use Rattle.format.proofs.Characters.Trim.{trim_clear, trim_full}

pub same_length : (s r : Bytes) → r ≡ trim s → eqb (length r) (length s) ≡ clear_ends is_white s
same_length s r e =
    ⊎_elim
    (λ c. eq-eqb (length r) (length s) (ap length (e ∙ trim_clear is_white s c)) ∙ sym c)
    (λ c. ne_eqb (length r) (length s) (λ l. clash (trim_full is_white s (sym (ap length e) ∙ l)) c) ∙ sym c)
    (bcase (clear_ends is_white s))
