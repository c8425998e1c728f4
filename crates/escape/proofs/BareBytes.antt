-- A text whose bytes are all bare is written as it is. Assumes nothing.
use Prim.Native.Nat.{ℕ}
use mathlib.Core.Path.{◌≡◌, sym, ap, ◌∙◌}
use mathlib.Core.Bool.{true, false}
use mathlib.Core.List.{[], ◌∷◌, ◌++◌}
use lib.Dec.{ltb, eqb}
use lib.ListN.{drop}
use borrow.Author.Tests.{eqb-false, ltb-false, ne_eqb, lt-leb}
use Rattle.format.specs.Bytes.{Bytes, all}
use Rattle.format.specs.Escaping.{escape}
use Rattle.format.proofs.Rulesets.{tests}
use Rattle.escape.specs.Bare.{is_bare}
use Rattle.escape.specs.Forms.{form_of, takes_form, written_form}
use Rattle.escape.specs.declared.forms.Form.{Form}
use Rattle.escape.specs.declared.forms.Form.TheVariants.{Raw}
use Rattle.escape.proofs.Units.{escape_nil, escape_unit, form_byte}
use Rattle.escape.proofs.FormAt.{byte_plain}

-- What is known of a bare byte.
record Bare (b : ℕ) : Type 0 where
  low : ltb b 32 ≡ false
  no_quote : eqb 34 b ≡ false
  no_backslash : eqb 92 b ≡ false
  no_delete : eqb 0x7F b ≡ false
  no_lead : eqb 0xC2 b ≡ false

bare : (b : ℕ) → is_bare b ≡ true → Bare b
unfolding is_bare
bare b h = search (lt-leb, simp tests at h)

bare_form : (b : ℕ) (t : Bytes) → is_bare b ≡ true → form_of (b ∷ t) ≡ Raw b
bare_form b t h =
    let k = bare b h in
    form_byte b t (ne_eqb b 0xC2 (λ e. eqb-false 0xC2 b k.no_lead (sym e)))
    ∙ byte_plain b (ltb-false b 32 k.low) (λ e. eqb-false 34 b k.no_quote (sym e)) (λ e. eqb-false 92 b k.no_backslash (sym e))
    (λ e. eqb-false 0x7F b k.no_delete (sym e))

-- a text of bare bytes is written as it is
pub bare_escape : (v : Bytes) → all is_bare v ≡ true → escape v ≡ v
unfolding all
bare_escape [] h = escape_nil
bare_escape (b ∷ t) h =
    let p = simp tests at h in
    escape_unit b t
    ∙ ap (λ (g : Form). written_form g ++ escape (drop (takes_form g) (b ∷ t))) (bare_form b t p.0)
    ∙ ap (λ (l : Bytes). b ∷ l) (bare_escape t p.1)
