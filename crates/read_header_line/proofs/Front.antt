-- What stands in front of the value: the name, 28, then the parameters. Assumes nothing.
use Rattle.std.specs.Prelude.{Result, Ok, Err}
use Rattle.std.specs.Result.{IsErrAnd}
use mathlib.Core.Path.{◌≡◌, refl, sym, ap, ◌∙◌}
use mathlib.Core.Bool.{true, false}
use mathlib.Core.List.{List, [], ◌∷◌}
use Rattle.format.specs.Bytes.{Bytes, semicolon, split}
use Rattle.format.specs.Refusals.{lacks_space, Out, accepted, numbers, passes, refuse_if, ◌>>◌}
use Rattle.format.specs.Validators.{header_name}
use Rattle.format.specs.Message.{Entry}
use Rattle.format.specs.Reading.{each}
use Rattle.format.specs.Told.{checked, meant}
use Rattle.format.specs.declared.refusal.Refusal.{Refusal}
use Rattle.format.specs.declared.refusal.Refusal.TheVariants as code
use Rattle.format.specs.declared.Manner.{Manner}
use Rattle.format.proofs.Steps.{then_accepted, then_passed, refuse_if_passes}
use Rattle.format.proofs.Rulesets.{checks}
use Rattle.read_header_line.specs.Gathered.{Yields}
use Rattle.read_header_line.specs.HeaderLine.{name_by, params_by, misplaced_by, param_reader, read_front}
use Rattle.read_header_line.proofs.Yielding.{refuses, yields_as, refusal, check_passed, check_stops}

module _ (r : Manner) (left right : Bytes) {name front : Bytes} (is_name : name ≡ name_by r left) (is_front : front ≡ params_by r left right) where
  abbrev params : Out (List Entry)
  params = each (param_reader r) (split (semicolon ∷ []) front).rest []

  steps : read_front r left right ≡ ◌>>◌ (header_name name) (◌>>◌ (refuse_if (misplaced_by r right) lacks_space) params)
  unfolding read_front
  steps =
      λ i. ◌>>◌ (header_name (sym is_name i)) (◌>>◌ (refuse_if (misplaced_by r right) lacks_space) (each (param_reader r) (split (semicolon ∷ []) (sym is_front i)).rest []))

  -- the name is refused
  pub name_refused : {R : Type 0} {P : R → List Entry → Type 0} (e : Refusal) → checked {A = Unit {0}} (Err e) ≡ header_name name → (q : Result R Refusal) → IsErrAnd q (λ d. d ≡ e) → Yields q (read_front r left right) P
  unfolding numbers
  name_refused e h q s = refusal q e s (ap numbers (steps ∙ check_stops (header_name name) _ e h))

  -- it passes
  module _ {R : Type 0} {P : R → List Entry → Type 0} (u : Unit {0}) (passed : checked (Ok u) ≡ header_name name) where
    -- 28
    pub space_refused : misplaced_by r right ≡ true → Yields (Err code.LacksSpace) (read_front r left right) P
    unfolding refuse_if ◌>>◌ meant
    space_refused h = refuses code.LacksSpace (steps ∙ check_passed (header_name name) _ u passed ∙ rw h refl)

    pub params_read : misplaced_by r right ≡ false → {q : Result R Refusal} → Yields q (each (param_reader r) (split (semicolon ∷ []) front).rest []) P → Yields q (read_front r left right) P
    params_read h y =
        yields_as y (steps ∙ check_passed (header_name name) _ u passed ∙ then_passed (refuse_if (misplaced_by r right) lacks_space) params (simp checks h))

-- what was read of the front passed 28, and its name passed
pub front_passed : (r : Manner) (left right : Bytes) (ps : List Entry) → read_front r left right ≡ accepted ps
    → (passes (header_name (name_by r left)) ≡ true) × (misplaced_by r right ≡ false)
unfolding read_front
front_passed r left right ps e =
    let a = then_accepted _ _ _ e in
    let b = then_accepted _ _ _ a.0 in
    (a.1, refuse_if_passes (misplaced_by r right) lacks_space b.1)
