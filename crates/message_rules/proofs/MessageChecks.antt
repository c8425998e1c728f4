-- One check after another on a message that is held: a refusal is the call's answer and leaves all as it was, and where a check passes
-- the rest decides. Assumes nothing.
use Rattle.std.specs.Prelude.{Result, Ok, Err}
use Rattle.std.specs.Result.{result_unwrap_or, IsErrAnd}
use Prim.Native.Nat.{ℕ, ◌+◌, ◌≤◌, ◌<◌}
use mathlib.Core.Path.{◌≡◌, refl, sym, ap, ◌∙◌, subst}
use mathlib.Core.Bool.{Bool, true}
use mathlib.Core.List.{[]}
use native.Mathlib.Omega.{arith}
use lib.Dec.{ltb}
use lib.ListN.{length}
use Rattle.format.specs.Bytes.{Bytes, texts}
use Rattle.format.specs.Limits.{max_name, max_value}
use Rattle.format.specs.Refusals.{table, Out, accepted, numbers, Check, refuse_if, at_most, passes, ◌>>◌}
use Rattle.format.specs.Refusals as paper
use Rattle.format.specs.Told.{checked, told}
use Rattle.format.specs.Validators.{header_name, header_value, content_value}
use Rattle.format.specs.Message.{Message}
use Rattle.format.specs.Layout.{Lent}
use Rattle.format.specs.Lending.{laid_in, leaves}
use Rattle.format.specs.declared.Numbers.{Numbers}
use Rattle.format.specs.declared.CpimMessage.{CpimMessage}
use Rattle.format.specs.declared.refusal.Refusal.{Refusal}
use Rattle.format.proofs.Steps.{then_passed}
use Rattle.format.proofs.Rulesets.{checks}
use Rattle.format.proofs.Answers.{other_fails, then_refused, over_limit}
use Rattle.validate.proofs.Chains.{passed, handed_on}
use Rattle.validate.proofs.EmptyText.{over_limit as length_over}
use Rattle.store_splice.specs.Notations.{reads}
use Rattle.store_splice.specs.NewEntries.{Fits, IsPlain, value_in}
use Rattle.store_splice.specs.declared.NewEntry.{NewEntry}
use Rattle.store_splice.proofs.Plain.{plain_value}
use Rattle.message_edit.specs.Edits.{Does, Spelt}

module _ (l k : Lent) (n : Numbers) (x : Check) (o : Out Message) where
  -- a check refuses
  pub does_refused : n ≡ numbers x → (n.number ≡ 0 → ⊥) → k ≡ l → Does l k n (◌>>◌ x o)
  unfolding leaves numbers
  does_refused e z s =
      let r = then_refused x o (other_fails x n e z) in
      record {
        answered = e ∙ ap numbers r.1 ∙ sym (ap numbers r.2);
        left = s ∙ sym (ap (leaves l) r.2);
      }

  -- a check passes
  pub does_passed : passes x ≡ true → Does l k n o → Does l k n (◌>>◌ x o)
  does_passed h d =
      let e = sym (then_passed x o h) in
      record { answered = d.answered ∙ ap numbers e; left = d.left ∙ ap (leaves l) e }

-- The same of the results of the code. A call refuses by a `?`: what it was lent is as it was.
pub turned_away : (lent : CpimMessage → Lent) (m : CpimMessage) (q : Result CpimMessage Refusal) (x : Check) (o : Out Message) (e : Refusal)
    → checked {A = Unit {0}} (Err e) ≡ x → IsErrAnd q (λ d. d ≡ e) → Does (lent m) (lent (result_unwrap_or q m)) (told q) (◌>>◌ x o)
unfolding checked told leaves numbers ◌>>◌
turned_away lent m q x o e a s =
    let does : Does (lent m) (lent m) (told {A = CpimMessage} (Err e)) (◌>>◌ (checked {A = Unit {0}} (Err e)) o) = record { answered = refl; left = refl } in
    subst (λ (r : Result CpimMessage Refusal). Does (lent m) (lent (result_unwrap_or r m)) (told r) (◌>>◌ x o)) (sym (handed_on q s))
    (subst (λ (y : Check). Does (lent m) (lent m) (told {A = CpimMessage} (Err e)) (◌>>◌ y o)) a does)

pub passed_on : {l k : Lent} {n : Numbers} {u : Unit {0}} (x : Check) (o : Out Message) → checked (Ok u) ≡ x → Does l k n o → Does l k n (◌>>◌ x o)
passed_on {l = l} {k = k} {n = n} x o a d = does_passed l k n x o (passed x a) d

-- a limit as the code tests it; and with one more than there are
pub limit_is : (limit : ℕ) (r : ℕ → paper.Refusal) (n : ℕ) → refuse_if (ltb limit n) (r n) ≡ at_most limit r n
unfolding at_most
limit_is limit r n = ap (λ (t : Bool). refuse_if t (r n)) (sym (length_over n limit))

pub count_is : (limit : ℕ) (r : ℕ → paper.Refusal) (i n : ℕ) → i ≡ n → refuse_if (ltb limit (i + 1)) (r (i + 1)) ≡ at_most limit r (n + 1)
count_is limit r i n e = ap (λ (j : ℕ). refuse_if (ltb limit (j + 1)) (r (j + 1))) e ∙ limit_is limit r (n + 1)

-- a message is accepted
pub does_accepted : (l k : Lent) (m : Message) → k ≡ laid_in l m → Does l k (record { number = 0; carried = 0 }) (accepted m)
unfolding leaves numbers
does_accepted l k m e = record { answered = refl; left = e }

-- a number over its limit
pub does_over : (l k : Lent) (n : Numbers) (limit : ℕ) (r : ℕ → paper.Refusal) (i : ℕ) (o : Out Message) → limit < i → n ≡ table (r i) → k ≡ l
    → Does l k n (◌>>◌ (at_most limit r i) o)
unfolding leaves numbers ◌>>◌
does_over l k n limit r i o h e s =
    let q = over_limit limit r i h in
    record {
      answered = e ∙ sym (ap (λ (c : Check). numbers (◌>>◌ c o)) q);
      left = s ∙ sym (ap (λ (c : Check). leaves l (◌>>◌ c o)) q);
    }

-- The lengths that a validator lets pass.
pub name_short : (n : Bytes) → passes (header_name n) ≡ true → length n ≤ max_name
unfolding header_name
name_short n h = (simp checks at h).1.0

pub value_short : (v : Bytes) → passes (header_value v) ≡ true → length v ≤ max_value
unfolding header_value
value_short v h = simp checks at h

pub content_short : (v : Bytes) → passes (content_value v) ≡ true → length v ≤ max_value
unfolding content_value
content_short v h = (simp checks at h).0

-- An entry whose value is given as it is: it may be stored where it is short, and stands for the header of that name and value.
module _ (name value : Bytes) (e : NewEntry) (plain : IsPlain name value e) where
  pub plain_fits : length name < 256 → length value < 65536 → Fits e
  plain_fits n v =
      record {
        value = ((λ i. reads (plain.notation_is i) e.text.now), plain.size_is ∙ sym (ap length (plain_value name value e plain)));
        bytes = (
          omega (arith, ap length plain.name_is),
          omega (arith, plain.size_is),
          omega (arith, plain.params_are),
          omega (arith, ap length plain.tail_is),
        );
      }

  pub plain_spelt : Spelt (record { name = name; value = value; params = [] }) e.name.now (value_in e) e.params e.tail.now
  unfolding texts
  plain_spelt =
      record {
        name_is = sym plain.name_is;
        value_is = sym (plain_value name value e plain);
        params_are = sym plain.params_are;
        tail_is = sym plain.tail_is;
      }
