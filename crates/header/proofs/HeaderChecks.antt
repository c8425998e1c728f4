-- One check after another on a header that is held: a refusal is the call's answer and leaves all as it was, and where a check passes
-- the rest decides. Assumes nothing.
use Rattle.std.specs.Prelude.{Result, Ok, Err}
use Rattle.std.specs.Result.{result_unwrap_or, IsErrAnd}
use Prim.Native.Nat.{ℕ, ◌+◌, ◌≤◌}
use mathlib.Core.Path.{◌≡◌, refl, sym, ap, ◌∙◌, subst}
use mathlib.Core.Bool.{Bool, true}
use mathlib.Core.List.{List, ◌∷◌, ◌++◌}
use lib.Dec.{ltb}
use lib.ListN.{length}
use Rattle.format.specs.Bytes.{Bytes}
use Rattle.format.specs.Limits.{max_params, max_param_name, max_param_value}
use Rattle.format.specs.Refusals.{too_many_params, Out, accepted, refused, numbers, Check, refuse_if, at_most, passes, ◌>>◌, ◌>>=◌}
use Rattle.format.specs.Told.{checked, told, meant}
use Rattle.format.specs.Validators.{param_name, param_value}
use Rattle.format.specs.Message.{Entry, LoneHeader, entry, entry_name, need_entry, put}
use Rattle.format.specs.Calls.{param_count, set_param, add_param, if_room_alone}
use Rattle.format.specs.Layout.{HoldsAlone}
use Rattle.format.specs.Lending.{LentHeader, leaves_header}
use Rattle.format.specs.declared.Numbers.{Numbers}
use Rattle.format.specs.declared.CpimHeader.{CpimHeader}
use Rattle.format.specs.declared.refusal.Refusal.{Refusal}
use Rattle.format.specs.declared.refusal.Refusal.TheVariants as code
use Rattle.format.proofs.Steps.{then_passed}
use Rattle.format.proofs.Answers.{other_fails, then_refused}
use Rattle.format.proofs.Rulesets.{checks}
use Rattle.format.proofs.Messages.Parts as valid
use Rattle.validate.proofs.Chains.{handed_on}
use Rattle.validate.proofs.EmptyText.{over_limit}
use Rattle.store_entries.specs.Groups.{low, own, high, Grouped}
use Rattle.store_entries.proofs.ByName.{put_parts}
use Rattle.store_splice.specs.Spliced.{Parted}
use Rattle.store_check.proofs.HeldParts.{alone_parts}
use Rattle.message_edit.proofs.GroupParts.{increasing_ascending, in_place}
use Rattle.header.specs.Alone.{alone_in, with_params, set_in, DoesAlone}

module _ (l k : LentHeader) (n : Numbers) (x : Check) (o : Out LoneHeader) where
  -- a check refuses
  pub does_refused : n ≡ numbers x → (n.number ≡ 0 → ⊥) → k ≡ l → DoesAlone l k n (◌>>◌ x o)
  unfolding leaves_header numbers
  does_refused e z s =
      let r = then_refused x o (other_fails x n e z) in
      record {
        answered = e ∙ ap numbers r.1 ∙ sym (ap numbers r.2);
        left = s ∙ sym (ap (leaves_header l) r.2);
      }

  -- a check passes
  pub does_passed : passes x ≡ true → DoesAlone l k n o → DoesAlone l k n (◌>>◌ x o)
  does_passed h d =
      let e = sym (then_passed x o h) in
      record { answered = d.answered ∙ ap numbers e; left = d.left ∙ ap (leaves_header l) e }

-- The same of the results of the code.
-- A call on a header h has this result and makes this of the store, by the answer o.
abbrev pub Leaves : CpimHeader → Bytes → Bytes → Result CpimHeader Refusal → Out LoneHeader → Type 0
Leaves h store after q o = DoesAlone (alone_in h store) (alone_in (result_unwrap_or q h) after) (told q) o

module _ (h : CpimHeader) (store : Bytes) (q : Result CpimHeader Refusal) (x : Check) (o : Out LoneHeader) where
  -- a check refuses, and the call by a `?`
  pub turned_away : (e : Refusal) → checked {A = Unit {0}} (Err e) ≡ x → IsErrAnd q (λ d. d ≡ e) → Leaves h store store q (◌>>◌ x o)
  unfolding checked told leaves_header numbers ◌>>◌
  turned_away e a s =
      let does : Leaves h store store (Err e) (◌>>◌ (checked {A = Unit {0}} (Err e)) o) = record { answered = refl; left = refl } in
      subst (λ (r : Result CpimHeader Refusal). Leaves h store store r (◌>>◌ x o)) (sym (handed_on q s))
      (subst (λ (y : Check). Leaves h store store (Err e) (◌>>◌ y o)) a does)

  -- a check passes
  pub passed_on : {u : Unit {0}} (after : Bytes) → checked (Ok u) ≡ x → Leaves h store after q o → Leaves h store after q (◌>>◌ x o)
  unfolding checked ◌>>◌
  passed_on after a d = subst (λ (y : Check). Leaves h store after q (◌>>◌ y o)) a d

-- the lengths that a validator lets pass
pub name_short : (n : Bytes) → passes (param_name n) ≡ true → length n ≤ max_param_name
unfolding param_name
name_short n h = (simp checks at h).1.0

pub value_short : (v : Bytes) → passes (param_value v) ≡ true → length v ≤ max_param_value
unfolding param_value
value_short v h = (simp checks at h).0

-- Three checks in front of what is handed on.
chain : {A B : Type 0} (x y z : Check) (p : A) (f : A → B) (g : B → Out B)
    → ◌>>=◌ (◌>>=◌ (◌>>◌ x (◌>>◌ y (◌>>◌ z (accepted p)))) (λ q. accepted (f q))) g ≡ ◌>>◌ x (◌>>◌ y (◌>>◌ z (g (f p))))
unfolding ◌>>=◌ ◌>>◌
chain (accepted u) (accepted v) (accepted w) p f g = refl
chain (accepted u) (accepted v) (refused r) p f g = refl
chain (accepted u) (refused r) z p f g = refl
chain (refused r) y z p f g = refl

module _ (name value : Bytes) (k : LoneHeader) where
  -- a parameter set: what follows the validators, and all of it
  abbrev pub counted : ℕ → Out LoneHeader
  counted store = ◌>>◌ (param_count (length k.params)) (if_room_alone store (with_params k (put (entry name value) k.params)))

  pub set_steps : (store : ℕ) → set_in name value store k ≡ ◌>>◌ (param_name name) (◌>>◌ (param_value value) (counted store))
  unfolding set_in add_param set_param
  set_steps store =
      chain (param_name name) (param_value value) (param_count (length k.params)) (put (entry name value) k.params) (with_params k) (if_room_alone store)

  module _ (h : CpimHeader) (s : Bytes) (held : HoldsAlone h s k) where
    -- how many there are then, as the code counts them
    pub count_is : refuse_if (ltb max_params (h.params + 1)) (meant (code.TooManyParams (h.params + 1))) ≡ param_count (length k.params)
    unfolding param_count at_most meant
    count_is =
        let same : h.params ≡ length k.params = (alone_parts h s k held).params in
        ap (λ (n : ℕ). refuse_if (ltb max_params (n + 1)) (too_many_params (n + 1))) same
        ∙ ap (λ (t : Bool). refuse_if t (too_many_params (length k.params + 1))) (sym (over_limit (length k.params + 1) max_params))

    -- the parameter of a name replaced, or one put where it belongs
    pub param_set_lem : (after : Bytes) (q : Result CpimHeader Refusal) (at size many : ℕ) → Grouped entry_name need_entry name k.params at size many
        → ((l g t : List Entry) → Parted need_entry k.params l g t at size many
        → Leaves h s after q (if_room_alone (length s) (with_params k (l ++ (entry name value ∷ t)))))
        → Leaves h s after q (if_room_alone (length s) (with_params k (put (entry name value) k.params)))
    unfolding put
    param_set_lem after q at size many g does =
        let ps = k.params in
        let ordered = increasing_ascending entry_name ps (valid.alone_parts k held.within).params.ordered in
        subst (λ (es : List Entry). Leaves h s after q (if_room_alone (length s) (with_params k es)))
        (sym (put_parts entry_name name ps ordered (entry name value) refl))
        (does (low entry_name name ps) (own entry_name name ps) (high entry_name name ps) (in_place entry_name need_entry name ps at size many g))
