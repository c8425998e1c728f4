-- The ways out of `with_param` and of `new`: each has done what the definition asks for, whatever record and store hold. For `new` that
-- is what a call does that is lent an empty record. Assumes nothing.
use Rattle.std.specs.Prelude.{Result, Ok}
use Rattle.std.specs.Result.{result_unwrap_or}
use Prim.Native.Nat.{ℕ, ◌+◌, ◌≤◌}
use mathlib.Core.Path.{◌≡◌, refl, sym, ap, ◌∙◌, subst}
use mathlib.Core.Bool.{Bool, true, false, not, ◌&&◌}
use mathlib.Core.List.{[], ◌++◌, append-nil}
use mathlib.Core.Option.{Option}
use native.Mathlib.Omega.{arith}
use lib.Dec.{ltb}
use lib.ListN.{length, replicate}
use Rattle.format.specs.Bytes.{Bytes, pasted, texts, total, over}
use Rattle.format.specs.Refusals.{Out, accepted, refused, numbers, not_utf8, no_room, nothing_held, passes, refuse_if, ◌>>◌}
use Rattle.format.specs.Told.{told}
use Rattle.format.specs.Limits.{max_value}
use Rattle.format.specs.Validators.{header_value, utf8}
use Rattle.format.specs.Message.{LoneHeader, need_alone}
use Rattle.format.specs.Calls.{room, alone_of, if_room_alone, new_header, with_param}
use Rattle.format.specs.Characters.{is_utf8}
use Rattle.format.specs.Layout.{HoldsAlone, HeldAlone, layout_alone, header_of, empty_header}
use Rattle.format.specs.Lending.{LentHeader, laid_alone, makes_header, MadeHeader, leaves_header, ParamSet}
use Rattle.format.specs.declared.Numbers.{Numbers}
use Rattle.format.specs.declared.CpimHeader.{CpimHeader}
use Rattle.format.specs.declared.refusal.Refusal.{Refusal}
use Rattle.format.proofs.Steps.{then_bind}
use Rattle.format.proofs.Rulesets.{checks}
use Rattle.octets.proofs.Paste.{pasted_pasted, pasted_start}
use Rattle.store_check.specs.Holding.{header_holds}
use Rattle.store_check.proofs.HeldCases.{alone_held, alone_not_held}
use Rattle.header.specs.Alone.{alone_in, set_in, DoesAlone}
use Rattle.header.proofs.HeaderChecks.{Leaves}

texts_by : (s t : Bool) (o : Out LoneHeader)
    → ◌>>◌ (refuse_if (not s) not_utf8) (◌>>◌ (refuse_if (not t) not_utf8) o) ≡ ◌>>◌ (refuse_if (not (s && t)) not_utf8) o
unfolding refuse_if ◌>>◌
texts_by true t o = refl
texts_by false t o = refl

-- `with_param`
module _ (name value : Bytes) (h : CpimHeader) (store after : Bytes) (q : Result CpimHeader Refusal) where
  abbrev pub Set : Type 0
  Set = ParamSet name value (alone_in h store) (alone_in (result_unwrap_or q h) after) (told q)

  abbrev Sets : Option LoneHeader → Type 0
  Sets o = Leaves h store after q (with_param name value (length store) o)

  set_by : ((o : Option LoneHeader) → HeldAlone h store o → Sets o) → Set
  set_by f = record { answered = λ o a. (f o a).answered; left = λ o a. (f o a).left }

  -- refused where no header is held
  pub not_held : header_holds h store ≡ false → Leaves h store after q (◌>>◌ (refuse_if true nothing_held) (accepted (record { value = []; params = [] }))) → Set
  unfolding with_param refuse_if ◌>>◌
  not_held f does = set_by (alone_not_held Sets h store f does)

  -- a header is held: 24 for both arguments, then what the header makes of the call
  pub when_held : header_holds h store ≡ true
      → ((k : LoneHeader) → HoldsAlone h store k → Leaves h store after q (◌>>◌ (refuse_if (not (is_utf8 name && is_utf8 value)) not_utf8) (set_in name value (length store) k)))
      → Set
  unfolding with_param set_in utf8
  when_held t does =
      set_by
      (alone_held Sets h store t
      (λ k a. subst (Leaves h store after q) (sym (texts_by (is_utf8 name) (is_utf8 value) (set_in name value (length store) k))) (does k a)))

-- `new`
pub value_short : (v : Bytes) → passes (header_value v) ≡ true → length v ≤ max_value
unfolding header_value
value_short v h = simp checks at h

abbrev pub fresh : Bytes → LoneHeader
fresh v = record { value = v; params = [] }

makes_leaves : (store : Bytes) (o : Out LoneHeader) → leaves_header (alone_in empty_header store) o ≡ makes_header store o
unfolding leaves_header makes_header
makes_leaves store (accepted h) = refl
makes_leaves store (refused r) = refl

module _ (v store : Bytes) where
  -- what it needs, its layout and its record
  fresh_need : need_alone (fresh v) ≡ 16 + length v
  unfolding need_alone total
  fresh_need = omega arith

  fresh_layout : layout_alone (fresh v) ≡ replicate 16 0 ++ v
  unfolding layout_alone texts
  fresh_layout = ap (λ (x : Bytes). replicate 16 0 ++ x) (append-nil v)

  fresh_record : record { valuelen = length v; params = 0; size = 16 + length v } ≡ header_of (fresh v)
  unfolding header_of
  fresh_record = λ i. record { valuelen = length v; params = 0; size = sym fresh_need i }

  -- the checks of the code, in turn
  abbrev pub steps : Out LoneHeader
  steps =
      ◌>>◌ (refuse_if (not (is_utf8 v)) not_utf8)
      (◌>>◌ (header_value v) (◌>>◌ (refuse_if (ltb (length store) (16 + length v)) (no_room (16 + length v))) (accepted (fresh v))))

  steps_are : new_header v (length store) ≡ steps
  unfolding new_header alone_of utf8 if_room_alone room
  steps_are =
      ap (λ (o : Out LoneHeader). ◌>>◌ (utf8 v) o) (then_bind (header_value v) (fresh v) (if_room_alone (length store)))
      ∙ ap (λ (n : ℕ). ◌>>◌ (utf8 v) (◌>>◌ (header_value v) (◌>>◌ (room (length store) n) (accepted (fresh v))))) fresh_need

  pub made : (k : LentHeader) (n : Numbers) → DoesAlone (alone_in empty_header store) k n steps → MadeHeader v store k n
  made k n d =
      record {
        answered = d.answered ∙ ap numbers (sym steps_are);
        left = d.left ∙ makes_leaves store _ ∙ ap (makes_header store) (sym steps_are);
      }

  -- laid into the store
  pub fresh_laid : (after : Bytes) → after ≡ pasted 16 v (pasted 0 (replicate 16 0) store) → 16 + length v ≤ length store
      → Leaves empty_header store after (Ok (record { valuelen = length v; params = 0; size = 16 + length v })) (accepted (fresh v))
  unfolding leaves_header laid_alone numbers told
  fresh_laid after e fits =
      let laid : after ≡ over (layout_alone (fresh v)) store =
      e
      ∙ pasted_pasted 0 (replicate 16 0) v store (omega arith)
      ∙ pasted_start (replicate 16 0 ++ v) store
      ∙ ap (λ (x : Bytes). over x store) (sym fresh_layout) in
      record { answered = refl; left = λ i. record { header = fresh_record i; store = laid i } }
