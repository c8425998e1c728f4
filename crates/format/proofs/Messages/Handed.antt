-- A header handed in counts as what its record and store hold, and they hold one thing only: so what a call ensures is `Changed`, and where
-- the header is within limits there are a record and a store to hand in. Assumes nothing.
use Prim.Native.Nat.{ℕ}
use mathlib.Core.Path.{◌≡◌, refl, sym, ap, ◌∙◌, subst}
use mathlib.Core.Bool.{true}
use mathlib.Core.List.{[]}
use mathlib.Core.Option.{Option, none, some}
use native.Mathlib.Omega.{arith}
use Rattle.format.specs.Bytes.{Bytes, all}
use Rattle.format.specs.Message.{LoneHeader, valid_alone}
use Rattle.format.specs.Calls.{
  Call,
  set_body,
  set_header,
  add_header,
  add_header_obj,
  add_content_header,
  with_from,
  with_to,
  with_datetime,
  with_subject,
  with_subject_lang,
  with_cc,
  with_ns,
  with_require,
  with_content_header,
  Lends,
  body_store,
  header_store,
  head_alone,
  lends,
}
use Rattle.format.specs.Layout.{Lent, HoldsAlone, HeldAlone, header, nothing, empty_header}
use Rattle.format.specs.Lending.{LentHeader, laid_alone, Changed, HeaderAdded}
use Rattle.format.specs.Runs.{Ensured}
use Rattle.format.specs.Demand3.{header_valid, holds_header}
use Rattle.format.specs.declared.Numbers.{Numbers}
use Rattle.format.specs.declared.CpimHeader.{CpimHeader}
use Rattle.format.proofs.Messages.Layout.{laid_alone_lem}
use Rattle.format.proofs.Messages.Unique.{holds_alone_unique, empty_holds_alone}

-- only `add_header_obj` is lent a header store
clash_store : {P : Type 0} {name : Bytes} {o : Option LoneHeader} (d : Lends) → d ≡ body_store → d ≡ header_store name o → P
clash_store d p q = let z : ◌≡◌ {A = ℕ} 0 1 = cc in absurd (omega arith)

clash_alone : {P : Type 0} {name : Bytes} {o : Option LoneHeader} (d : Lends) → d ≡ head_alone → d ≡ header_store name o → P
clash_alone d p q = let z : ◌≡◌ {A = ℕ} 0 1 = cc in absurd (omega arith)

lends_obj : (c : Call) (name : Bytes) (o : Option LoneHeader) → lends c ≡ header_store name o → c ≡ add_header_obj name o
unfolding lends
lends_obj (set_body b) name o e = clash_store body_store refl e
lends_obj (set_header n v) name o e = clash_alone head_alone refl e
lends_obj (add_header n v) name o e = clash_alone head_alone refl e
lends_obj (add_header_obj n h) name o e = cc
lends_obj (add_content_header n v) name o e = clash_alone head_alone refl e
lends_obj (with_from v) name o e = clash_alone head_alone refl e
lends_obj (with_to v) name o e = clash_alone head_alone refl e
lends_obj (with_datetime v) name o e = clash_alone head_alone refl e
lends_obj (with_subject v) name o e = clash_alone head_alone refl e
lends_obj (with_subject_lang v l) name o e = clash_alone head_alone refl e
lends_obj (with_cc v) name o e = clash_alone head_alone refl e
lends_obj (with_ns p u) name o e = clash_alone head_alone refl e
lends_obj (with_require v) name o e = clash_alone head_alone refl e
lends_obj (with_content_header n v) name o e = clash_alone head_alone refl e

-- what a header's record and store hold is one thing
held_alone_one : (r : CpimHeader) (store : Bytes) {o q : Option LoneHeader} → HeldAlone r store o → HeldAlone r store q → o ≡ q
held_alone_one r store (header {h = h} a) (header {h = k} b) = ap some (holds_alone_unique r store h k a b)
held_alone_one r store (header {h = h} a) (nothing f) = absurd (f h a)
held_alone_one r store (nothing f) (header {h = h} a) = absurd (f h a)
held_alone_one r store (nothing f) (nothing g) = refl

module _ (c : Call) (l k : Lent) (n : Numbers) where
  pub ensured_changed : Ensured (lends c) c l k n → Changed c l k n
  ensured_changed x = go (lends c) refl x
    where
      go : (d : Lends) → lends c ≡ d → Ensured d c l k n → Changed c l k n
      go body_store e y = y
      go head_alone e y = y
      go (header_store name o) e y = subst (λ x. Changed x l k n) (sym (lends_obj c name o e)) (y.2.added o y.1)

  -- a header that is held is within limits
  held_valid : (name : Bytes) (r : CpimHeader) (store : Bytes) {o : Option LoneHeader} → HeldAlone r store o → header_valid (header_store name o) ≡ true
  unfolding header_valid
  held_valid name r store (header a) = a.within
  held_valid name r store (nothing f) = refl

  pub ensured_handed : Ensured (lends c) c l k n → holds_header c ≡ true
  unfolding header_valid
  ensured_handed x = go (lends c) x
    where
      go : (d : Lends) → Ensured d c l k n → header_valid d ≡ true
      go body_store y = refl
      go head_alone y = refl
      go (header_store name o) y = held_valid name y.0.header y.0.store y.1

  -- a record and a store that hold just this
  holder : (name : Bytes) (o : Option LoneHeader) → header_valid (header_store name o) ≡ true → (h : LentHeader) × HeldAlone h.header h.store o
  unfolding header_valid laid_alone
  holder name none v = (record { header = empty_header; store = [] }, nothing (empty_holds_alone []))
  holder name (some g) v = (laid_alone [] g, header (laid_alone_lem [] g v))

  pub changed_ensured : holds_header c ≡ true → Changed c l k n → Ensured (lends c) c l k n
  changed_ensured v x = go (lends c) refl v
    where
      go : (d : Lends) → lends c ≡ d → header_valid d ≡ true → Ensured d c l k n
      go body_store e w = x
      go head_alone e w = x
      go (header_store name o) e w =
          let h = holder name o w in
          let y : Changed (add_header_obj name o) l k n = subst (λ z. Changed z l k n) (lends_obj c name o e) x in (
            h.0,
            h.1,
            record { added = λ q g. subst (λ z. Changed (add_header_obj name z) l k n) (held_alone_one h.0.header h.0.store h.1 g) y },
          )
