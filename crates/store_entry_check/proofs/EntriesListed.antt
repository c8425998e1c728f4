-- The walk over entries: bytes pass it exactly where they are entries that fit, their names in order. What passes is then a list of
-- parameters or content headers, laid out, and such a list laid out passes. Assumes nothing.
use Prim.Native.Nat.{ℕ, zero, suc}
use mathlib.Core.Path.{◌≡◌, refl, sym, ap, ◌∙◌}
use mathlib.Core.Bool.{Bool, true, false, not, ◌&&◌, false≢true}
use mathlib.Core.List.{List, [], ◌∷◌, ◌++◌, map}
use lib.Dec.{eqb}
use lib.ListN.{length, drop, length-map}
use Rattle.format.specs.Bytes.{Bytes, is_empty, all, texts}
use Rattle.format.specs.Characters.{is_utf8}
use Rattle.format.specs.Refusals.{passes}
use Rattle.format.specs.Validators.{param_name}
use Rattle.format.specs.Message.{Entry, entry_name, increasing, valid_param, valid_content}
use Rattle.format.specs.Layout.{layout_entry}
use Rattle.format.proofs.Lists.{all_head, all_tail, all_map}
use Rattle.format.proofs.Rulesets.{tests, checks}
use Rattle.format.proofs.Messages.Checked.{name_checked}
use Rattle.format.proofs.Messages.Parts.{param_parts, content_parts}
use Rattle.store_entries.specs.Stored.{Stored, stored_bytes, stored_entry, size_in, name_in, shaped_all, entries_in}
use Rattle.store_entries.proofs.EntryShape.{shape_shaped}
use Rattle.store_entries.proofs.EntryRead.{read_shape, read_stored, read_name, read_rest}
use Rattle.store_entries.proofs.Sequences.{entries_bytes, entries_length}
use Rattle.store_entries.proofs.Layouts.{contents_bytes}
use Rattle.store_entry_check.specs.Kinds.{name_check, value_check, params_fit, follows}
use Rattle.store_entry_check.specs.EntriesHold.{fits, entry_holds, entries_hold}
use Rattle.store_entry_check.specs.FromBytes.{entry_from, entries_from}
use Rattle.store_entry_check.specs.declared.kinds.Kind.{Kind}
use Rattle.store_entry_check.specs.declared.kinds.Kind.TheVariants.{Param, Content}
use Rattle.store_entry_check.proofs.NameOrder.{linked, ordered, linked_ordered, ordered_linked, behind_none, linked_map, ordered_params, ordered_contents}

abbrev pub stored_name : Stored → Bytes
stored_name e = e.name

-- the walk over entries as they are stored
pub entries_walk : (k : Kind) (last : Bytes) (es : List Stored)
    → entries_hold k (length es) last (texts stored_bytes es) ≡ (all (fits k) es && linked k stored_name last es)
unfolding entries_hold entry_holds texts is_empty all linked
entries_walk k last [] = refl
entries_walk k last (e ∷ es) =
    let rest = texts stored_bytes es in
    rw (shape_shaped (stored_bytes e ++ rest) (read_shape e rest), read_stored e rest, read_name e rest, read_rest e rest, entries_walk k e.name es)
    (regroup (fits k e) (follows k last e.name) (all (fits k) es) (linked k stored_name e.name es))
  where
    regroup : (a b c d : Bool) → ((a && b) && (c && d)) ≡ ((a && c) && (b && d))
    regroup true true c d = refl
    regroup true false true d = refl
    regroup true false false d = refl
    regroup false b c d = refl

pub holds_shaped : (k : Kind) (n : ℕ) (last s : Bytes) → entries_hold k n last s ≡ true → shaped_all n s ≡ true
unfolding entries_hold entry_holds shaped_all
holds_shaped k zero last s h = h
holds_shaped k (suc n) last s h =
    let p = simp tests at h in
    simp tests (p.0.0, holds_shaped k n (name_in s) (drop (size_in s) s) p.1)

-- What passes the walk: entries that fit, their names in order.
pub record Walked (k : Kind) (n : ℕ) (last s : Bytes) : Type 0 where
  pub bytes : s ≡ texts stored_bytes (entries_in n s)
  pub each : all (fits k) (entries_in n s) ≡ true
  pub names : linked k stored_name last (entries_in n s) ≡ true

pub holds_walked : (k : Kind) (n : ℕ) (last s : Bytes) → entries_hold k n last s ≡ true → Walked k n last s
holds_walked k n last s h =
    let es = entries_in n s in
    let b = entries_bytes n s (holds_shaped k n last s h) in
    let w : (all (fits k) es && linked k stored_name last es) ≡ true =
    sym (entries_walk k last es) ∙ ap (λ (i : ℕ). entries_hold k i last (texts stored_bytes es)) (entries_length n s) ∙ ap (entries_hold k n last) (sym b) ∙ h in
    let p = simp tests at w in
    record { bytes = b; each = p.0; names = p.1 }

pub walked_holds : (k : Kind) (last : Bytes) (es : List Stored) → all (fits k) es ≡ true → linked k stored_name last es ≡ true
    → entries_hold k (length es) last (texts stored_bytes es) ≡ true
walked_holds k last es h g = rw (entries_walk k last es) (simp tests (h, g))

pub all_mapped : {A B : Type 0} (p : B → Bool) (q : A → Bool) (f : A → B) → ((x : A) → p (f x) ≡ q x) → (xs : List A) → all p (map f xs) ≡ all q xs
unfolding all
all_mapped p q f e [] = refl
all_mapped p q f e (x ∷ xs) = rw (e x, all_mapped p q f e xs) refl

-- a list made anew of what was taken from it
pub map_back : {A B : Type 0} (p : A → Bool) (f : A → B) (g : B → A) → ((x : A) → p x ≡ true → g (f x) ≡ x)
    → (xs : List A) → all p xs ≡ true → map g (map f xs) ≡ xs
map_back p f g e [] h = refl
map_back p f g e (x ∷ xs) h = λ i. e x (all_head p x xs h) i ∷ map_back p f g e xs (all_tail p x xs h) i

-- Parameters or content headers: bytes, count, each one within limits, names in order.
pub record Listed (passed : Entry → Bool) (n : ℕ) (s : Bytes) (es : List Entry) : Type 0 where
  pub bytes : s ≡ texts layout_entry es
  pub count : length es ≡ n
  pub each : all passed es ≡ true
  pub names : increasing entry_name es ≡ true

module _ (k : Kind) (passed : Entry → Bool)
    (same : (e : Entry) → fits k (stored_entry e) ≡ passed e)
    (bare : (x : Stored) → fits k x ≡ true → stored_entry (entry_from x) ≡ x)
    (filled : (e : Entry) → passed e ≡ true → not (is_empty e.name) ≡ true)
    (order : (es : List Entry) → ordered k entry_name es ≡ increasing entry_name es) where
  names_linked : (last : Bytes) (es : List Entry) → linked k stored_name last (map stored_entry es) ≡ linked k entry_name last es
  unfolding stored_entry
  names_linked last es = linked_map k stored_name stored_entry last es

  listed : (n : ℕ) (s : Bytes) → entries_hold k n [] s ≡ true → Listed passed n s (entries_from n s)
  unfolding entries_from
  listed n s h =
      let w = holds_walked k n [] s h in
      let xs = entries_in n s in
      let es = map entry_from xs in
      let back : map stored_entry es ≡ xs = map_back (fits k) entry_from stored_entry bare xs w.each in
      record {
        bytes = w.bytes ∙ ap (texts stored_bytes) (sym back) ∙ sym (contents_bytes es);
        count = length-map xs entry_from ∙ entries_length n s;
        each = sym (all_mapped (fits k) passed stored_entry same es) ∙ ap (all (fits k)) back ∙ w.each;
        names = sym (order es) ∙ (linked_ordered k entry_name [] es (sym (names_linked [] es) ∙ ap (linked k stored_name []) back ∙ w.names)).1;
      }

  list_holds : (es : List Entry) → all passed es ≡ true → increasing entry_name es ≡ true → entries_hold k (length es) [] (texts layout_entry es) ≡ true
  list_holds es h g =
      let one = behind_none k entry_name es (all_map passed (λ e. not (is_empty e.name)) filled es h) in
      rw (contents_bytes es, sym (length-map es stored_entry))
      (walked_holds k [] (map stored_entry es) (all_mapped (fits k) passed stored_entry same es ∙ h)
      (names_linked [] es ∙ ordered_linked k entry_name [] es one (order es ∙ g)))

-- an entry without parameters
no_tail : (n : ℕ) (t : Bytes) → (eqb n 0 && is_empty t) ≡ true → (n ≡ 0) × (t ≡ [])
unfolding is_empty
no_tail n [] h = ((simp tests at h).0, refl)
no_tail n (b ∷ t) h = absurd (false≢true (simp tests at h).1)

-- What an entry that fits is.
pub record Fit (k : Kind) (e : Stored) : Type 0 where
  pub named : passes (name_check k e.name) ≡ true
  pub valued : passes (value_check k e.value) ≡ true
  pub params : params_fit k e.params e.tail ≡ true
  pub name_utf8 : is_utf8 e.name ≡ true
  pub value_utf8 : is_utf8 e.value ≡ true

pub fits_parts : (k : Kind) (e : Stored) → fits k e ≡ true → Fit k e
unfolding fits
fits_parts k e h = search (simp tests at h)

pub parts_fit : (k : Kind) (e : Stored) → Fit k e → fits k e ≡ true
unfolding fits
parts_fit k e f = simp tests (search)

bare_stored : (x : Stored) → (eqb x.params 0 && is_empty x.tail) ≡ true → stored_entry (entry_from x) ≡ x
unfolding stored_entry entry_from
bare_stored x h =
    let e = no_tail x.params x.tail h in
    λ i. record { name = x.name; value = x.value; params = sym e.0 i; tail = sym e.1 i }

-- Parameters.
param_fits : (e : Entry) → fits Param (stored_entry e) ≡ valid_param e
unfolding fits name_check value_check params_fit stored_entry valid_param is_empty
param_fits e = refl

param_bare : (x : Stored) → fits Param x ≡ true → stored_entry (entry_from x) ≡ x
unfolding params_fit
param_bare x h = bare_stored x (fits_parts Param x h).params

param_name_filled : (s : Bytes) → passes (param_name s) ≡ true → is_empty s ≡ false
unfolding param_name
param_name_filled s h = (simp checks at h).0

param_filled : (e : Entry) → valid_param e ≡ true → not (is_empty e.name) ≡ true
param_filled e h = ap not (param_name_filled e.name (param_parts e h).named)

pub params_listed : (n : ℕ) (s : Bytes) → entries_hold Param n [] s ≡ true → Listed valid_param n s (entries_from n s)
params_listed = listed Param valid_param param_fits param_bare param_filled (ordered_params entry_name)

pub params_hold : (es : List Entry) → all valid_param es ≡ true → increasing entry_name es ≡ true → entries_hold Param (length es) [] (texts layout_entry es) ≡ true
params_hold = list_holds Param valid_param param_fits param_bare param_filled (ordered_params entry_name)

-- Content headers.
content_fits : (e : Entry) → fits Content (stored_entry e) ≡ valid_content e
unfolding fits name_check value_check params_fit stored_entry valid_content is_empty
content_fits e = refl

content_bare : (x : Stored) → fits Content x ≡ true → stored_entry (entry_from x) ≡ x
unfolding params_fit
content_bare x h = bare_stored x (fits_parts Content x h).params

content_filled : (e : Entry) → valid_content e ≡ true → not (is_empty e.name) ≡ true
content_filled e h = ap not (name_checked e.name (content_parts e h).named).filled

pub contents_listed : (n : ℕ) (s : Bytes) → entries_hold Content n [] s ≡ true → Listed valid_content n s (entries_from n s)
contents_listed = listed Content valid_content content_fits content_bare content_filled (ordered_contents entry_name)

pub contents_hold : (es : List Entry) → all valid_content es ≡ true → increasing entry_name es ≡ true → entries_hold Content (length es) [] (texts layout_entry es) ≡ true
contents_hold = list_holds Content valid_content content_fits content_bare content_filled (ordered_contents entry_name)
