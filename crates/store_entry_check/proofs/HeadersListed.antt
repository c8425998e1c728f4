-- The walk over headers and into their parameters: what passes is a list of headers, laid out, and such a list laid out passes.
-- Assumes nothing.
use Prim.Native.Nat.{ℕ}
use mathlib.Core.Path.{◌≡◌, refl, sym, ap, ◌∙◌}
use mathlib.Core.Bool.{Bool, true, not, ◌&&◌}
use mathlib.Core.List.{List, [], ◌∷◌, map}
use lib.ListN.{length, length-map}
use borrow.Author.Tests.{leb-true, le-leb}
use Rattle.format.specs.Bytes.{Bytes, is_empty, all, texts}
use Rattle.format.specs.Limits.{max_params}
use Rattle.format.specs.Message.{Header, name_of, ascending, valid_header}
use Rattle.format.specs.Layout.{layout_header}
use Rattle.format.proofs.Lists.{all_head, all_tail, all_cons, all_map}
use Rattle.format.proofs.Rulesets.{tests}
use Rattle.format.proofs.Messages.Checked.{name_checked}
use Rattle.format.proofs.Messages.Parts.{header_parts, header_whole_lem}
use Rattle.store_entries.specs.Stored.{Stored, stored_bytes, stored_header, entries_in}
use Rattle.store_entries.proofs.Sequences.{entries_length}
use Rattle.store_entries.proofs.Layouts.{headers_bytes, headers_read}
use Rattle.store_entry_check.specs.Kinds.{name_check, value_check, params_fit}
use Rattle.store_entry_check.specs.EntriesHold.{fits, entries_hold, tail_holds, headers_hold}
use Rattle.store_entry_check.specs.FromBytes.{header_from, headers_from}
use Rattle.store_entry_check.specs.declared.kinds.Kind.TheVariants as kind
use Rattle.store_entry_check.proofs.NameOrder.{linked, linked_ordered, ordered_linked, behind_none, linked_map, ordered_ascending}
use Rattle.store_entry_check.proofs.EntriesListed.{stored_name, holds_walked, walked_holds, map_back, fits_parts, parts_fit, params_listed, params_hold}

-- what one test gives of every element, another may take up of what is made of it
all_made : {A B : Type 0} (p : A → Bool) (q : B → Bool) (f : A → B) → ((x : A) → p x ≡ true → q (f x) ≡ true)
    → (xs : List A) → all p xs ≡ true → all q (map f xs) ≡ true
unfolding all
all_made p q f e [] h = refl
all_made p q f e (x ∷ xs) h = all_cons q (f x) (map f xs) (e x (all_head p x xs h)) (all_made p q f e xs (all_tail p x xs h))

-- two tests of every element are one
all_both : {A : Type 0} (p q : A → Bool) (xs : List A) → all p xs ≡ true → all q xs ≡ true → all (λ x. p x && q x) xs ≡ true
unfolding all
all_both p q [] h g = refl
all_both p q (x ∷ xs) h g =
    all_cons (λ x. p x && q x) x xs (simp tests (all_head p x xs h, all_head q x xs g)) (all_both p q xs (all_tail p x xs h) (all_tail q x xs g))

-- a header that fits, and its parameters
abbrev whole : Stored → Bool
whole e = fits kind.Header e && tail_holds e

-- One header, read and laid out.
header_back : (e : Stored) → whole e ≡ true → stored_header (header_from e) ≡ e
unfolding stored_header header_from tail_holds
header_back e h =
    let l = params_listed e.params e.tail (simp tests at h).1 in
    λ i. record { name = e.name; value = e.value; params = l.count i; tail = sym l.bytes i }

header_valid_lem : (e : Stored) → whole e ≡ true → valid_header (header_from e) ≡ true
unfolding header_from tail_holds name_check value_check params_fit
header_valid_lem e h =
    let p = simp tests at h in
    let f = fits_parts kind.Header e p.0 in
    let l = params_listed e.params e.tail p.1 in
    header_whole_lem _
    (record {
      named = f.named;
      name_utf8 = f.name_utf8;
      rest = record {
        valued = f.valued;
        value_utf8 = f.value_utf8;
        params = record { each = l.each; ordered = l.names; few = rw l.count (leb-true e.params max_params f.params) };
      };
    })

header_fits : (h : Header) → valid_header h ≡ true → fits kind.Header (stored_header h) ≡ true
unfolding stored_header name_check value_check params_fit
header_fits h v =
    let p = header_parts h v in
    let a = p.rest in
    parts_fit kind.Header (stored_header h)
    (record {
      named = p.named;
      valued = a.valued;
      params = le-leb (length h.params) max_params a.params.few;
      name_utf8 = p.name_utf8;
      value_utf8 = a.value_utf8;
    })

header_tail : (h : Header) → valid_header h ≡ true → tail_holds (stored_header h) ≡ true
unfolding tail_holds stored_header
header_tail h v =
    let ps = (header_parts h v).rest.params in
    params_hold h.params ps.each ps.ordered

header_filled : (h : Header) → valid_header h ≡ true → not (is_empty h.name) ≡ true
header_filled h v = ap not (name_checked h.name (header_parts h v).named).filled

-- Many: bytes, count, each one within limits, names in order.
pub record HeadersListed (n : ℕ) (s : Bytes) (hs : List Header) : Type 0 where
  pub bytes : s ≡ texts layout_header hs
  pub count : length hs ≡ n
  pub each : all valid_header hs ≡ true
  pub names : ascending name_of hs ≡ true

names_linked : (last : Bytes) (hs : List Header) → linked kind.Header stored_name last (map stored_header hs) ≡ linked kind.Header name_of last hs
unfolding stored_header
names_linked last hs = linked_map kind.Header stored_name stored_header last hs

pub headers_listed : (n : ℕ) (s : Bytes) → headers_hold n s ≡ true → HeadersListed n s (headers_from n s)
unfolding headers_hold headers_from
headers_listed n s h =
    let xs = entries_in n s in
    let hs = map header_from xs in
    let p = simp tests at h in
    let w = holds_walked kind.Header n [] s p.0 in
    let each = all_both (fits kind.Header) tail_holds xs w.each p.1 in
    let back : map stored_header hs ≡ xs = map_back whole header_from stored_header header_back xs each in
    record {
      bytes = w.bytes ∙ ap (texts stored_bytes) (sym back) ∙ sym (headers_bytes hs);
      count = length-map xs header_from ∙ entries_length n s;
      each = all_made whole valid_header header_from header_valid_lem xs each;
      names = sym (ordered_ascending name_of hs)
          ∙ (linked_ordered kind.Header name_of [] hs (sym (names_linked [] hs) ∙ ap (linked kind.Header stored_name []) back ∙ w.names)).1;
    }

pub headers_hold_lem : (hs : List Header) → all valid_header hs ≡ true → ascending name_of hs ≡ true → headers_hold (length hs) (texts layout_header hs) ≡ true
unfolding headers_hold
headers_hold_lem hs h g =
    let one = behind_none kind.Header name_of hs (all_map valid_header (λ h. not (is_empty h.name)) header_filled hs h) in
    let walk : entries_hold kind.Header (length hs) [] (texts layout_header hs) ≡ true =
    rw (headers_bytes hs, sym (length-map hs stored_header))
    (walked_holds kind.Header [] (map stored_header hs) (all_made valid_header (fits kind.Header) stored_header header_fits hs h)
    (names_linked [] hs ∙ ordered_linked kind.Header name_of [] hs one (ordered_ascending name_of hs ∙ g))) in
    simp tests (walk, ap (all tail_holds) (headers_read hs) ∙ all_made valid_header tail_holds stored_header header_tail hs h)
