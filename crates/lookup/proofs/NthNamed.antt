-- The n-th header of a name is the n-th of the list of those headers; its value and its parameters. Assumes nothing.
use Rattle.std.specs.Prelude.{if◌then◌else◌}
use Prim.Native.Nat.{ℕ}
use mathlib.Core.Path.{◌≡◌, refl, ap, ◌∙◌}
use mathlib.Core.Bool.{Bool, true, false}
use mathlib.Core.List.{[]}
use mathlib.Core.Option.{Option, none, some}
use Rattle.format.specs.Bytes.{Bytes}
use Rattle.format.specs.Characters.{is_utf8}
use Rattle.format.specs.Message.{Header, Message, name_of, only}
use Rattle.format.specs.Layout.{layout_entry, layout_header}
use Rattle.format.specs.LookingUp.{nth, mapped, of_held, nth_header, get_header_value, get_param}
use Rattle.store_entries.specs.Stored.{stored_header, entries_in}
use Rattle.lookup_nth.specs.Listed.{Listed, params_of, stored_of}
use Rattle.lookup_nth.specs.declared.Entry.{Entry}
use Rattle.lookup_nth.proofs.NthElement.{nth_header_lem, header_stored}
use Rattle.lookup_named.specs.HeadersNamed.{headers_named}

pub nth_named : (o : Option Message) (name : Bytes) (n : ℕ) → nth_header o name n ≡ nth n (headers_named o name)
unfolding nth_header headers_named nth
nth_named none name n = refl
nth_named (some k) name n = by (is_utf8 name)
  where
    by : (u : Bool) → (if u then nth n (only name_of name k.headers) else none) ≡ nth n (if u then only name_of name k.headers else [])
    by true = refl
    by false = refl

pub nth_param : (o : Option Message) (name : Bytes) (k n : ℕ) → get_param o name k n ≡ nth n (params_of (nth_header o name k))
unfolding get_param nth
nth_param o name k n = by (nth_header o name k)
  where
    by : (o : Option Header) → of_held o (λ h. nth n h.params) ≡ nth n (params_of o)
    by none = refl
    by (some h) = refl

-- the n-th entry of those where the headers of a name stand
module _ (o : Option Message) (name s : Bytes) (many n : ℕ) (l : Listed layout_header (headers_named o name) s many) where
  stored_named : nth n (entries_in many s) ≡ mapped stored_header (nth_header o name n)
  stored_named = rw (nth_named o name n) (nth_header_lem (headers_named o name) s many l n)

  pub no_named_value : none ≡ nth n (entries_in many s) → none ≡ get_header_value o name n
  unfolding get_header_value
  no_named_value e = by (nth_header o name n) (e ∙ stored_named)
    where
      by : (o : Option Header) → none ≡ mapped stored_header o → none ≡ mapped (λ h. h.value) o
      by none e = refl
      by (some h) e = cc

  pub no_named_param : (i : ℕ) → none ≡ nth n (entries_in many s) → none ≡ get_param o name n i
  unfolding get_param
  no_named_param i e = by (nth_header o name n) (e ∙ stored_named)
    where
      by : (o : Option Header) → none ≡ mapped stored_header o → none ≡ of_held o (λ h. nth i h.params)
      by none e = refl
      by (some h) e = cc

  module _ (r : Entry) (given : some (stored_of r) ≡ nth n (entries_in many s)) where
    pub named_value : some r.value.now ≡ get_header_value o name n
    unfolding get_header_value
    named_value = by (nth_header o name n) (given ∙ stored_named)
      where
        by : (o : Option Header) → some (stored_of r) ≡ mapped stored_header o → some r.value.now ≡ mapped (λ h. h.value) o
        by none e = cc
        by (some h) e =
            let same : stored_of r ≡ stored_header h = cc in
            ap (λ (b : Bytes). some b) (header_stored r h same).0

    pub named_params : Listed layout_entry (params_of (nth_header o name n)) r.params.bytes.now r.params.count
    named_params = by (nth_header o name n) (given ∙ stored_named)
      where
        by : (o : Option Header) → some (stored_of r) ≡ mapped stored_header o → Listed layout_entry (params_of o) r.params.bytes.now r.params.count
        by none e = cc
        by (some h) e =
            let same : stored_of r ≡ stored_header h = cc in
            (header_stored r h same).1
