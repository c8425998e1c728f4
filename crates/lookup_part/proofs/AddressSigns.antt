-- The address by the places of the two signs. Assumes nothing.
use Prim.Native.Nat.{ℕ, ◌+◌, ◌-◌, ◌≤◌, ◌<◌}
use mathlib.Core.Path.{◌≡◌, refl, sym, ap, ◌∙◌}
use mathlib.Core.Bool.{true, false}
use mathlib.Core.List.{[], ◌∷◌, ◌++◌, append_assoc}
use mathlib.Core.Option.{Option, none, some, none-ne-some}
use native.Mathlib.Numerals.{add-one}
use native.Mathlib.Omega.{arith}
use lib.ListN.{length, take, drop, get_or, length-append, length-drop, drop_of_length-le}
use lib.Seq.{length-take-le, drop-cons, take-append_seam, drop-append_seam}
use borrow.Author.Tests.{lt-ltb, le-ltb}
use Rattle.format.specs.Bytes.{Bytes, has, up_to, past, quote, less_sign, greater_sign}
use Rattle.format.specs.LookingUp.{of_held, counted, mapped, closed, opens, quoting_behind, past_opening, address}
use Rattle.format.specs.declared.Quoting.{Quoting}
use Rattle.format.specs.declared.Quoting.TheVariants.{Outside}
use Rattle.format.proofs.Lists.{rest_is}
use Rattle.format.proofs.Addresses.{none_opens, first_opens, opening_shape, closed_shape}
use Rattle.octets.proofs.Find.{found_within, found_up_to, found_past, found_has}
use Rattle.lookup_part.specs.AddressSpan.{opening_place, opening_at, span_at, span_of}
use Rattle.lookup_part.specs.declared.Span.{Span}

-- The walk to the `<`: at is where the byte at i stands.
module _ (v : Bytes) (at : Quoting) (i : ℕ) (walked : past_opening Outside v ≡ past_opening at (drop i v)) where
  pub opens_here : i < length v → opens at (get_or v i 0) ≡ true → some i ≡ opening_at v
  unfolding opening_at past_opening
  opens_here h o =
      let behind-it : i ≡ length v - (length (drop (i + 1) v) + 1) = omega (arith, length-drop (i + 1) v) in
      rw (walked, drop-cons v i 0 h, o, sym (add-one i)) (ap (λ (n : ℕ). some n) behind-it)

  pub opens_later : i < length v → opens at (get_or v i 0) ≡ false → past_opening Outside v ≡ past_opening (quoting_behind at (get_or v i 0)) (drop (i + 1) v)
  unfolding past_opening
  opens_later h o = rw (walked, drop-cons v i 0 h, o, add-one i) refl

  pub opens_nowhere : length v ≤ i → none ≡ opening_at v
  unfolding opening_at past_opening
  opens_nowhere h = rw (walked, drop_of_length-le v {i = i} h) refl

-- The first `<` of all.
module _ (v : Bytes) (first : ℕ) (found : first ≡ length (up_to less_sign v)) where
  pub without_sign : first ≡ length v → none ≡ opening_at v
  unfolding opening_at
  without_sign e = rw (none_opens Outside v (found_has less_sign v first found ∙ le-ltb first (length v) (omega arith))) refl

  -- a search for a quote before it goes to the end
  pub without_quote : first < length v → (to : ℕ) → to ≡ length (up_to quote (take first v)) → to ≡ first → some first ≡ opening_at v
  unfolding opening_at
  without_quote h to searched e =
      let clear : has quote (up_to less_sign v) ≡ false =
      ap (has quote) (found_up_to less_sign v first found)
      ∙ (found_has quote (take first v) to searched ∙ le-ltb to (length (take first v)) (omega (arith, e, length-take-le first v (found_within less_sign v first found)))) in
      let place : first ≡ length v - (length (drop (first + 1) v) + 1) = omega (arith, length-drop (first + 1) v) in
      rw (first_opens v clear, found_has less_sign v first found, lt-ltb first (length v) h, found_past less_sign v first found) (ap (λ (n : ℕ). some n) place)

pub not_opened : (v : Bytes) → none ≡ opening_at v → none ≡ span_of v
unfolding opening_at span_of address
not_opened v = go (past_opening Outside v)
  where
    go : (o : Option Bytes) → none ≡ mapped (λ s. length v - (length s + 1)) o → none ≡ mapped (span_at (opening_place v + 1)) (of_held o closed)
    go none e = refl
    go (some s) e = cc

-- The `<` at its place, and what stands behind it.
pub record Opened (v : Bytes) (at : ℕ) : Type 0 where
  pub place : at ≡ opening_place v
  pub within : at < length v
  pub behind : past_opening Outside v ≡ some (drop (at + 1) v)

pub opened : (v : Bytes) (at : ℕ) → some at ≡ opening_at v → Opened v at
unfolding opening_at opening_place
opened v at = go (past_opening Outside v) refl
  where
    go : (o : Option Bytes) → past_opening Outside v ≡ o → some at ≡ mapped (λ s. length v - (length s + 1)) o → Opened v at
    go none p e = cc
    go (some s) p e =
        let (l, leads, shape) = opening_shape v s p in
        let lead-end : v ≡ (l ++ (less_sign ∷ [])) ++ s = shape ∙ sym (append_assoc l (less_sign ∷ []) s) in
        let is : at ≡ length v - (length s + 1) = cc in
        let ends : at + 1 ≡ length (l ++ (less_sign ∷ [])) = omega (arith, is, ap length lead-end, length-append (l ++ (less_sign ∷ [])) s, length-append l (less_sign ∷ [])) in
        let rest : s ≡ drop (at + 1) v = sym ((λ i. drop (ends i) (lead-end i)) ∙ drop-append_seam (l ++ (less_sign ∷ [])) s) in
        record {
          place = is ∙ ap (λ (o : Option Bytes). length v - counted o (λ s. length s + 1)) (sym p);
          within = omega (arith, is, ap length shape, length-append l (less_sign ∷ s));
          behind = p ∙ ap (λ (s : Bytes). some s) rest;
        }

-- The next `>`, searched for behind the `<`.
module _ (v : Bytes) (at : ℕ) (opening : some at ≡ opening_at v) where
  pub opening_within : at < length v
  opening_within = (opened v at opening).within

  module _ (to : ℕ) (found : to ≡ length (up_to greater_sign (take (length v - (at + 1)) (drop (at + 1) v)))) where
    found_behind : to ≡ length (up_to greater_sign (drop (at + 1) v))
    found_behind = rw (rest_is v (at + 1)) at found

    pub closed_within : to ≤ length v - (at + 1)
    closed_within = omega (arith, found_within greater_sign (drop (at + 1) v) to found_behind, length-drop (at + 1) v)

    pub not_closed : to ≡ length (take (length v - (at + 1)) (drop (at + 1) v)) → none ≡ span_of v
    unfolding span_of address closed
    not_closed e =
        let s = drop (at + 1) v in
        let all : to ≡ length s = rw (rest_is v (at + 1)) at e in
        rw ((opened v at opening).behind, found_has greater_sign s to found_behind, le-ltb to (length s) (omega (arith, all))) refl

    pub closed_at : (to ≡ length (take (length v - (at + 1)) (drop (at + 1) v)) → ⊥) → some (record { from = at + 1; to = (at + 1) + to }) ≡ span_of v
    unfolding span_of address closed
    closed_at e =
        let s = drop (at + 1) v in
        let o = opened v at opening in
        let within = found_within greater_sign s to found_behind in
        let less : to < length s = omega (arith, within, λ (all : to ≡ length s). e (all ∙ ap length (sym (rest_is v (at + 1))))) in
        rw (o.behind, found_has greater_sign s to found_behind, lt-ltb to (length s) less, found_up_to greater_sign s to found_behind, sym o.place, length-take-le to s within) refl

-- What stands at the span.
pub record Spans (v : Bytes) (from to : ℕ) : Type 0 where
  pub part : Bytes
  pub is_address : address v ≡ some part
  pub begins : from ≡ opening_place v + 1
  pub ends : to ≡ from + length part
  pub within : to ≤ length v
  pub there : take (to - from) (drop from v) ≡ part

pub span_absent : (v : Bytes) → none ≡ span_of v → none ≡ address v
unfolding span_of
span_absent v = go (address v)
  where
    go : (o : Option Bytes) → none ≡ mapped (span_at (opening_place v + 1)) o → none ≡ o
    go none e = refl
    go (some a) e = cc

-- an address stands behind its `<`
address_behind : (v : Bytes) (at : ℕ) → Opened v at → (a : Bytes) → address v ≡ some a → drop (at + 1) v ≡ a ++ (greater_sign ∷ past greater_sign (drop (at + 1) v))
unfolding address
address_behind v at o a e = (closed_shape (drop (at + 1) v) a (sym (ap (λ (p : Option Bytes). of_held p closed) o.behind) ∙ e)).0

some_opening : (v a : Bytes) → address v ≡ some a → some (opening_place v) ≡ opening_at v
unfolding address opening_place opening_at
some_opening v a = by (past_opening Outside v)
  where
    by : (o : Option Bytes) → of_held o closed ≡ some a → some (length v - counted o (λ s. length s + 1)) ≡ mapped (λ s. length v - (length s + 1)) o
    by none e = absurd (none-ne-some a e)
    by (some s) e = refl

pub span_there : (v : Bytes) (from to : ℕ) → some (record { from = from; to = to }) ≡ span_of v → Spans v from to
unfolding span_of
span_there v from to = go (address v) refl
  where
    go : (o : Option Bytes) → address v ≡ o → some (record { from = from; to = to }) ≡ mapped (span_at (opening_place v + 1)) o → Spans v from to
    go none a e = cc
    go (some a) i e =
        let at = opening_place v in
        let shape = address_behind v at (opened v at (some_opening v a i)) a i in
        let same : ◌≡◌ {A = Span} (record { from = from; to = to }) (span_at (at + 1) a) = cc in
        let begins : from ≡ at + 1 = ap (λ (r : Span). r.from) same in
        let ends : to ≡ from + length a = ap (λ (r : Span). r.to) same ∙ ap (λ (n : ℕ). n + length a) (sym begins) in
        let len : to - from ≡ length a = omega (arith, ends) in
        record {
          part = a;
          is_address = i;
          begins = begins;
          ends = ends;
          within = omega (arith, ends, begins, ap length shape, length-append a (greater_sign ∷ past greater_sign (drop (at + 1) v)), length-drop (at + 1) v);
          there = (λ i. take (len i) (drop (begins i) v)) ∙ (ap (take (length a)) shape ∙ take-append_seam a (greater_sign ∷ past greater_sign (drop (at + 1) v)));
        }
