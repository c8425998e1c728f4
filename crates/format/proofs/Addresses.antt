-- The address of a value by the value's shape (specs/Addresses.antt), and what follows from it. Assumes nothing.
use Rattle.std.specs.Prelude.{if◌then◌else◌}
use Prim.Native.Nat.{ℕ}
use mathlib.Core.Path.{◌≡◌, refl, sym, ap, ◌∙◌}
use mathlib.Core.Bool.{Bool, true, false, ◌||◌, false≢true}
use mathlib.Core.List.{[], ◌∷◌, ◌++◌, append_assoc, append-nil}
use mathlib.Core.Option.{Option, none, some, none-ne-some, some-injective}
use native.Mathlib.Omega.{arith}
use lib.Dec.{eqb, leb}
use borrow.Author.Tests.{eqb-true, ne_eqb, leb-true}
use Rattle.format.specs.Bytes.{Bytes, all, any, has, up_to, past, quote, less_sign, greater_sign, backslash}
use Rattle.format.specs.Characters.{well_formed, is_utf8}
use Rattle.format.specs.LookingUp.{of_held, closed, opens, quoting_behind, past_opening, address}
use Rattle.format.specs.Addresses.{Enclosed, no_bytes, byte, pair, LeadPiece, string, other, Lead, empty, piece, Addressed, plain_address, Addresses}
use Rattle.format.specs.declared.Quoting.{Quoting}
use Rattle.format.specs.declared.Quoting.TheVariants.{Outside, Inside, Covered}
use Rattle.format.proofs.Lists.{eqb_sym, or_false_left, or_false_right, all_head, all_tail}
use Rattle.format.proofs.Characters.Chars.{whole_high, utf8_cut}
use Rattle.format.proofs.Splitting.Split.{has_at, up_to_at, up_to_past, up_to_clear}

-- From the shape: pieces are passed over.
enclosed_past : {s : Bytes} → Enclosed s → (t : Bytes) → past_opening Inside (s ++ t) ≡ past_opening Inside t
unfolding past_opening opens quoting_behind
enclosed_past no_bytes t = refl
enclosed_past (byte q k e) t = rw (q, k) (enclosed_past e t)
enclosed_past (pair e) t = enclosed_past e t

piece_past : {p : Bytes} → LeadPiece p → (t : Bytes) → past_opening Outside (p ++ t) ≡ past_opening Outside t
unfolding past_opening opens quoting_behind
piece_past (string {s} e) t = rw (append_assoc s (quote ∷ []) t) (enclosed_past e (quote ∷ t))
piece_past (other q l) t = rw (l, q) refl

lead_past : {l : Bytes} → Lead l → (t : Bytes) → past_opening Outside (l ++ t) ≡ past_opening Outside t
lead_past empty t = refl
lead_past (piece {p} {s} x l) t = rw (append_assoc p s t) (piece_past x (s ++ t) ∙ lead_past l t)

-- To the shape: the end of a quoted string, then a lead.
record Closes (v : Bytes) : Type 0 where
  inner : Bytes
  lead : Bytes
  encloses : Enclosed inner
  leads : Lead lead
  shape : v ≡ inner ++ (quote ∷ lead)

-- what may stand before the `<`, by where its first byte stands
abbrev LeadFrom : Quoting → Bytes → Type 0
LeadFrom Outside v = Lead v
LeadFrom Inside v = Closes v
LeadFrom Covered v = (b : ℕ) × (s : Bytes) × Closes s × (v ≡ b ∷ s)

-- one more byte in front
extend : (q : Quoting) (b : ℕ) (v : Bytes) → opens q b ≡ false → LeadFrom (quoting_behind q b) v → LeadFrom q (b ∷ v)
unfolding opens quoting_behind
extend Outside b v o h = go (eqb b quote) refl h
  where
    go : (x : Bool) → eqb b quote ≡ x → LeadFrom (if x then Inside else Outside) v → Lead (b ∷ v)
    go true e c = rw (eqb-true b quote e, c.shape, sym (append_assoc c.inner (quote ∷ []) c.lead)) (piece (string c.encloses) c.leads)
    go false e l = piece (other e o) l
extend Inside b v o h = go (eqb b backslash) refl h
  where
    plain : (x : Bool) → eqb b backslash ≡ false → eqb b quote ≡ x → LeadFrom (if x then Outside else Inside) v → Closes (b ∷ v)
    plain true k e l = record { inner = []; lead = v; encloses = no_bytes; leads = l; shape = ap (λ (a : ℕ). a ∷ v) (eqb-true b quote e) }
    plain false k e c = record { inner = b ∷ c.inner; lead = c.lead; encloses = byte e k c.encloses; leads = c.leads; shape = ap (λ (s : Bytes). b ∷ s) c.shape }

    go : (x : Bool) → eqb b backslash ≡ x → LeadFrom (if x then Covered else if eqb b quote then Outside else Inside) v → Closes (b ∷ v)
    go true e (a, s, c, r) =
        record {
          inner = backslash ∷ a ∷ c.inner;
          lead = c.lead;
          encloses = pair c.encloses;
          leads = c.leads;
          shape = λ i. eqb-true b backslash e i ∷ (r ∙ ap (λ (t : Bytes). a ∷ t) c.shape) i;
        }
    go false e h = plain (eqb b quote) e refl h
extend Covered b v o h = (b, v, h, refl)

-- only a `<` outside quoted strings opens
first : (q : Quoting) (b : ℕ) (s : Bytes) → opens q b ≡ true → LeadFrom q [] × (b ∷ s ≡ less_sign ∷ s)
unfolding opens
first Outside b s o = (empty, ap (λ (a : ℕ). a ∷ s) (eqb-true b less_sign o))
first Inside b s o = absurd (false≢true o)
first Covered b s o = absurd (false≢true o)

lead_from : (q : Quoting) (v s : Bytes) → past_opening q v ≡ some s → (l : Bytes) × LeadFrom q l × (v ≡ l ++ (less_sign ∷ s))
unfolding past_opening
lead_from q [] s e = absurd (none-ne-some s e)
lead_from q (b ∷ v) s e = go (opens q b) refl e (lead_from (quoting_behind q b) v s)
  where
    go : (x : Bool) → opens q b ≡ x → (if x then some v else past_opening (quoting_behind q b) v) ≡ some s
        → (past_opening (quoting_behind q b) v ≡ some s → (l : Bytes) × LeadFrom (quoting_behind q b) l × (v ≡ l ++ (less_sign ∷ s)))
        → (l : Bytes) × LeadFrom q l × (b ∷ v ≡ l ++ (less_sign ∷ s))
    go true o e ih = let f = first q b v o in ([], f.0, f.1 ∙ ap (λ (t : Bytes). less_sign ∷ t) (some-injective v s e))
    go false o e ih = let (l, h, shape) = ih e in (b ∷ l, extend q b l o h, ap (λ (t : Bytes). b ∷ t) shape)

pub opening_shape : (v s : Bytes) → past_opening Outside v ≡ some s → (l : Bytes) × Lead l × (v ≡ l ++ (less_sign ∷ s))
opening_shape v s e = lead_from Outside v s e

-- up to the next `>`
closed_at : (a rest : Bytes) → has greater_sign a ≡ false → closed (a ++ (greater_sign ∷ rest)) ≡ some a
unfolding closed
closed_at a rest h = rw (has_at greater_sign a rest, up_to_at greater_sign a rest h) refl

pub closed_shape : (s a : Bytes) → closed s ≡ some a → (s ≡ a ++ (greater_sign ∷ past greater_sign s)) × (has greater_sign a ≡ false)
unfolding closed
closed_shape s a e = go (has greater_sign s) refl e
  where
    go : (x : Bool) → has greater_sign s ≡ x → (if x then some (up_to greater_sign s) else none) ≡ some a → (s ≡ a ++ (greater_sign ∷ past greater_sign s)) × (has greater_sign a ≡ false)
    go true h e =
        let is : up_to greater_sign s ≡ a = some-injective (up_to greater_sign s) a e in
        (up_to_past greater_sign s h ∙ ap (λ (t : Bytes). t ++ (greater_sign ∷ past greater_sign s)) is, sym (ap (has greater_sign) is) ∙ up_to_clear greater_sign s)
    go false h e = absurd (none-ne-some a e)

-- The address, both ways.
pub address_of : (v a : Bytes) → Addressed v a → address v ≡ some a
unfolding address past_opening opens
address_of v a d =
    rw (d.shape, lead_past d.leads (less_sign ∷ (a ++ (greater_sign ∷ d.rest)))) (closed_at a d.rest d.clear)

pub addressed : (v a : Bytes) → address v ≡ some a → Addressed v a
unfolding address
addressed v a e = go (past_opening Outside v) refl e
  where
    go : (o : Option Bytes) → past_opening Outside v ≡ o → of_held o closed ≡ some a → Addressed v a
    go none p e = absurd (none-ne-some a e)
    go (some s) p e =
        let (l, leads, shape) = lead_from Outside v s p in
        let (ends, clear) = closed_shape s a e in
        record { lead = l; rest = past greater_sign s; leads = leads; shape = shape ∙ ap (λ (t : Bytes). l ++ (less_sign ∷ t)) ends; clear = clear }

no_address_lem : (v : Bytes) → ((a : Bytes) → Addressed v a → ⊥) → address v ≡ none
no_address_lem v h = go (address v) refl
  where
    go : (o : Option Bytes) → address v ≡ o → o ≡ none
    go none e = refl
    go (some a) e = absurd (h a (addressed v a e))

-- a quote that is left unclosed
unclosed_quote : (l s : Bytes) → Lead l → Enclosed s
    → (address (l ++ (quote ∷ s)) ≡ none) × (address (l ++ (quote ∷ (s ++ (backslash ∷ [])))) ≡ none)
unfolding address past_opening opens quoting_behind
unclosed_quote l s t e = (
  rw (lead_past t (quote ∷ s), sym (append-nil s)) (rw (enclosed_past e []) refl),
  rw (lead_past t (quote ∷ (s ++ (backslash ∷ []))), enclosed_past e (backslash ∷ [])) refl,
)

-- without a `<` none opens
pub none_opens : (q : Quoting) (v : Bytes) → has less_sign v ≡ false → past_opening q v ≡ none
unfolding past_opening opens any
none_opens q [] h = refl
none_opens q (b ∷ v) h = rw (other_byte q (or_false_left (eqb less_sign b) (has less_sign v) h)) (none_opens (quoting_behind q b) v (or_false_right (eqb less_sign b) (has less_sign v) h))
  where
    other_byte : (q : Quoting) → eqb less_sign b ≡ false → opens q b ≡ false
    other_byte Outside e = eqb_sym b less_sign ∙ e
    other_byte Inside e = refl
    other_byte Covered e = refl

-- where no quote stands before the first `<`, the first one of all opens
pub first_opens : (v : Bytes) → has quote (up_to less_sign v) ≡ false → past_opening Outside v ≡ (if has less_sign v then some (past less_sign v) else none)
unfolding past_opening opens quoting_behind any up_to past
first_opens [] h = refl
first_opens (b ∷ v) h = rw (eqb_sym b less_sign, eqb_sym b quote) (go (eqb less_sign b) h (first_opens v))
  where
    go : (x : Bool) → has quote (if x then [] else b ∷ up_to less_sign v) ≡ false
        → (has quote (up_to less_sign v) ≡ false → past_opening Outside v ≡ (if has less_sign v then some (past less_sign v) else none))
        → (if x then some v else past_opening (if eqb quote b then Inside else Outside) v)
        ≡ (if (x || has less_sign v) then some (if x then v else past less_sign v) else none)
    go true h ih = refl
    go false h ih =
        rw (or_false_left (eqb quote b) (has quote (up_to less_sign v)) h) (ih (or_false_right (eqb quote b) (has quote (up_to less_sign v)) h))

old_answer : (v : Bytes) → has quote (up_to less_sign v) ≡ false → address v ≡ plain_address v
unfolding address plain_address
old_answer v h = rw (first_opens v h) (go (has less_sign v))
  where
    go : (x : Bool) → of_held (if x then some (past less_sign v) else none) closed ≡ (if x then closed (past less_sign v) else none)
    go true = refl
    go false = refl

-- bytes of 128 or more are neither quotes nor backslashes
high_enclosed : (g s : Bytes) → all (leb 128) g ≡ true → Enclosed s → Enclosed (g ++ s)
high_enclosed [] s h e = e
high_enclosed (b ∷ g) s h e =
    let high = leb-true 128 b (all_head (leb 128) b g h) in
    byte (ne_eqb b quote (omega arith)) (ne_eqb b backslash (omega arith)) (high_enclosed g s (all_tail (leb 128) b g h) e)

covered_character : (g s : Bytes) → well_formed g ≡ true → Enclosed s → Enclosed (backslash ∷ (g ++ s))
unfolding well_formed
covered_character [] s h e = absurd (false≢true h)
covered_character (b ∷ []) s h e = pair e
covered_character (b ∷ c ∷ g) s h e = pair (high_enclosed (c ∷ g) s (all_tail (leb 128) b (c ∷ g) (whole_high b c g h)) e)

address_utf8 : (v a : Bytes) → is_utf8 v ≡ true → address v ≡ some a → is_utf8 a ≡ true
address_utf8 v a u e =
    let d = addressed v a e in
    let behind-sign = utf8_cut d.lead less_sign (a ++ (greater_sign ∷ d.rest)) (omega arith) (sym (ap is_utf8 d.shape) ∙ u) in
    (utf8_cut a greater_sign d.rest (omega arith) behind-sign.1).0

pub addresses : Addresses
addresses =
    record {
      found = λ v a. (addressed v a, address_of v a);
      absent = λ v. ((λ e a d. none-ne-some a (sym e ∙ address_of v a d)), no_address_lem v);
      unclosed = unclosed_quote;
      stays = old_answer;
      covers = covered_character;
      utf8 = address_utf8;
    }
