-- Document 02, T-02: which part of a value its address is, said by the shape of the value and not by a walk over its bytes, as `address` in
-- LookingUp.antt is. Laxer than RFC 3862, which has either words or one `String` before the `<`, and in a `String` no controls and few escapes:
-- here words and quoted strings come in any order, any byte may stand between quotes, and a backslash there covers any. Proved as `addresses` in
-- proofs/Addresses.antt. Assumes nothing.
use Rattle.std.specs.Prelude.{ℕ, ◌≡◌, true, false, ◌↔◌, [], ◌∷◌, ◌++◌, eqb, if◌then◌else◌}
use Rattle.std.proofs.Math.Option.{Option, none, some}
use Rattle.format.specs.Bytes.{Bytes, has, up_to, past, quote, less_sign, greater_sign, backslash}
use Rattle.format.specs.Characters.{well_formed, is_utf8}
use Rattle.format.specs.LookingUp.{closed, address}

-- What stands between the quotes of a quoted string: bytes other than quote and backslash, and pairs of a backslash and the byte that it
-- covers.
pub data Enclosed : Bytes → Type 0 where
  no_bytes : Enclosed []
  byte : {b : ℕ} {s : Bytes} → eqb b quote ≡ false → eqb b backslash ≡ false → Enclosed s → Enclosed (b ∷ s)
  pair : {b : ℕ} {s : Bytes} → Enclosed s → Enclosed (backslash ∷ b ∷ s)

-- A piece of what stands before the `<`: a quoted string, or a byte that neither begins one nor is a `<`.
pub data LeadPiece : Bytes → Type 0 where
  string : {s : Bytes} → Enclosed s → LeadPiece (quote ∷ (s ++ (quote ∷ [])))
  other : {b : ℕ} → eqb b quote ≡ false → eqb b less_sign ≡ false → LeadPiece (b ∷ [])

-- What stands before the `<`: any number of pieces. None of them ends inside quotes.
pub data Lead : Bytes → Type 0 where
  empty : Lead []
  piece : {p s : Bytes} → LeadPiece p → Lead s → Lead (p ++ s)

-- v is a lead, `<`, a, `>` and any rest, and a has no `>`
pub record Addressed (v a : Bytes) : Type 0 where
  pub lead : Bytes
  pub rest : Bytes
  pub leads : Lead lead
  pub shape : v ≡ lead ++ (less_sign ∷ (a ++ (greater_sign ∷ rest)))
  pub clear : has greater_sign a ≡ false

-- document 01's rule: between the first `<` of all and the next `>`
unfoldable pub plain_address : Bytes → Option Bytes
plain_address v = if has less_sign v then closed (past less_sign v) else none

pub record Addresses : Type 0 where
  -- The address of v is a exactly when v has that shape; there is none exactly when it has it for no a.
  pub found : (v a : Bytes) → (address v ≡ some a) ↔ Addressed v a
  pub absent : (v : Bytes) → (address v ≡ none) ↔ ((a : Bytes) → Addressed v a → ⊥)
  -- A quote that is left unclosed leaves no address, also where the last byte is a backslash with nothing to cover.
  pub unclosed : (l s : Bytes) → Lead l → Enclosed s →
      (address (l ++ (quote ∷ s)) ≡ none) × (address (l ++ (quote ∷ (s ++ (backslash ∷ [])))) ≡ none)
  -- Where no quote stands before the first `<`, document 01's answer stays.
  pub stays : (v : Bytes) → has quote (up_to less_sign v) ≡ false → address v ≡ plain_address v
  -- Bytes and characters agree. A backslash inside quotes covers the whole character behind it, and the address in a UTF-8 text is UTF-8.
  pub covers : (g s : Bytes) → well_formed g ≡ true → Enclosed s → Enclosed (backslash ∷ (g ++ s))
  pub utf8 : (v a : Bytes) → is_utf8 v ≡ true → address v ≡ some a → is_utf8 a ≡ true
