-- A header line by either reading, step by step: the colon, what stands in front of the value, the value and the header appended. Assumes
-- nothing.
use Rattle.std.specs.Prelude.{Result, Err}
use Rattle.std.specs.Result.{IsErrAnd}
use Prim.Native.Nat.{ℕ, ◌+◌, ◌-◌, ◌≤◌, ◌<◌}
use mathlib.Core.Path.{◌≡◌, refl, sym, ap, ◌∙◌, subst}
use mathlib.Core.Bool.{true, false, not}
use mathlib.Core.List.{List, [], ◌∷◌}
use native.Mathlib.Omega.{arith}
use lib.ListN.{length, take, drop}
use borrow.Author.Tests.{lt-ltb, le-ltb}
use Rattle.format.specs.Bytes.{Bytes, colon, semicolon, has, up_to, past, split}
use Rattle.format.specs.Characters.{is_utf8}
use Rattle.format.specs.Escaping.{unescape_by}
use Rattle.format.specs.Refusals.{Out, accepted, refused, lacks_colon, lacks_space, numbers, refuse_if, ◌>>◌, ◌>>=◌}
use Rattle.format.specs.Validators.{header_name}
use Rattle.format.specs.Message.{Entry, Header, Message}
use Rattle.format.specs.Calls.{Stores, append}
use Rattle.format.specs.Layout.{Lent}
use Rattle.format.specs.Lending.{lengths, leaves}
use Rattle.format.specs.Reading.{each, checked_value, read_value, read_name_and_value, read_header, read_line}
use Rattle.format.specs.ReadingRfc.{read_right, read_header_rfc, line_reader}
use Rattle.format.specs.Told.{told, meant}
use Rattle.format.specs.declared.CpimMessage.{CpimMessage}
use Rattle.format.specs.declared.Numbers.{Numbers}
use Rattle.format.specs.declared.refusal.Refusal.{Refusal}
use Rattle.format.specs.declared.refusal.Refusal.TheVariants as code
use Rattle.format.specs.declared.Manner.{Manner}
use Rattle.format.specs.declared.Manner.TheVariants.{Source, Rfc}
use Rattle.format.proofs.Lists.{rest_is}
use Rattle.format.proofs.Steps.{then_passed, then_on}
use Rattle.format.proofs.Rulesets.{checks}
use Rattle.format.proofs.Splitting.SplitUtf8.{up_to_utf8, past_utf8}
use Rattle.octets.proofs.Find.{found_up_to, found_past, found_has}
use Rattle.message_edit.specs.Edits.{Does}
use Rattle.read_header_line.specs.Gathered.{Yields}
use Rattle.read_header_line.proofs.Yielding.{does_ended, does_on}
use Rattle.read_header_line.specs.HeaderLine.{name_by, params_by, value_by, misplaced_by, param_reader, read_front, append_read}

-- two steps, and what goes on with what they give
two_steps : {A B C D : Type 0} (a : Out A) (b : Out B) (f : A → B → C) (g : C → Out D)
    → ◌>>=◌ (◌>>=◌ a (λ p. ◌>>=◌ b (λ q. accepted (f p q)))) g ≡ ◌>>=◌ a (λ p. ◌>>=◌ b (λ q. g (f p q)))
unfolding ◌>>=◌
two_steps (refused r) b f g = refl
two_steps (accepted p) (refused r) f g = refl
two_steps (accepted p) (accepted q) f g = refl

-- both readings of a line are one, but for the parts that they take
by_parts : (r : Manner) (line : Bytes) → line_reader r line
    ≡ do
      refuse_if (not (has colon line)) lacks_colon
      header_name (name_by r (up_to colon line))
      refuse_if (misplaced_by r (past colon line)) lacks_space
      ps ← each (param_reader r) (split (semicolon ∷ []) (params_by r (up_to colon line) (past colon line))).rest []
      v ← checked_value (unescape_by r (value_by r (past colon line)))
      accepted (record { name = name_by r (up_to colon line); value = v; params = ps })
unfolding read_header read_name_and_value read_value read_header_rfc read_right refuse_if ◌>>◌
by_parts Source line = refl
by_parts Rfc line = refl

module _ (r : Manner) (line : Bytes) (stores : Stores) (k : Message) where
  steps : read_line (line_reader r) stores line k
      ≡ ◌>>◌ (refuse_if (not (has colon line)) lacks_colon)
      (◌>>=◌ (read_front r (up_to colon line) (past colon line))
      (λ ps. append_read (name_by r (up_to colon line)) (checked_value (unescape_by r (value_by r (past colon line)))) ps stores k))
  unfolding read_line read_front append_read
  steps =
      let name = name_by r (up_to colon line) in
      let named = header_name name in
      let placed = refuse_if (misplaced_by r (past colon line)) lacks_space in
      let params = each (param_reader r) (split (semicolon ∷ []) (params_by r (up_to colon line) (past colon line))).rest [] in
      let made : List Entry → Bytes → Header = λ ps v. record { name = name; value = v; params = ps } in
      let appended : Header → Out Message = λ h. append h stores k in
      ap (λ (o : Out Header). ◌>>=◌ o appended) (by_parts r line)
      ∙ sym (then_on (refuse_if (not (has colon line)) lacks_colon) _ appended)
      ∙ ap (◌>>◌ (refuse_if (not (has colon line)) lacks_colon))
      (sym (then_on named _ appended)
      ∙ ap (◌>>◌ named)
      (sym (then_on placed _ appended)
      ∙ ap (◌>>◌ placed) (two_steps params (checked_value (unescape_by r (value_by r (past colon line)))) made appended)
      ∙ then_on placed params _)
      ∙ then_on named (◌>>◌ placed params) _)

-- the bytes before a place that was found
pub found_length : (c : ℕ) (s : Bytes) (at : ℕ) → at ≡ length (up_to c s) → at ≡ length (take at s)
found_length c s at found = found ∙ ap length (found_up_to c s at found)

-- The place of the first colon, and what stands left and right of it.
module _ (line : Bytes) (at : ℕ) (found : at ≡ length (up_to colon line)) where
  abbrev right_of : Bytes
  right_of = take (length line - (at + 1)) (drop (at + 1) line)

  left_is : take at line ≡ up_to colon line
  left_is = sym (found_up_to colon line at found)

  right_is : take (length line - (at + 1)) (drop (at + 1) line) ≡ past colon line
  right_is = rest_is line (at + 1) ∙ sym (found_past colon line at found)

  pub left_utf8 : is_utf8 line ≡ true → is_utf8 (take at line) ≡ true
  left_utf8 u = ap is_utf8 left_is ∙ up_to_utf8 colon line (omega arith) u

  pub right_utf8 : is_utf8 line ≡ true → is_utf8 (take (length line - (at + 1)) (drop (at + 1) line)) ≡ true
  right_utf8 u = ap is_utf8 right_is ∙ past_utf8 colon line (omega arith) u

  -- 4
  pub no_colon : (r : Manner) (l : Lent) (k : Message) → length line ≤ at → Does l l (told {A = CpimMessage} (Err code.LacksColon)) (read_line (line_reader r) (lengths l) line k)
  unfolding refuse_if ◌>>◌ leaves numbers told meant
  no_colon r l k h =
      let none : has colon line ≡ false = found_has colon line at found ∙ le-ltb at (length line) h in
      let stops : read_line (line_reader r) (lengths l) line k ≡ refused lacks_colon = steps r line (lengths l) k ∙ rw none refl in
      subst (Does l l (told {A = CpimMessage} (Err code.LacksColon))) (sym stops) (record { answered = refl; left = refl })

  module _ (r : Manner) (l j : Lent) (k : Message) (there : at < length line) where
    behind : read_line (line_reader r) (lengths l) line k
        ≡ ◌>>=◌ (read_front r (take at line) right_of) (λ ps. append_read (name_by r (take at line)) (checked_value (unescape_by r (value_by r right_of))) ps (lengths l) k)
    behind =
        let some : has colon line ≡ true = found_has colon line at found ∙ lt-ltb at (length line) there in
        steps r line (lengths l) k
        ∙ then_passed (refuse_if (not (has colon line)) lacks_colon) _ (simp checks some)
        ∙ sym
        (λ i. ◌>>=◌ (read_front r (left_is i) (right_is i)) (λ ps. append_read (name_by r (left_is i)) (checked_value (unescape_by r (value_by r (right_is i)))) ps (lengths l) k))

    -- what stands in front of the value is refused
    pub front_refused : {R S : Type 0} {P : R → List Entry → Type 0} {e : Refusal}
        → Yields {R = R} (Err e) (read_front r (take at line) (take (length line - (at + 1)) (drop (at + 1) line))) P
        → (q : Result S Refusal) → IsErrAnd q (λ d. d ≡ e) → j ≡ l → Does l j (told q) (read_line (line_reader r) (lengths l) line k)
    front_refused y q s z = subst (Does l j (told q)) (sym behind) (does_ended y _ q s z)

    -- it gives the parameters
    pub front_read : (n : Numbers) (ps : List Entry) (name text : Bytes) → read_front r (take at line) (take (length line - (at + 1)) (drop (at + 1) line)) ≡ accepted ps
        → name ≡ name_by r (take at line) → text ≡ value_by r (take (length line - (at + 1)) (drop (at + 1) line))
        → Does l j n (append_read name (checked_value (unescape_by r text)) ps (lengths l) k)
        → Does l j n (read_line (line_reader r) (lengths l) line k)
    front_read n ps name text e a b d =
        subst (Does l j n) (sym behind)
        (does_on _ e (subst (Does l j n) (λ i. append_read (a i) (checked_value (unescape_by r (b i))) ps (lengths l) k) d))
