-- Lines in the parts that are written one behind another. Assumes nothing.
use Prim.Native.Nat.{ℕ, ◌+◌, ◌≤◌}
use mathlib.Core.Path.{◌≡◌, refl, ap, ◌∙◌}
use mathlib.Core.Bool.{true}
use mathlib.Core.List.{[], ◌∷◌, ◌++◌, append_assoc, append-nil}
use native.Mathlib.Omega.{arith}
use lib.ListN.{length, length-append}
use Rattle.format.specs.Bytes.{Bytes, crlf_text, colon, space, semicolon, equals, texts, pasted}
use Rattle.format.specs.Escaping.{value_text}
use Rattle.format.specs.Writing.{param_text, header_line, content_line, ended}
use Rattle.octets.proofs.Written.{Written, written_length, written-more}
use Rattle.store_entries.specs.Stored.{param_count, name_in, value_in, tail_in, stored_in, shaped_all}
use Rattle.store_entry_check.specs.EntriesHold.{tail_holds}
use Rattle.store_entry_check.specs.FromBytes.{entry_from, entries_from, header_from}
use Rattle.store_entry_check.specs.declared.kinds.Kind.TheVariants.{Param}
use Rattle.store_entry_check.proofs.EntriesListed.{holds_shaped}

-- One part, of a text that is written so far.
module _ {whole d out : Bytes} {at to : ℕ} {rest : Bytes} (w : Written whole d out at to rest) (h : at + length whole ≤ length d)
    (part left : Bytes) (e : rest ≡ part ++ left) where
  -- there is room for it
  pub part_room : to + length part ≤ length out
  part_room = omega (arith, (written_length w h).0, (written_length w h).1, ap length e ∙ length-append part left)

  -- it is written, as `put` and its like ensure it
  pub part_put : {now : Bytes} {next : ℕ} → (next ≡ to + length part) × (now ≡ pasted to part out) → Written whole d now at next left
  part_put {now} {next} p = written-more w h part left now next e p.1 p.0

-- The entry that s begins with, by what was read of it.
module _ (s name value : Bytes) (n : name ≡ name_in s) (v : value ≡ value_in s) where
  pub param_parts : param_text (entry_from (stored_in s)) ≡ (semicolon ∷ []) ++ (name ++ ((equals ∷ []) ++ (value ++ [])))
  unfolding param_text entry_from stored_in
  param_parts = rw (n, v, append-nil (value_in s)) refl

  pub content_parts : ended (content_line (entry_from (stored_in s))) ≡ name ++ ((colon ∷ space ∷ []) ++ (value ++ (crlf_text ++ [])))
  unfolding content_line entry_from stored_in
  content_parts = rw (n, v) (append_assoc (name_in s) ((colon ∷ space ∷ []) ++ value_in s) crlf_text)

  module _ (tail : Bytes) (count : ℕ) (t : tail ≡ tail_in s) (k : count ≡ param_count s) where
    pub header_parts : ended (header_line (header_from (stored_in s)))
        ≡ name ++ ((colon ∷ []) ++ (texts param_text (entries_from count tail) ++ ((space ∷ []) ++ (value_text value ++ (crlf_text ++ [])))))
    unfolding header_line header_from stored_in
    header_parts =
        let ps = texts param_text (entries_from (param_count s) (tail_in s)) in
        rw (n, v, t, k)
        (append_assoc (name_in s) ((colon ∷ []) ++ (ps ++ ((space ∷ []) ++ value_text (value_in s)))) crlf_text
        ∙ ap (λ (x : Bytes). name_in s ++ (colon ∷ x)) (append_assoc ps ((space ∷ []) ++ value_text (value_in s)) crlf_text))

    -- its parameters are entries
    pub tail_shaped : tail_holds (stored_in s) ≡ true → shaped_all count tail ≡ true
    unfolding tail_holds stored_in
    tail_shaped h = rw (t, k) (holds_shaped Param (param_count s) [] (tail_in s) h)
