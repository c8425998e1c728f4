-- Parameters as they are handed on: those that the room holds, or none. Assumes nothing.
use Rattle.std.specs.Prelude.{Result, Ok}
use Prim.Native.Nat.{ℕ, ◌+◌, ◌-◌, ◌≤◌, ◌<◌}
use mathlib.Core.Path.{◌≡◌, refl, sym, ap, ◌∙◌, subst}
use mathlib.Core.Bool.{true}
use mathlib.Core.List.{List, [], ◌∷◌}
use native.Mathlib.Omega.{arith}
use lib.ListN.{length, take, drop}
use Rattle.format.specs.Bytes.{Bytes, semicolon, up_to, pieces, split, texts}
use Rattle.format.specs.Characters.{is_utf8}
use Rattle.format.specs.Refusals.{Out}
use Rattle.format.specs.Message.{Entry}
use Rattle.format.specs.Reading.{each}
use Rattle.format.specs.declared.refusal.Refusal.{Refusal}
use Rattle.format.specs.declared.CpimHeader.{CpimHeader}
use Rattle.format.proofs.Lists.{rest_is}
use Rattle.format.proofs.Splitting.SplitUtf8.{past_utf8}
use Rattle.format.proofs.Messages.Parts as valid
use Rattle.octets.proofs.Find.{found_past}
use Rattle.store_check.proofs.HeldParts.{alone_parts}
use Rattle.header.proofs.ParamSizes.{entries_bytes}
use Rattle.read_header_line.specs.Gathered.{Yields, bare, Standing, Gathered}
use Rattle.read_header_line.proofs.Yielding.{yields, yields_as, yields_more}
use Rattle.read_header_line.proofs.Parting.{others_more, others_none}

standing_gathered : (h : CpimHeader) (room : Bytes) (ps : List Entry) → Standing h room ps → Gathered h room ps
standing_gathered h room ps s =
    let parts = alone_parts h room (bare ps) s in
    let limits = (valid.alone_parts (bare ps) s.within).params in
    record {
      many = sym parts.params;
      bytes = sym (ap (λ (v : ℕ). take (h.size - (16 + v)) (drop (16 + v) room)) (sym parts.valuelen) ∙ parts.params_part_lem);
      few = omega (arith, parts.params, limits.few);
      from = omega (arith, parts.used);
      to = omega (arith, parts.used, parts.valuelen, entries_bytes ps limits.each, limits.few);
    }

none_gathered : (room : Bytes) → Gathered (record { valuelen = 0; params = 0; size = 16 }) room []
unfolding texts
none_gathered room = record { many = refl; bytes = refl; few = omega arith; from = omega arith; to = omega arith }

-- stop is the place of the first `;` left of the colon
module _ (left : Bytes) (stop : ℕ) (found : stop ≡ length (up_to semicolon left)) where
  -- there is none
  pub none_stands : (step : Bytes → List Entry → Out (List Entry)) {h : CpimHeader} (room : Bytes) → length left ≤ stop → h ≡ record { valuelen = 0; params = 0; size = 16 }
      → Yields (Ok h) (each step (split (semicolon ∷ []) left).rest []) (λ k. Gathered k room)
  unfolding each
  none_stands step room l e =
      yields [] (ap (λ (ss : List Bytes). each step ss []) (others_none left stop found l)) (subst (λ (k : CpimHeader). Gathered k room []) (sym e) (none_gathered room))

  -- the bytes behind it have the parts
  pub behind_utf8 : is_utf8 left ≡ true → is_utf8 (take (length left - (stop + 1)) (drop (stop + 1) left)) ≡ true
  behind_utf8 u = ap is_utf8 (rest_is left (stop + 1) ∙ sym (found_past semicolon left stop found)) ∙ past_utf8 semicolon left (omega arith) u

  pub behind_read : (step : Bytes → List Entry → Out (List Entry)) {result : Result CpimHeader Refusal} (room : Bytes) → stop < length left
      → Yields result (each step (pieces (split (semicolon ∷ []) (take (length left - (stop + 1)) (drop (stop + 1) left)))) []) (λ h. Standing h room)
      → Yields result (each step (split (semicolon ∷ []) left).rest []) (λ h. Gathered h room)
  behind_read step room s y =
      yields_as (yields_more y (λ h. standing_gathered h room))
      (ap (λ (ss : List Bytes). each step ss [])
      (others_more left stop found s ∙ ap (λ (t : Bytes). pieces (split (semicolon ∷ []) t)) (sym (rest_is left (stop + 1)))))
