-- The text of a message in five parts, each written behind the one before it: there is room for each, and the last one makes the whole.
-- Assumes nothing.
use Prim.Native.Nat.{◌+◌, ◌≤◌}
use mathlib.Core.Path.{◌≡◌, refl, sym, ap, ◌∙◌}
use mathlib.Core.List.{[], ◌++◌, append_assoc, append-nil}
use native.Mathlib.Omega.{arith}
use lib.ListN.{length}
use Rattle.format.specs.Bytes.{Bytes, crlf_text, texts, pasted}
use Rattle.format.specs.Characters.{replaced}
use Rattle.format.specs.Message.{Message}
use Rattle.format.specs.Writing.{first_line, header_line, content_line, type_line, ended, write}
use Rattle.octets.proofs.Written.{Written, written_none, written_all}
use Rattle.write_parts.proofs.LineParts.{part_room, part_put}
use Rattle.write_cursor.specs.declared.Writer.{Writer}
use Rattle.write_cursor.specs.Wrote.{wrote}

-- the five parts of a text
abbrev start : Bytes
start = ended first_line ++ crlf_text

abbrev headers : Message → Bytes
headers m = texts (λ h. ended (header_line h)) m.headers

abbrev content : Message → Bytes
content m = crlf_text ++ (ended (type_line m.type) ++ texts (λ e. ended (content_line e)) m.contents)

abbrev body : Message → Bytes
body m = replaced m.body

text_parts_lem : (m : Message) → write m ≡ start ++ (headers m ++ (content m ++ (crlf_text ++ (body m ++ []))))
unfolding write
text_parts_lem m =
    let hs = headers m in
    let t = ended (type_line m.type) in
    let cs = texts (λ e. ended (content_line e)) m.contents in
    let b = body m in
    rw (append-nil b) (ap (λ (x : Bytes). start ++ (hs ++ (crlf_text ++ x))) (sym (append_assoc t cs (crlf_text ++ b))))

-- what a writer is behind a part
part : (w v : Writer) (t : Bytes) → v ≡ wrote w t → (v.at ≡ w.at + length t) × (v.out.now ≡ pasted w.at t w.out.now)
part w v t e = (ap (λ (x : Writer). x.at) e, ap (λ (x : Writer). x.out.now) e)

-- The output is `whole` at first, and the text goes to its start. The writer is w₀ to w₅ between the parts.
module _ (m : Message) (whole : Bytes) (fits : length (write m) ≤ length whole) (w₀ : Writer) (o : w₀.out.now ≡ whole) (z : w₀.at ≡ 0) where
  room : 0 + length (write m) ≤ length whole
  room = omega arith

  first : Written (write m) whole w₀.out.now 0 w₀.at (write m)
  first = rw (o, z) (written_none (write m) whole 0)

  pub room₁ : w₀.at + length start ≤ length w₀.out.now
  room₁ = part_room first room start (headers m ++ (content m ++ (crlf_text ++ (body m ++ [])))) (text_parts_lem m)

  module _ (w₁ : Writer) (e₁ : w₁ ≡ wrote w₀ start) where
    second : Written (write m) whole w₁.out.now 0 w₁.at (headers m ++ (content m ++ (crlf_text ++ (body m ++ []))))
    second = part_put first room start (headers m ++ (content m ++ (crlf_text ++ (body m ++ [])))) (text_parts_lem m) (part w₀ w₁ start e₁)

    pub room₂ : w₁.at + length (headers m) ≤ length w₁.out.now
    room₂ = part_room second room (headers m) (content m ++ (crlf_text ++ (body m ++ []))) refl

    module _ (w₂ : Writer) (e₂ : w₂ ≡ wrote w₁ (headers m)) where
      third : Written (write m) whole w₂.out.now 0 w₂.at (content m ++ (crlf_text ++ (body m ++ [])))
      third = part_put second room (headers m) (content m ++ (crlf_text ++ (body m ++ []))) refl (part w₁ w₂ (headers m) e₂)

      pub room₃ : w₂.at + length (content m) ≤ length w₂.out.now
      room₃ = part_room third room (content m) (crlf_text ++ (body m ++ [])) refl

      module _ (w₃ : Writer) (e₃ : w₃ ≡ wrote w₂ (content m)) where
        fourth : Written (write m) whole w₃.out.now 0 w₃.at (crlf_text ++ (body m ++ []))
        fourth = part_put third room (content m) (crlf_text ++ (body m ++ [])) refl (part w₂ w₃ (content m) e₃)

        pub room₄ : w₃.at + length crlf_text ≤ length w₃.out.now
        room₄ = part_room fourth room crlf_text (body m ++ []) refl

        module _ (w₄ : Writer) (e₄ : w₄ ≡ wrote w₃ crlf_text) where
          fifth : Written (write m) whole w₄.out.now 0 w₄.at (body m ++ [])
          fifth = part_put fourth room crlf_text (body m ++ []) refl (part w₃ w₄ crlf_text e₄)

          pub room₅ : w₄.at + length (body m) ≤ length w₄.out.now
          room₅ = part_room fifth room (body m) [] refl

          pub all_written : (w₅ : Writer) → w₅ ≡ wrote w₄ (body m)
              → (w₅.at ≡ length (write m)) × (w₅.out.now ≡ pasted 0 (write m) whole) × (w₅.out.ghost_name ≡ w₀.out.ghost_name)
          all_written w₅ e₅ =
              let w = written_all (part_put fifth room (body m) [] refl (part w₄ w₅ (body m) e₅)) room refl in (
                omega (arith, w.0),
                w.1,
                ap (λ (x : Writer). x.out.ghost_name) e₅
                    ∙ ap (λ (x : Writer). x.out.ghost_name) e₄
                    ∙ ap (λ (x : Writer). x.out.ghost_name) e₃
                    ∙ ap (λ (x : Writer). x.out.ghost_name) e₂
                    ∙ ap (λ (x : Writer). x.out.ghost_name) e₁,
              )
