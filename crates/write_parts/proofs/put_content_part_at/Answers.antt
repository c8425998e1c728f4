-- `write_parts::put_content_part_at` meets its contract: each part is written behind the one before it. Assumes nothing.
use mathlib.Core.Path.{◌≡◌, refl}
use mathlib.Core.List.{[], ◌++◌}
use Rattle.format.specs.Bytes.{crlf_text, texts}
use Rattle.format.specs.Writing.{type_line, content_line, ended}
use Rattle.octets.proofs.Written.{Written, written_none, written_length, written_all}
use Rattle.store_entry_check.specs.FromBytes.{entries_from}
use Rattle.write_parts.proofs.LineParts.{part_room, part_put}
use Rattle.write_parts.proofs.ContentPart.{opening, type_parts}
use Rattle.write_parts.proofs.put_content_part_at.Goals as goal

pub put-to-requires : goal.put-to-requires
put-to-requires c =
    let kind = c.args.kind.now in
    let lines = texts (λ e. ended (content_line e)) (entries_from c.args.count c.args.s.now) in
    let whole = crlf_text ++ (ended (type_line c.args.kind.now) ++ texts (λ e. ended (content_line e)) (entries_from c.args.count c.args.s.now)) in
    let parts : whole ≡ opening ++ (kind ++ (crlf_text ++ (lines ++ []))) = type_parts kind lines in
    let none : Written whole c.args.out.now c.args.out.now c.args.at c.args.at whole = written_none whole c.args.out.now c.args.at in
    part_room none c.requires.1 (opening) (kind ++ (crlf_text ++ (lines ++ []))) parts

pub put-to-requires-2 : goal.put-to-requires-2
put-to-requires-2 c =
    let kind = c.args.kind.now in
    let lines = texts (λ e. ended (content_line e)) (entries_from c.args.count c.args.s.now) in
    let whole = crlf_text ++ (ended (type_line c.args.kind.now) ++ texts (λ e. ended (content_line e)) (entries_from c.args.count c.args.s.now)) in
    let parts : whole ≡ opening ++ (kind ++ (crlf_text ++ (lines ++ []))) = type_parts kind lines in
    let none : Written whole c.args.out.now c.args.out.now c.args.at c.args.at whole = written_none whole c.args.out.now c.args.at in
    let first : Written whole c.args.out.now c.put-to.new.out c.args.at c.put-to.result (kind ++ (crlf_text ++ (lines ++ []))) = part_put none c.requires.1 (opening) (kind ++ (crlf_text ++ (lines ++ []))) parts (c.put-to.ensures.place, c.put-to.ensures.bytes) in
    part_room first c.requires.1 kind (crlf_text ++ (lines ++ [])) refl

pub put-to-requires-3 : goal.put-to-requires-3
put-to-requires-3 c =
    let lines = texts (λ e. ended (content_line e)) (entries_from c.args.count c.args.s.now) in
    let whole = crlf_text ++ (ended (type_line c.args.kind.now) ++ texts (λ e. ended (content_line e)) (entries_from c.args.count c.args.s.now)) in
    let kind = c.args.kind.now in
    let parts : whole ≡ opening ++ (kind ++ (crlf_text ++ (lines ++ []))) = type_parts kind lines in
    let none : Written whole c.args.out.now c.args.out.now c.args.at c.args.at whole = written_none whole c.args.out.now c.args.at in
    let first : Written whole c.args.out.now c.put-to.new.out c.args.at c.put-to.result (kind ++ (crlf_text ++ (lines ++ []))) = part_put none c.requires.1 (opening) (kind ++ (crlf_text ++ (lines ++ []))) parts (c.put-to.ensures.place, c.put-to.ensures.bytes) in
    let second : Written whole c.args.out.now c.put-to-2.new.out c.args.at c.put-to-2.result (crlf_text ++ (lines ++ [])) = part_put first c.requires.1 kind (crlf_text ++ (lines ++ [])) refl (c.put-to-2.ensures.place, c.put-to-2.ensures.bytes) in
    part_room second c.requires.1 (crlf_text) (lines ++ []) refl

pub put_content_lines-requires : goal.put_content_lines-requires
put_content_lines-requires c =
    let lines = texts (λ e. ended (content_line e)) (entries_from c.args.count c.args.s.now) in
    let whole = crlf_text ++ (ended (type_line c.args.kind.now) ++ texts (λ e. ended (content_line e)) (entries_from c.args.count c.args.s.now)) in
    let kind = c.args.kind.now in
    let parts : whole ≡ opening ++ (kind ++ (crlf_text ++ (lines ++ []))) = type_parts kind lines in
    let none : Written whole c.args.out.now c.args.out.now c.args.at c.args.at whole = written_none whole c.args.out.now c.args.at in
    let first : Written whole c.args.out.now c.put-to.new.out c.args.at c.put-to.result (kind ++ (crlf_text ++ (lines ++ []))) = part_put none c.requires.1 (opening) (kind ++ (crlf_text ++ (lines ++ []))) parts (c.put-to.ensures.place, c.put-to.ensures.bytes) in
    let second : Written whole c.args.out.now c.put-to-2.new.out c.args.at c.put-to-2.result (crlf_text ++ (lines ++ [])) = part_put first c.requires.1 kind (crlf_text ++ (lines ++ [])) refl (c.put-to-2.ensures.place, c.put-to-2.ensures.bytes) in
    let third : Written whole c.args.out.now c.put-to-3.new.out c.args.at c.put-to-3.result (lines ++ []) = part_put second c.requires.1 (crlf_text) (lines ++ []) refl (c.put-to-3.ensures.place, c.put-to-3.ensures.bytes) in
    (c.requires.0, part_room third c.requires.1 lines ([]) refl)

pub shape_of-out : goal.shape_of-out
shape_of-out c =
    let whole = crlf_text ++ (ended (type_line c.args.kind.now) ++ texts (λ e. ended (content_line e)) (entries_from c.args.count c.args.s.now)) in
    let lines = texts (λ e. ended (content_line e)) (entries_from c.args.count c.args.s.now) in
    let kind = c.args.kind.now in
    let parts : whole ≡ opening ++ (kind ++ (crlf_text ++ (lines ++ []))) = type_parts kind lines in
    let none : Written whole c.args.out.now c.args.out.now c.args.at c.args.at whole = written_none whole c.args.out.now c.args.at in
    let first : Written whole c.args.out.now c.put-to.new.out c.args.at c.put-to.result (kind ++ (crlf_text ++ (lines ++ []))) = part_put none c.requires.1 (opening) (kind ++ (crlf_text ++ (lines ++ []))) parts (c.put-to.ensures.place, c.put-to.ensures.bytes) in
    let second : Written whole c.args.out.now c.put-to-2.new.out c.args.at c.put-to-2.result (crlf_text ++ (lines ++ [])) = part_put first c.requires.1 kind (crlf_text ++ (lines ++ [])) refl (c.put-to-2.ensures.place, c.put-to-2.ensures.bytes) in
    let third : Written whole c.args.out.now c.put-to-3.new.out c.args.at c.put-to-3.result (lines ++ []) = part_put second c.requires.1 (crlf_text) (lines ++ []) refl (c.put-to-3.ensures.place, c.put-to-3.ensures.bytes) in
    let fourth : Written whole c.args.out.now c.put_content_lines.new.out c.args.at c.put_content_lines.result ([]) = part_put third c.requires.1 lines ([]) refl (c.put_content_lines.ensures.place, c.put_content_lines.ensures.bytes) in
    (written_length fourth c.requires.1).0

pub returns : goal.returns
returns c =
    let whole = crlf_text ++ (ended (type_line c.args.kind.now) ++ texts (λ e. ended (content_line e)) (entries_from c.args.count c.args.s.now)) in
    let lines = texts (λ e. ended (content_line e)) (entries_from c.args.count c.args.s.now) in
    let kind = c.args.kind.now in
    let parts : whole ≡ opening ++ (kind ++ (crlf_text ++ (lines ++ []))) = type_parts kind lines in
    let none : Written whole c.args.out.now c.args.out.now c.args.at c.args.at whole = written_none whole c.args.out.now c.args.at in
    let first : Written whole c.args.out.now c.put-to.new.out c.args.at c.put-to.result (kind ++ (crlf_text ++ (lines ++ []))) = part_put none c.requires.1 (opening) (kind ++ (crlf_text ++ (lines ++ []))) parts (c.put-to.ensures.place, c.put-to.ensures.bytes) in
    let second : Written whole c.args.out.now c.put-to-2.new.out c.args.at c.put-to-2.result (crlf_text ++ (lines ++ [])) = part_put first c.requires.1 kind (crlf_text ++ (lines ++ [])) refl (c.put-to-2.ensures.place, c.put-to-2.ensures.bytes) in
    let third : Written whole c.args.out.now c.put-to-3.new.out c.args.at c.put-to-3.result (lines ++ []) = part_put second c.requires.1 (crlf_text) (lines ++ []) refl (c.put-to-3.ensures.place, c.put-to-3.ensures.bytes) in
    let fourth : Written whole c.args.out.now c.put_content_lines.new.out c.args.at c.put_content_lines.result ([]) = part_put third c.requires.1 lines ([]) refl (c.put_content_lines.ensures.place, c.put_content_lines.ensures.bytes) in
    let all = written_all fourth c.requires.1 refl in
    record { place = all.0; bytes = all.1 }
