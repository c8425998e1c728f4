-- `write_parts::lines::put_content_line` meets its contract: each part is written behind the one before it. Assumes nothing.
use mathlib.Core.Path.{◌≡◌, refl}
use mathlib.Core.List.{[], ◌∷◌, ◌++◌}
use lib.ListN.{drop}
use Rattle.format.specs.Bytes.{crlf_text, colon, space}
use Rattle.format.specs.Writing.{content_line, ended}
use Rattle.octets.proofs.Written.{Written, written_none, written_length, written_all}
use Rattle.store_entries.specs.Stored.{stored_in}
use Rattle.store_entry_check.specs.FromBytes.{entry_from}
use Rattle.write_parts.proofs.LineParts.{part_room, part_put, content_parts}
use Rattle.write_parts.proofs.lines.put_content_line.Goals as goal

pub name_at-name-requires : goal.name_at-name-requires
name_at-name-requires c = c.requires.0

pub value_at-value-requires : goal.value_at-value-requires
value_at-value-requires c = c.requires.0

pub put-to-requires : goal.put-to-requires
put-to-requires c =
    let name = c.name_at-name.result.now in
    let value = c.value_at-value.result.now in
    let whole = ended (content_line (entry_from (stored_in (drop c.args.from c.args.s.now)))) in
    let parts : whole ≡ name ++ ((colon ∷ space ∷ []) ++ (value ++ (crlf_text ++ []))) = content_parts _ _ _ c.name_at-name.ensures c.value_at-value.ensures in
    let none : Written whole c.args.out.now c.args.out.now c.args.at c.args.at whole = written_none whole c.args.out.now c.args.at in
    part_room none c.requires.1 name ((colon ∷ space ∷ []) ++ (value ++ (crlf_text ++ []))) parts

pub put-to-requires-2 : goal.put-to-requires-2
put-to-requires-2 c =
    let value = c.value_at-value.result.now in
    let whole = ended (content_line (entry_from (stored_in (drop c.args.from c.args.s.now)))) in
    let name = c.name_at-name.result.now in
    let parts : whole ≡ name ++ ((colon ∷ space ∷ []) ++ (value ++ (crlf_text ++ []))) = content_parts _ _ _ c.name_at-name.ensures c.value_at-value.ensures in
    let none : Written whole c.args.out.now c.args.out.now c.args.at c.args.at whole = written_none whole c.args.out.now c.args.at in
    let first : Written whole c.args.out.now c.put-to.new.out c.args.at c.put-to.result ((colon ∷ space ∷ []) ++ (value ++ (crlf_text ++ []))) = part_put none c.requires.1 name ((colon ∷ space ∷ []) ++ (value ++ (crlf_text ++ []))) parts (c.put-to.ensures.place, c.put-to.ensures.bytes) in
    part_room first c.requires.1 ((colon ∷ space ∷ [])) (value ++ (crlf_text ++ [])) refl

pub put-to-requires-3 : goal.put-to-requires-3
put-to-requires-3 c =
    let value = c.value_at-value.result.now in
    let whole = ended (content_line (entry_from (stored_in (drop c.args.from c.args.s.now)))) in
    let name = c.name_at-name.result.now in
    let parts : whole ≡ name ++ ((colon ∷ space ∷ []) ++ (value ++ (crlf_text ++ []))) = content_parts _ _ _ c.name_at-name.ensures c.value_at-value.ensures in
    let none : Written whole c.args.out.now c.args.out.now c.args.at c.args.at whole = written_none whole c.args.out.now c.args.at in
    let first : Written whole c.args.out.now c.put-to.new.out c.args.at c.put-to.result ((colon ∷ space ∷ []) ++ (value ++ (crlf_text ++ []))) = part_put none c.requires.1 name ((colon ∷ space ∷ []) ++ (value ++ (crlf_text ++ []))) parts (c.put-to.ensures.place, c.put-to.ensures.bytes) in
    let second : Written whole c.args.out.now c.put-to-2.new.out c.args.at c.put-to-2.result (value ++ (crlf_text ++ [])) = part_put first c.requires.1 ((colon ∷ space ∷ [])) (value ++ (crlf_text ++ [])) refl (c.put-to-2.ensures.place, c.put-to-2.ensures.bytes) in
    part_room second c.requires.1 value (crlf_text ++ []) refl

pub put-requires : goal.put-requires
put-requires c =
    let whole = ended (content_line (entry_from (stored_in (drop c.args.from c.args.s.now)))) in
    let value = c.value_at-value.result.now in
    let name = c.name_at-name.result.now in
    let parts : whole ≡ name ++ ((colon ∷ space ∷ []) ++ (value ++ (crlf_text ++ []))) = content_parts _ _ _ c.name_at-name.ensures c.value_at-value.ensures in
    let none : Written whole c.args.out.now c.args.out.now c.args.at c.args.at whole = written_none whole c.args.out.now c.args.at in
    let first : Written whole c.args.out.now c.put-to.new.out c.args.at c.put-to.result ((colon ∷ space ∷ []) ++ (value ++ (crlf_text ++ []))) = part_put none c.requires.1 name ((colon ∷ space ∷ []) ++ (value ++ (crlf_text ++ []))) parts (c.put-to.ensures.place, c.put-to.ensures.bytes) in
    let second : Written whole c.args.out.now c.put-to-2.new.out c.args.at c.put-to-2.result (value ++ (crlf_text ++ [])) = part_put first c.requires.1 ((colon ∷ space ∷ [])) (value ++ (crlf_text ++ [])) refl (c.put-to-2.ensures.place, c.put-to-2.ensures.bytes) in
    let third : Written whole c.args.out.now c.put-to-3.new.out c.args.at c.put-to-3.result (crlf_text ++ []) = part_put second c.requires.1 value (crlf_text ++ []) refl (c.put-to-3.ensures.place, c.put-to-3.ensures.bytes) in
    part_room third c.requires.1 (crlf_text) ([]) refl

pub shape_of-out : goal.shape_of-out
shape_of-out c =
    let whole = ended (content_line (entry_from (stored_in (drop c.args.from c.args.s.now)))) in
    let value = c.value_at-value.result.now in
    let name = c.name_at-name.result.now in
    let parts : whole ≡ name ++ ((colon ∷ space ∷ []) ++ (value ++ (crlf_text ++ []))) = content_parts _ _ _ c.name_at-name.ensures c.value_at-value.ensures in
    let none : Written whole c.args.out.now c.args.out.now c.args.at c.args.at whole = written_none whole c.args.out.now c.args.at in
    let first : Written whole c.args.out.now c.put-to.new.out c.args.at c.put-to.result ((colon ∷ space ∷ []) ++ (value ++ (crlf_text ++ []))) = part_put none c.requires.1 name ((colon ∷ space ∷ []) ++ (value ++ (crlf_text ++ []))) parts (c.put-to.ensures.place, c.put-to.ensures.bytes) in
    let second : Written whole c.args.out.now c.put-to-2.new.out c.args.at c.put-to-2.result (value ++ (crlf_text ++ [])) = part_put first c.requires.1 ((colon ∷ space ∷ [])) (value ++ (crlf_text ++ [])) refl (c.put-to-2.ensures.place, c.put-to-2.ensures.bytes) in
    let third : Written whole c.args.out.now c.put-to-3.new.out c.args.at c.put-to-3.result (crlf_text ++ []) = part_put second c.requires.1 value (crlf_text ++ []) refl (c.put-to-3.ensures.place, c.put-to-3.ensures.bytes) in
    let fourth : Written whole c.args.out.now c.put.new.out c.args.at c.put.result ([]) = part_put third c.requires.1 (crlf_text) ([]) refl (c.put.ensures.place, c.put.ensures.bytes) in
    (written_length fourth c.requires.1).0

pub returns : goal.returns
returns c =
    let whole = ended (content_line (entry_from (stored_in (drop c.args.from c.args.s.now)))) in
    let value = c.value_at-value.result.now in
    let name = c.name_at-name.result.now in
    let parts : whole ≡ name ++ ((colon ∷ space ∷ []) ++ (value ++ (crlf_text ++ []))) = content_parts _ _ _ c.name_at-name.ensures c.value_at-value.ensures in
    let none : Written whole c.args.out.now c.args.out.now c.args.at c.args.at whole = written_none whole c.args.out.now c.args.at in
    let first : Written whole c.args.out.now c.put-to.new.out c.args.at c.put-to.result ((colon ∷ space ∷ []) ++ (value ++ (crlf_text ++ []))) = part_put none c.requires.1 name ((colon ∷ space ∷ []) ++ (value ++ (crlf_text ++ []))) parts (c.put-to.ensures.place, c.put-to.ensures.bytes) in
    let second : Written whole c.args.out.now c.put-to-2.new.out c.args.at c.put-to-2.result (value ++ (crlf_text ++ [])) = part_put first c.requires.1 ((colon ∷ space ∷ [])) (value ++ (crlf_text ++ [])) refl (c.put-to-2.ensures.place, c.put-to-2.ensures.bytes) in
    let third : Written whole c.args.out.now c.put-to-3.new.out c.args.at c.put-to-3.result (crlf_text ++ []) = part_put second c.requires.1 value (crlf_text ++ []) refl (c.put-to-3.ensures.place, c.put-to-3.ensures.bytes) in
    let fourth : Written whole c.args.out.now c.put.new.out c.args.at c.put.result ([]) = part_put third c.requires.1 (crlf_text) ([]) refl (c.put.ensures.place, c.put.ensures.bytes) in
    let all = written_all fourth c.requires.1 refl in
    record { place = all.0; bytes = all.1 }
