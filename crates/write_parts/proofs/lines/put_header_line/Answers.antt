-- `write_parts::lines::put_header_line` meets its contract: each part is written behind the one before it. Assumes nothing.
use mathlib.Core.Path.{◌≡◌, refl}
use mathlib.Core.List.{[], ◌∷◌, ◌++◌}
use native.Mathlib.Omega.{arith}
use lib.ListN.{drop}
use Rattle.format.specs.Bytes.{crlf_text, colon, space, texts}
use Rattle.format.specs.Escaping.{value_text}
use Rattle.format.specs.Writing.{param_text, header_line, ended}
use Rattle.octets.proofs.Written.{Written, written_none, written_length, written_all}
use Rattle.store_entries.specs.Stored.{stored_in}
use Rattle.store_entries.proofs.EntryShape.{within_numbers}
use Rattle.store_entry_check.specs.FromBytes.{header_from, entries_from}
use Rattle.write_parts.proofs.LineParts.{part_room, part_put, header_parts, tail_shaped}
use Rattle.write_parts.proofs.lines.put_header_line.Goals as goal

pub name_at-name-requires : goal.name_at-name-requires
name_at-name-requires c = c.requires.0

pub value_at-value-requires : goal.value_at-value-requires
value_at-value-requires c = c.requires.0

pub tail_at-tail-requires : goal.tail_at-tail-requires
tail_at-tail-requires c = c.requires.0

pub param_count-count-requires : goal.param_count-count-requires
param_count-count-requires c =
    within_numbers c.args.s.now c.args.from c.requires.0

pub put-to-requires : goal.put-to-requires
put-to-requires c =
    let name = c.name_at-name.result.now in
    let value = c.value_at-value.result.now in
    let params = texts param_text (entries_from c.param_count-count.result c.tail_at-tail.result.now) in
    let whole = ended (header_line (header_from (stored_in (drop c.args.from c.args.s.now)))) in
    let parts : whole ≡ name ++ ((colon ∷ []) ++ (params ++ ((space ∷ []) ++ (value_text value ++ (crlf_text ++ []))))) = header_parts _ _ _ c.name_at-name.ensures c.value_at-value.ensures _ _ c.tail_at-tail.ensures c.param_count-count.ensures.0 in
    let none : Written whole c.args.out.now c.args.out.now c.args.at c.args.at whole = written_none whole c.args.out.now c.args.at in
    part_room none c.requires.2 name ((colon ∷ []) ++ (params ++ ((space ∷ []) ++ (value_text value ++ (crlf_text ++ []))))) parts

pub put_byte-to-requires : goal.put_byte-to-requires
put_byte-to-requires c =
    let value = c.value_at-value.result.now in
    let params = texts param_text (entries_from c.param_count-count.result c.tail_at-tail.result.now) in
    let whole = ended (header_line (header_from (stored_in (drop c.args.from c.args.s.now)))) in
    let name = c.name_at-name.result.now in
    let parts : whole ≡ name ++ ((colon ∷ []) ++ (params ++ ((space ∷ []) ++ (value_text value ++ (crlf_text ++ []))))) = header_parts _ _ _ c.name_at-name.ensures c.value_at-value.ensures _ _ c.tail_at-tail.ensures c.param_count-count.ensures.0 in
    let none : Written whole c.args.out.now c.args.out.now c.args.at c.args.at whole = written_none whole c.args.out.now c.args.at in
    let first : Written whole c.args.out.now c.put-to.new.out c.args.at c.put-to.result ((colon ∷ []) ++ (params ++ ((space ∷ []) ++ (value_text value ++ (crlf_text ++ []))))) = part_put none c.requires.2 name ((colon ∷ []) ++ (params ++ ((space ∷ []) ++ (value_text value ++ (crlf_text ++ []))))) parts (c.put-to.ensures.place, c.put-to.ensures.bytes) in
    omega (arith, part_room first c.requires.2 ((colon ∷ [])) (params ++ ((space ∷ []) ++ (value_text value ++ (crlf_text ++ [])))) refl)

pub put_param_texts-to-requires : goal.put_param_texts-to-requires
put_param_texts-to-requires c =
    let value = c.value_at-value.result.now in
    let params = texts param_text (entries_from c.param_count-count.result c.tail_at-tail.result.now) in
    let whole = ended (header_line (header_from (stored_in (drop c.args.from c.args.s.now)))) in
    let name = c.name_at-name.result.now in
    let parts : whole ≡ name ++ ((colon ∷ []) ++ (params ++ ((space ∷ []) ++ (value_text value ++ (crlf_text ++ []))))) = header_parts _ _ _ c.name_at-name.ensures c.value_at-value.ensures _ _ c.tail_at-tail.ensures c.param_count-count.ensures.0 in
    let none : Written whole c.args.out.now c.args.out.now c.args.at c.args.at whole = written_none whole c.args.out.now c.args.at in
    let first : Written whole c.args.out.now c.put-to.new.out c.args.at c.put-to.result ((colon ∷ []) ++ (params ++ ((space ∷ []) ++ (value_text value ++ (crlf_text ++ []))))) = part_put none c.requires.2 name ((colon ∷ []) ++ (params ++ ((space ∷ []) ++ (value_text value ++ (crlf_text ++ []))))) parts (c.put-to.ensures.place, c.put-to.ensures.bytes) in
    let second : Written whole c.args.out.now c.put_byte-to.new.out c.args.at c.put_byte-to.result (params ++ ((space ∷ []) ++ (value_text value ++ (crlf_text ++ [])))) = part_put first c.requires.2 ((colon ∷ [])) (params ++ ((space ∷ []) ++ (value_text value ++ (crlf_text ++ [])))) refl (c.put_byte-to.ensures.place, c.put_byte-to.ensures.bytes) in (
      tail_shaped _ _ _ c.name_at-name.ensures c.value_at-value.ensures _ _ c.tail_at-tail.ensures c.param_count-count.ensures.0 c.requires.1,
      part_room second c.requires.2 params ((space ∷ []) ++ (value_text value ++ (crlf_text ++ []))) refl,
    )

pub put_byte-to-requires-2 : goal.put_byte-to-requires-2
put_byte-to-requires-2 c =
    let value = c.value_at-value.result.now in
    let whole = ended (header_line (header_from (stored_in (drop c.args.from c.args.s.now)))) in
    let params = texts param_text (entries_from c.param_count-count.result c.tail_at-tail.result.now) in
    let name = c.name_at-name.result.now in
    let parts : whole ≡ name ++ ((colon ∷ []) ++ (params ++ ((space ∷ []) ++ (value_text value ++ (crlf_text ++ []))))) = header_parts _ _ _ c.name_at-name.ensures c.value_at-value.ensures _ _ c.tail_at-tail.ensures c.param_count-count.ensures.0 in
    let none : Written whole c.args.out.now c.args.out.now c.args.at c.args.at whole = written_none whole c.args.out.now c.args.at in
    let first : Written whole c.args.out.now c.put-to.new.out c.args.at c.put-to.result ((colon ∷ []) ++ (params ++ ((space ∷ []) ++ (value_text value ++ (crlf_text ++ []))))) = part_put none c.requires.2 name ((colon ∷ []) ++ (params ++ ((space ∷ []) ++ (value_text value ++ (crlf_text ++ []))))) parts (c.put-to.ensures.place, c.put-to.ensures.bytes) in
    let second : Written whole c.args.out.now c.put_byte-to.new.out c.args.at c.put_byte-to.result (params ++ ((space ∷ []) ++ (value_text value ++ (crlf_text ++ [])))) = part_put first c.requires.2 ((colon ∷ [])) (params ++ ((space ∷ []) ++ (value_text value ++ (crlf_text ++ [])))) refl (c.put_byte-to.ensures.place, c.put_byte-to.ensures.bytes) in
    let third : Written whole c.args.out.now c.put_param_texts-to.new.out c.args.at c.put_param_texts-to.result ((space ∷ []) ++ (value_text value ++ (crlf_text ++ []))) = part_put second c.requires.2 params ((space ∷ []) ++ (value_text value ++ (crlf_text ++ []))) refl (c.put_param_texts-to.ensures.place, c.put_param_texts-to.ensures.bytes) in
    omega (arith, part_room third c.requires.2 ((space ∷ [])) (value_text value ++ (crlf_text ++ [])) refl)

pub put_value_text-to-requires : goal.put_value_text-to-requires
put_value_text-to-requires c =
    let value = c.value_at-value.result.now in
    let whole = ended (header_line (header_from (stored_in (drop c.args.from c.args.s.now)))) in
    let params = texts param_text (entries_from c.param_count-count.result c.tail_at-tail.result.now) in
    let name = c.name_at-name.result.now in
    let parts : whole ≡ name ++ ((colon ∷ []) ++ (params ++ ((space ∷ []) ++ (value_text value ++ (crlf_text ++ []))))) = header_parts _ _ _ c.name_at-name.ensures c.value_at-value.ensures _ _ c.tail_at-tail.ensures c.param_count-count.ensures.0 in
    let none : Written whole c.args.out.now c.args.out.now c.args.at c.args.at whole = written_none whole c.args.out.now c.args.at in
    let first : Written whole c.args.out.now c.put-to.new.out c.args.at c.put-to.result ((colon ∷ []) ++ (params ++ ((space ∷ []) ++ (value_text value ++ (crlf_text ++ []))))) = part_put none c.requires.2 name ((colon ∷ []) ++ (params ++ ((space ∷ []) ++ (value_text value ++ (crlf_text ++ []))))) parts (c.put-to.ensures.place, c.put-to.ensures.bytes) in
    let second : Written whole c.args.out.now c.put_byte-to.new.out c.args.at c.put_byte-to.result (params ++ ((space ∷ []) ++ (value_text value ++ (crlf_text ++ [])))) = part_put first c.requires.2 ((colon ∷ [])) (params ++ ((space ∷ []) ++ (value_text value ++ (crlf_text ++ [])))) refl (c.put_byte-to.ensures.place, c.put_byte-to.ensures.bytes) in
    let third : Written whole c.args.out.now c.put_param_texts-to.new.out c.args.at c.put_param_texts-to.result ((space ∷ []) ++ (value_text value ++ (crlf_text ++ []))) = part_put second c.requires.2 params ((space ∷ []) ++ (value_text value ++ (crlf_text ++ []))) refl (c.put_param_texts-to.ensures.place, c.put_param_texts-to.ensures.bytes) in
    let fourth : Written whole c.args.out.now c.put_byte-to-2.new.out c.args.at c.put_byte-to-2.result (value_text value ++ (crlf_text ++ [])) = part_put third c.requires.2 ((space ∷ [])) (value_text value ++ (crlf_text ++ [])) refl (c.put_byte-to-2.ensures.place, c.put_byte-to-2.ensures.bytes) in
    part_room fourth c.requires.2 (value_text value) (crlf_text ++ []) refl

pub put-requires : goal.put-requires
put-requires c =
    let whole = ended (header_line (header_from (stored_in (drop c.args.from c.args.s.now)))) in
    let value = c.value_at-value.result.now in
    let params = texts param_text (entries_from c.param_count-count.result c.tail_at-tail.result.now) in
    let name = c.name_at-name.result.now in
    let parts : whole ≡ name ++ ((colon ∷ []) ++ (params ++ ((space ∷ []) ++ (value_text value ++ (crlf_text ++ []))))) = header_parts _ _ _ c.name_at-name.ensures c.value_at-value.ensures _ _ c.tail_at-tail.ensures c.param_count-count.ensures.0 in
    let none : Written whole c.args.out.now c.args.out.now c.args.at c.args.at whole = written_none whole c.args.out.now c.args.at in
    let first : Written whole c.args.out.now c.put-to.new.out c.args.at c.put-to.result ((colon ∷ []) ++ (params ++ ((space ∷ []) ++ (value_text value ++ (crlf_text ++ []))))) = part_put none c.requires.2 name ((colon ∷ []) ++ (params ++ ((space ∷ []) ++ (value_text value ++ (crlf_text ++ []))))) parts (c.put-to.ensures.place, c.put-to.ensures.bytes) in
    let second : Written whole c.args.out.now c.put_byte-to.new.out c.args.at c.put_byte-to.result (params ++ ((space ∷ []) ++ (value_text value ++ (crlf_text ++ [])))) = part_put first c.requires.2 ((colon ∷ [])) (params ++ ((space ∷ []) ++ (value_text value ++ (crlf_text ++ [])))) refl (c.put_byte-to.ensures.place, c.put_byte-to.ensures.bytes) in
    let third : Written whole c.args.out.now c.put_param_texts-to.new.out c.args.at c.put_param_texts-to.result ((space ∷ []) ++ (value_text value ++ (crlf_text ++ []))) = part_put second c.requires.2 params ((space ∷ []) ++ (value_text value ++ (crlf_text ++ []))) refl (c.put_param_texts-to.ensures.place, c.put_param_texts-to.ensures.bytes) in
    let fourth : Written whole c.args.out.now c.put_byte-to-2.new.out c.args.at c.put_byte-to-2.result (value_text value ++ (crlf_text ++ [])) = part_put third c.requires.2 ((space ∷ [])) (value_text value ++ (crlf_text ++ [])) refl (c.put_byte-to-2.ensures.place, c.put_byte-to-2.ensures.bytes) in
    let fifth : Written whole c.args.out.now c.put_value_text-to.new.out c.args.at c.put_value_text-to.result (crlf_text ++ []) = part_put fourth c.requires.2 (value_text value) (crlf_text ++ []) refl (c.put_value_text-to.ensures.placed, c.put_value_text-to.ensures.wrote) in
    part_room fifth c.requires.2 (crlf_text) ([]) refl

pub shape_of-out : goal.shape_of-out
shape_of-out c =
    let whole = ended (header_line (header_from (stored_in (drop c.args.from c.args.s.now)))) in
    let value = c.value_at-value.result.now in
    let params = texts param_text (entries_from c.param_count-count.result c.tail_at-tail.result.now) in
    let name = c.name_at-name.result.now in
    let parts : whole ≡ name ++ ((colon ∷ []) ++ (params ++ ((space ∷ []) ++ (value_text value ++ (crlf_text ++ []))))) = header_parts _ _ _ c.name_at-name.ensures c.value_at-value.ensures _ _ c.tail_at-tail.ensures c.param_count-count.ensures.0 in
    let none : Written whole c.args.out.now c.args.out.now c.args.at c.args.at whole = written_none whole c.args.out.now c.args.at in
    let first : Written whole c.args.out.now c.put-to.new.out c.args.at c.put-to.result ((colon ∷ []) ++ (params ++ ((space ∷ []) ++ (value_text value ++ (crlf_text ++ []))))) = part_put none c.requires.2 name ((colon ∷ []) ++ (params ++ ((space ∷ []) ++ (value_text value ++ (crlf_text ++ []))))) parts (c.put-to.ensures.place, c.put-to.ensures.bytes) in
    let second : Written whole c.args.out.now c.put_byte-to.new.out c.args.at c.put_byte-to.result (params ++ ((space ∷ []) ++ (value_text value ++ (crlf_text ++ [])))) = part_put first c.requires.2 ((colon ∷ [])) (params ++ ((space ∷ []) ++ (value_text value ++ (crlf_text ++ [])))) refl (c.put_byte-to.ensures.place, c.put_byte-to.ensures.bytes) in
    let third : Written whole c.args.out.now c.put_param_texts-to.new.out c.args.at c.put_param_texts-to.result ((space ∷ []) ++ (value_text value ++ (crlf_text ++ []))) = part_put second c.requires.2 params ((space ∷ []) ++ (value_text value ++ (crlf_text ++ []))) refl (c.put_param_texts-to.ensures.place, c.put_param_texts-to.ensures.bytes) in
    let fourth : Written whole c.args.out.now c.put_byte-to-2.new.out c.args.at c.put_byte-to-2.result (value_text value ++ (crlf_text ++ [])) = part_put third c.requires.2 ((space ∷ [])) (value_text value ++ (crlf_text ++ [])) refl (c.put_byte-to-2.ensures.place, c.put_byte-to-2.ensures.bytes) in
    let fifth : Written whole c.args.out.now c.put_value_text-to.new.out c.args.at c.put_value_text-to.result (crlf_text ++ []) = part_put fourth c.requires.2 (value_text value) (crlf_text ++ []) refl (c.put_value_text-to.ensures.placed, c.put_value_text-to.ensures.wrote) in
    let sixth : Written whole c.args.out.now c.put.new.out c.args.at c.put.result ([]) = part_put fifth c.requires.2 (crlf_text) ([]) refl (c.put.ensures.place, c.put.ensures.bytes) in
    (written_length sixth c.requires.2).0

pub returns : goal.returns
returns c =
    let whole = ended (header_line (header_from (stored_in (drop c.args.from c.args.s.now)))) in
    let value = c.value_at-value.result.now in
    let params = texts param_text (entries_from c.param_count-count.result c.tail_at-tail.result.now) in
    let name = c.name_at-name.result.now in
    let parts : whole ≡ name ++ ((colon ∷ []) ++ (params ++ ((space ∷ []) ++ (value_text value ++ (crlf_text ++ []))))) = header_parts _ _ _ c.name_at-name.ensures c.value_at-value.ensures _ _ c.tail_at-tail.ensures c.param_count-count.ensures.0 in
    let none : Written whole c.args.out.now c.args.out.now c.args.at c.args.at whole = written_none whole c.args.out.now c.args.at in
    let first : Written whole c.args.out.now c.put-to.new.out c.args.at c.put-to.result ((colon ∷ []) ++ (params ++ ((space ∷ []) ++ (value_text value ++ (crlf_text ++ []))))) = part_put none c.requires.2 name ((colon ∷ []) ++ (params ++ ((space ∷ []) ++ (value_text value ++ (crlf_text ++ []))))) parts (c.put-to.ensures.place, c.put-to.ensures.bytes) in
    let second : Written whole c.args.out.now c.put_byte-to.new.out c.args.at c.put_byte-to.result (params ++ ((space ∷ []) ++ (value_text value ++ (crlf_text ++ [])))) = part_put first c.requires.2 ((colon ∷ [])) (params ++ ((space ∷ []) ++ (value_text value ++ (crlf_text ++ [])))) refl (c.put_byte-to.ensures.place, c.put_byte-to.ensures.bytes) in
    let third : Written whole c.args.out.now c.put_param_texts-to.new.out c.args.at c.put_param_texts-to.result ((space ∷ []) ++ (value_text value ++ (crlf_text ++ []))) = part_put second c.requires.2 params ((space ∷ []) ++ (value_text value ++ (crlf_text ++ []))) refl (c.put_param_texts-to.ensures.place, c.put_param_texts-to.ensures.bytes) in
    let fourth : Written whole c.args.out.now c.put_byte-to-2.new.out c.args.at c.put_byte-to-2.result (value_text value ++ (crlf_text ++ [])) = part_put third c.requires.2 ((space ∷ [])) (value_text value ++ (crlf_text ++ [])) refl (c.put_byte-to-2.ensures.place, c.put_byte-to-2.ensures.bytes) in
    let fifth : Written whole c.args.out.now c.put_value_text-to.new.out c.args.at c.put_value_text-to.result (crlf_text ++ []) = part_put fourth c.requires.2 (value_text value) (crlf_text ++ []) refl (c.put_value_text-to.ensures.placed, c.put_value_text-to.ensures.wrote) in
    let sixth : Written whole c.args.out.now c.put.new.out c.args.at c.put.result ([]) = part_put fifth c.requires.2 (crlf_text) ([]) refl (c.put.ensures.place, c.put.ensures.bytes) in
    let all = written_all sixth c.requires.2 refl in
    record { place = all.0; bytes = all.1 }
