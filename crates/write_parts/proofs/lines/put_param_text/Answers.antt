-- `write_parts::lines::put_param_text` meets its contract: each part is written behind the one before it. Assumes nothing.
use mathlib.Core.Path.{◌≡◌, refl}
use mathlib.Core.List.{[], ◌∷◌, ◌++◌}
use native.Mathlib.Omega.{arith}
use lib.ListN.{drop}
use Rattle.format.specs.Bytes.{semicolon, equals}
use Rattle.format.specs.Writing.{param_text}
use Rattle.octets.proofs.Written.{Written, written_none, written_length, written_all}
use Rattle.store_entries.specs.Stored.{stored_in}
use Rattle.store_entry_check.specs.FromBytes.{entry_from}
use Rattle.write_parts.proofs.LineParts.{part_room, part_put, param_parts}
use Rattle.write_parts.proofs.lines.put_param_text.Goals as goal

pub name_at-name-requires : goal.name_at-name-requires
name_at-name-requires c = c.requires.0

pub value_at-value-requires : goal.value_at-value-requires
value_at-value-requires c = c.requires.0

pub put_byte-to-requires : goal.put_byte-to-requires
put_byte-to-requires c =
    let name = c.name_at-name.result.now in
    let value = c.value_at-value.result.now in
    let whole = param_text (entry_from (stored_in (drop c.args.from c.args.s.now))) in
    let parts : whole ≡ (semicolon ∷ []) ++ (name ++ ((equals ∷ []) ++ (value ++ []))) = param_parts _ _ _ c.name_at-name.ensures c.value_at-value.ensures in
    let none : Written whole c.args.out.now c.args.out.now c.args.at c.args.at whole = written_none whole c.args.out.now c.args.at in
    omega (arith, part_room none c.requires.1 ((semicolon ∷ [])) (name ++ ((equals ∷ []) ++ (value ++ []))) parts)

pub put-to-requires : goal.put-to-requires
put-to-requires c =
    let name = c.name_at-name.result.now in
    let value = c.value_at-value.result.now in
    let whole = param_text (entry_from (stored_in (drop c.args.from c.args.s.now))) in
    let parts : whole ≡ (semicolon ∷ []) ++ (name ++ ((equals ∷ []) ++ (value ++ []))) = param_parts _ _ _ c.name_at-name.ensures c.value_at-value.ensures in
    let none : Written whole c.args.out.now c.args.out.now c.args.at c.args.at whole = written_none whole c.args.out.now c.args.at in
    let first : Written whole c.args.out.now c.put_byte-to.new.out c.args.at c.put_byte-to.result (name ++ ((equals ∷ []) ++ (value ++ []))) = part_put none c.requires.1 ((semicolon ∷ [])) (name ++ ((equals ∷ []) ++ (value ++ []))) parts (c.put_byte-to.ensures.place, c.put_byte-to.ensures.bytes) in
    part_room first c.requires.1 name ((equals ∷ []) ++ (value ++ [])) refl

pub put_byte-to-requires-2 : goal.put_byte-to-requires-2
put_byte-to-requires-2 c =
    let value = c.value_at-value.result.now in
    let whole = param_text (entry_from (stored_in (drop c.args.from c.args.s.now))) in
    let name = c.name_at-name.result.now in
    let parts : whole ≡ (semicolon ∷ []) ++ (name ++ ((equals ∷ []) ++ (value ++ []))) = param_parts _ _ _ c.name_at-name.ensures c.value_at-value.ensures in
    let none : Written whole c.args.out.now c.args.out.now c.args.at c.args.at whole = written_none whole c.args.out.now c.args.at in
    let first : Written whole c.args.out.now c.put_byte-to.new.out c.args.at c.put_byte-to.result (name ++ ((equals ∷ []) ++ (value ++ []))) = part_put none c.requires.1 ((semicolon ∷ [])) (name ++ ((equals ∷ []) ++ (value ++ []))) parts (c.put_byte-to.ensures.place, c.put_byte-to.ensures.bytes) in
    let second : Written whole c.args.out.now c.put-to.new.out c.args.at c.put-to.result ((equals ∷ []) ++ (value ++ [])) = part_put first c.requires.1 name ((equals ∷ []) ++ (value ++ [])) refl (c.put-to.ensures.place, c.put-to.ensures.bytes) in
    omega (arith, part_room second c.requires.1 ((equals ∷ [])) (value ++ []) refl)

pub put-requires : goal.put-requires
put-requires c =
    let value = c.value_at-value.result.now in
    let whole = param_text (entry_from (stored_in (drop c.args.from c.args.s.now))) in
    let name = c.name_at-name.result.now in
    let parts : whole ≡ (semicolon ∷ []) ++ (name ++ ((equals ∷ []) ++ (value ++ []))) = param_parts _ _ _ c.name_at-name.ensures c.value_at-value.ensures in
    let none : Written whole c.args.out.now c.args.out.now c.args.at c.args.at whole = written_none whole c.args.out.now c.args.at in
    let first : Written whole c.args.out.now c.put_byte-to.new.out c.args.at c.put_byte-to.result (name ++ ((equals ∷ []) ++ (value ++ []))) = part_put none c.requires.1 ((semicolon ∷ [])) (name ++ ((equals ∷ []) ++ (value ++ []))) parts (c.put_byte-to.ensures.place, c.put_byte-to.ensures.bytes) in
    let second : Written whole c.args.out.now c.put-to.new.out c.args.at c.put-to.result ((equals ∷ []) ++ (value ++ [])) = part_put first c.requires.1 name ((equals ∷ []) ++ (value ++ [])) refl (c.put-to.ensures.place, c.put-to.ensures.bytes) in
    let third : Written whole c.args.out.now c.put_byte-to-2.new.out c.args.at c.put_byte-to-2.result (value ++ []) = part_put second c.requires.1 ((equals ∷ [])) (value ++ []) refl (c.put_byte-to-2.ensures.place, c.put_byte-to-2.ensures.bytes) in
    part_room third c.requires.1 value ([]) refl

pub shape_of-out : goal.shape_of-out
shape_of-out c =
    let whole = param_text (entry_from (stored_in (drop c.args.from c.args.s.now))) in
    let value = c.value_at-value.result.now in
    let name = c.name_at-name.result.now in
    let parts : whole ≡ (semicolon ∷ []) ++ (name ++ ((equals ∷ []) ++ (value ++ []))) = param_parts _ _ _ c.name_at-name.ensures c.value_at-value.ensures in
    let none : Written whole c.args.out.now c.args.out.now c.args.at c.args.at whole = written_none whole c.args.out.now c.args.at in
    let first : Written whole c.args.out.now c.put_byte-to.new.out c.args.at c.put_byte-to.result (name ++ ((equals ∷ []) ++ (value ++ []))) = part_put none c.requires.1 ((semicolon ∷ [])) (name ++ ((equals ∷ []) ++ (value ++ []))) parts (c.put_byte-to.ensures.place, c.put_byte-to.ensures.bytes) in
    let second : Written whole c.args.out.now c.put-to.new.out c.args.at c.put-to.result ((equals ∷ []) ++ (value ++ [])) = part_put first c.requires.1 name ((equals ∷ []) ++ (value ++ [])) refl (c.put-to.ensures.place, c.put-to.ensures.bytes) in
    let third : Written whole c.args.out.now c.put_byte-to-2.new.out c.args.at c.put_byte-to-2.result (value ++ []) = part_put second c.requires.1 ((equals ∷ [])) (value ++ []) refl (c.put_byte-to-2.ensures.place, c.put_byte-to-2.ensures.bytes) in
    let fourth : Written whole c.args.out.now c.put.new.out c.args.at c.put.result ([]) = part_put third c.requires.1 value ([]) refl (c.put.ensures.place, c.put.ensures.bytes) in
    (written_length fourth c.requires.1).0

pub returns : goal.returns
returns c =
    let whole = param_text (entry_from (stored_in (drop c.args.from c.args.s.now))) in
    let value = c.value_at-value.result.now in
    let name = c.name_at-name.result.now in
    let parts : whole ≡ (semicolon ∷ []) ++ (name ++ ((equals ∷ []) ++ (value ++ []))) = param_parts _ _ _ c.name_at-name.ensures c.value_at-value.ensures in
    let none : Written whole c.args.out.now c.args.out.now c.args.at c.args.at whole = written_none whole c.args.out.now c.args.at in
    let first : Written whole c.args.out.now c.put_byte-to.new.out c.args.at c.put_byte-to.result (name ++ ((equals ∷ []) ++ (value ++ []))) = part_put none c.requires.1 ((semicolon ∷ [])) (name ++ ((equals ∷ []) ++ (value ++ []))) parts (c.put_byte-to.ensures.place, c.put_byte-to.ensures.bytes) in
    let second : Written whole c.args.out.now c.put-to.new.out c.args.at c.put-to.result ((equals ∷ []) ++ (value ++ [])) = part_put first c.requires.1 name ((equals ∷ []) ++ (value ++ [])) refl (c.put-to.ensures.place, c.put-to.ensures.bytes) in
    let third : Written whole c.args.out.now c.put_byte-to-2.new.out c.args.at c.put_byte-to-2.result (value ++ []) = part_put second c.requires.1 ((equals ∷ [])) (value ++ []) refl (c.put_byte-to-2.ensures.place, c.put_byte-to-2.ensures.bytes) in
    let fourth : Written whole c.args.out.now c.put.new.out c.args.at c.put.result ([]) = part_put third c.requires.1 value ([]) refl (c.put.ensures.place, c.put.ensures.bytes) in
    let all = written_all fourth c.requires.1 refl in
    record { place = all.0; bytes = all.1 }
