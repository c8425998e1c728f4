-- `write_cursor::write_text` meets its contract: the five parts, one behind another (`Rounds.antt`). Assumes nothing.
use mathlib.Core.Path.{◌≡◌, sym, ap, ◌∙◌}
use native.Mathlib.Omega.{arith}
use denote.Ref.{MutBor}
use Rattle.format.specs.Bytes.{Bytes}
use Rattle.write_cursor.specs.StoredMessage.{message_of}
use Rattle.write_cursor.proofs.Rounds.{room₁, room₂, room₃, room₄, room₅, all_written}
use Rattle.write_cursor.proofs.write_text.Goals as goal

pub put_first-requires : goal.put_first-requires
put_first-requires c =
    let x = c.args in
    let m = message_of x.many x.headers.now x.kind.now x.count x.contents.now x.body.now in
    let same : c.new-writer.result.out.now ≡ x.out.now = ap (λ (b : MutBor Bytes). b.now) c.new-writer.ensures.0 in
    let begun = c.new-writer.ensures.1 in
    room₁ m x.out.now c.requires.1 c.new-writer.result same begun

pub put_headers-requires : goal.put_headers-requires
put_headers-requires c =
    let x = c.args in
    let m = message_of x.many x.headers.now x.kind.now x.count x.contents.now x.body.now in
    let same : c.new-writer.result.out.now ≡ x.out.now = ap (λ (b : MutBor Bytes). b.now) c.new-writer.ensures.0 in
    let begun = c.new-writer.ensures.1 in
    (c.requires.0.0, room₂ m x.out.now c.requires.1 c.new-writer.result same begun c.put_first.new.self c.put_first.ensures)

pub put_content_part-requires : goal.put_content_part-requires
put_content_part-requires c =
    let x = c.args in
    let m = message_of x.many x.headers.now x.kind.now x.count x.contents.now x.body.now in
    let same : c.new-writer.result.out.now ≡ x.out.now = ap (λ (b : MutBor Bytes). b.now) c.new-writer.ensures.0 in
    let begun = c.new-writer.ensures.1 in
    (c.requires.0.1, room₃ m x.out.now c.requires.1 c.new-writer.result same begun c.put_first.new.self c.put_first.ensures c.put_headers.new.self c.put_headers.ensures)

pub put_blank-requires : goal.put_blank-requires
put_blank-requires c =
    let x = c.args in
    let m = message_of x.many x.headers.now x.kind.now x.count x.contents.now x.body.now in
    let same : c.new-writer.result.out.now ≡ x.out.now = ap (λ (b : MutBor Bytes). b.now) c.new-writer.ensures.0 in
    let begun = c.new-writer.ensures.1 in
    room₄ m x.out.now c.requires.1 c.new-writer.result same begun c.put_first.new.self c.put_first.ensures c.put_headers.new.self c.put_headers.ensures c.put_content_part.new.self c.put_content_part.ensures

pub put_body-requires : goal.put_body-requires
put_body-requires c =
    let x = c.args in
    let m = message_of x.many x.headers.now x.kind.now x.count x.contents.now x.body.now in
    let same : c.new-writer.result.out.now ≡ x.out.now = ap (λ (b : MutBor Bytes). b.now) c.new-writer.ensures.0 in
    let begun = c.new-writer.ensures.1 in
    (c.requires.0.2, room₅ m x.out.now c.requires.1 c.new-writer.result same begun c.put_first.new.self c.put_first.ensures c.put_headers.new.self c.put_headers.ensures c.put_content_part.new.self c.put_content_part.ensures c.put_blank.new.self c.put_blank.ensures)

pub returns : goal.returns
returns c =
    let x = c.args in
    let m = message_of x.many x.headers.now x.kind.now x.count x.contents.now x.body.now in
    let same : c.new-writer.result.out.now ≡ x.out.now = ap (λ (b : MutBor Bytes). b.now) c.new-writer.ensures.0 in
    let begun = c.new-writer.ensures.1 in
    let all = all_written m x.out.now c.requires.1 c.new-writer.result same begun c.put_first.new.self c.put_first.ensures c.put_headers.new.self c.put_headers.ensures c.put_content_part.new.self c.put_content_part.ensures c.put_blank.new.self c.put_blank.ensures c.put_body.new.self c.put_body.ensures in
    let names = sym (all.2 ∙ ap (λ (b : MutBor Bytes). b.ghost_name) c.new-writer.ensures.0) in
    (all.0, grind (arith, names, all.1))
