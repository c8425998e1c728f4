-- `write_parts::put_body_at` meets its contract. Assumes nothing.
use mathlib.Core.Path.{◌≡◌, sym, ap, ◌∙◌}
use native.Mathlib.Omega.{arith}
use lib.ListN.{length}
use borrow.Author.Tests.{eq-eqb}
use Rattle.format.specs.Characters.{replaced}
use Rattle.format.proofs.Characters.Replaced.{replaced_same}
use Rattle.characters.proofs.Utf8End.{utf8_tested}
use Rattle.write_parts.proofs.put_body_at.Goals as goal

pub put-requires : goal.put-requires
put-requires c =
    let same : replaced c.args.body.now ≡ c.args.body.now = let b = c.args.body.now in
    replaced_same b (sym (utf8_tested b c.args.end c.requires.0) ∙ eq-eqb c.args.end (length b) c.if-end-body.true) in
    omega (arith, c.requires.1, ap length same)

pub shape_of-out-then-end-body : goal.shape_of-out-then-end-body
shape_of-out-then-end-body c = c.put.auto.out

pub returns-then-end-body : goal.returns-then-end-body
returns-then-end-body c =
    let same : replaced c.args.body.now ≡ c.args.body.now = let b = c.args.body.now in
    replaced_same b (sym (utf8_tested b c.args.end c.requires.0) ∙ eq-eqb c.args.end (length b) c.if-end-body.true) in
    rw same (record { place = c.put.ensures.place; bytes = c.put.ensures.bytes })

pub put_replaced-requires : goal.put_replaced-requires
put_replaced-requires c = c.requires.1

pub shape_of-out : goal.shape_of-out
shape_of-out c = c.put_replaced.auto.out

pub returns : goal.returns
returns c =
    record { place = c.put_replaced.ensures.place; bytes = c.put_replaced.ensures.bytes }
