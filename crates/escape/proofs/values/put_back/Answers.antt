-- `escape::values::put_back` meets its contract. Assumes nothing.
use Prim.Native.Nat.{◌-◌}
use mathlib.Core.Path.{◌≡◌, ap, ◌∙◌}
use native.Mathlib.Omega.{arith}
use lib.ListN.{length, drop, length-drop}
use Rattle.format.specs.Bytes.{Bytes, pasted}
use Rattle.format.specs.Characters.{code_point}
use Rattle.format.specs.Escaping.{unicode_escape}
use Rattle.format.proofs.Lists.{rest_is}
use Rattle.escape.proofs.ValueParts.{lost_six, nothing_put, lost_put}
use Rattle.escape.proofs.values.put_back.Goals as goal

pub returns-then-end-v : goal.returns-then-end-v
returns-then-end-v c =
    let part = drop c.args.end c.args.v.now in
    let part_length : length part ≡ length c.args.v.now - c.args.end = length-drop c.args.end c.args.v.now in
    let all = nothing_put part c.args.at c.args.out.now (omega (arith, part_length, c.if-end-v.true)) in
    record { placed = all.0; wrote = all.1 }

pub put_lost-requires : goal.put_lost-requires
put_lost-requires c =
    let part = drop c.args.end c.args.v.now in
    let part_length : length part ≡ length c.args.v.now - c.args.end = length-drop c.args.end c.args.v.now in
    let some : length part ≡ 0 → ⊥ = λ z. c.if-end-v.false (omega (arith, part_length, c.requires.0)) in
    omega (arith, c.requires.1, lost_six part some)

pub returns : goal.returns
returns c =
    let part = drop c.args.end c.args.v.now in
    let part_length : length part ≡ length c.args.v.now - c.args.end = length-drop c.args.end c.args.v.now in
    let some : length part ≡ 0 → ⊥ = λ z. c.if-end-v.false (omega (arith, part_length, c.requires.0)) in
    let all = lost_put part c.args.at c.put_lost.result c.args.out.now c.put_lost.new.out
    some c.put_lost.ensures.placed
    (c.put_lost.ensures.wrote ∙ ap (λ (g : Bytes). pasted c.args.at (unicode_escape (code_point g)) c.args.out.now) (rest_is c.args.v.now c.args.end)) in
    record { placed = all.0; wrote = all.1 }
