-- `escape::values::put_front` meets its contract. Assumes nothing.
use mathlib.Core.Path.{◌≡◌, sym, ◌∙◌}
use native.Mathlib.Omega.{arith}
use lib.ListN.{length, take}
use lib.Seq.{length-take-le}
use Rattle.escape.proofs.ValueParts.{lost_six, nothing_put, lost_put}
use Rattle.escape.proofs.values.put_front.Goals as goal

pub returns-then-front-eq0 : goal.returns-then-front-eq0
returns-then-front-eq0 c =
    let part = take c.args.front c.args.v.now in
    let part_length : length part ≡ c.args.front = length-take-le c.args.front c.args.v.now c.requires.0 in
    let all = nothing_put part c.args.at c.args.out.now (part_length ∙ c.if-front-eq0.true) in
    record { placed = all.0; wrote = all.1 }

pub slice_bounds-put_lost-end : goal.slice_bounds-put_lost-end
slice_bounds-put_lost-end c =
    let part = take c.args.front c.args.v.now in
    let part_length : length part ≡ c.args.front = length-take-le c.args.front c.args.v.now c.requires.0 in
    sym part_length

pub put_lost-requires : goal.put_lost-requires
put_lost-requires c =
    let part = take c.args.front c.args.v.now in
    let part_length : length part ≡ c.args.front = length-take-le c.args.front c.args.v.now c.requires.0 in
    let some : length part ≡ 0 → ⊥ = λ z. c.if-front-eq0.false (sym part_length ∙ z) in
    omega (arith, c.requires.1, lost_six part some)

pub returns : goal.returns
returns c =
    let part = take c.args.front c.args.v.now in
    let part_length : length part ≡ c.args.front = length-take-le c.args.front c.args.v.now c.requires.0 in
    let some : length part ≡ 0 → ⊥ = λ z. c.if-front-eq0.false (sym part_length ∙ z) in
    let all = lost_put part c.args.at c.put_lost.result c.args.out.now c.put_lost.new.out
    some c.put_lost.ensures.placed c.put_lost.ensures.wrote in
    record { placed = all.0; wrote = all.1 }
