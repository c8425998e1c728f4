-- `read_split::read_body` meets its contract: each answer by what was judged and the tests that led to it. Assumes nothing.
use mathlib.Core.Path.{sym, ap, ◌∙◌}
use mathlib.Core.Bool.{Bool}
use native.Mathlib.Omega.{arith}
use lib.ListN.{length, drop, length-drop}
use Rattle.read_split.specs.TextJudged.{Stands, body_behind}
use Rattle.format.proofs.Lists.{rest_is}
use Rattle.format.specs.Bytes.{Bytes, over}
use Rattle.sections.specs.Body.{joined}
use Rattle.sections.proofs.BodyParts.{filled_body}
use Rattle.read_split.proofs.TextJudged.{three, parts_stood, parts_stand}
use Rattle.read_split.proofs.BodyAnswers.{found_passed, found_long, found_inside, found_short, found_outside}
use Rattle.read_split.proofs.read_body.Goals as goal
use Rattle.read_split.proofs.read_body.Goals.{In_ok-parted}

pub returns-in_err-parted : goal.returns-in_err-parted
returns-in_err-parted c =
    let all = found_passed c.args.text.now _ c.in_err-parted.ensures c.args.buffer.now c.from_residual.result c.from_residual.ensures.1 in
    record { answered = all.0; length = all.1.0; written = all.1.1 }

-- what was judged
stands_at : (c : In_ok-parted) → Stands c.args.text.now c.in_ok-parted.parted
stands_at c = c.in_ok-parted.ensures

pub body_len-n-requires : goal.body_len-n-requires
body_len-n-requires c =
    let at = stands_at (goal.at.body_len-n-requires c).In_ok-parted in
    ((three _ _ at).within, at.short)

pub returns-then-n-gt-MAX_BODY_SIZE : goal.returns-then-n-gt-MAX_BODY_SIZE
returns-then-n-gt-MAX_BODY_SIZE c =
    let at = stands_at (goal.at.returns-then-n-gt-MAX_BODY_SIZE c).In_ok-parted in
    let all = found_long c.args.text.now (parts_stood _ _ at) (parts_stand _ _ at) _ c.body_len-n.ensures (omega arith) c.args.buffer.now in
    record { answered = all.0; length = all.1.0; written = all.1.1 }

pub returns-then-parted : goal.returns-then-parted
returns-then-parted c =
    let at = stands_at (goal.at.returns-then-parted c).In_ok-parted in
    let all = found_inside c.args.text.now (parts_stood _ _ at) (parts_stand _ _ at) _ c.body_len-n.ensures (omega arith) (sym at.separated ∙ c.if-parted.true) c.args.buffer.now in
    record { answered = all.0; length = all.1.0; written = all.1.1 }

pub returns-then-buffer-n : goal.returns-then-buffer-n
returns-then-buffer-n c =
    let at = stands_at (goal.at.returns-then-buffer-n c).In_ok-parted in
    let all = found_short c.args.text.now (parts_stood _ _ at) (parts_stand _ _ at) _ c.body_len-n.ensures (omega arith) (sym at.separated ∙ c.if-parted.false) c.args.buffer.now (omega arith) in
    record { answered = all.0; length = all.1.0; written = all.1.1 }

pub slice_bounds-join_body-count : goal.slice_bounds-join_body-count
slice_bounds-join_body-count c = omega (arith, (three _ _ (stands_at (goal.at.slice_bounds-join_body-count c).In_ok-parted)).within)

pub slice_bounds-join_body-start : goal.slice_bounds-join_body-start
slice_bounds-join_body-start c = omega (arith, (three _ _ (stands_at (goal.at.slice_bounds-join_body-start c).In_ok-parted)).within)

pub join_body-requires : goal.join_body-requires
join_body-requires c =
    let t = c.args.text.now in
    let rest = c.in_ok-parted.parted.places.rest in
    rw (rest_is t rest, length-drop rest t) (omega (arith, (stands_at (goal.at.join_body-requires c).In_ok-parted).short))

pub returns : goal.returns
returns c =
    let at = stands_at (goal.at.returns c).In_ok-parted in
    let t = c.args.text.now in
    let rest = c.in_ok-parted.parted.places.rest in
    -- under LFLF the sections from the fourth, joined, are the body
    let body = ap joined (rest_is t rest) ∙ ap (λ (b : Bool). body_behind b (drop rest t)) (sym c.if-parted.false) in
    let all = found_outside t (parts_stood _ _ at) (parts_stand _ _ at) _ c.body_len-n.ensures (omega arith) (sym at.separated ∙ c.if-parted.false) c.args.buffer.now _ (omega arith)
    (c.join_body.ensures.bytes ∙ filled_body _ c.args.buffer.now (omega (arith, ap length body, c.body_len-n.ensures)) ∙ ap (λ (b : Bytes). over b c.args.buffer.now) body) in
    record { answered = all.0; length = all.1.0; written = all.1.1 }
