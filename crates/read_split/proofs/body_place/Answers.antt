-- `read_split::body_place` meets its contract: each place by what was judged and the tests that led to it. Assumes nothing.
use mathlib.Core.Path.{◌≡◌, sym, ap, ◌∙◌}
use mathlib.Core.Bool.{Bool}
use native.Mathlib.Omega.{arith}
use lib.ListN.{drop}
use Rattle.format.specs.Refusals.{accepted}
use Rattle.format.specs.LookingUp.{body_of_text}
use Rattle.read_split.specs.TextJudged.{Stands, body_behind}
use Rattle.sections.proofs.Joining.{body_crlf}
use Rattle.read_split.proofs.TextJudged.{three, parts_stood, parts_stand}
use Rattle.read_split.proofs.BodyAnswers.{no_body, long_body_lem, short_body}
use Rattle.read_split.proofs.BodyEnds.{place_none, place_inside, place_over, place_outside}
use Rattle.read_split.proofs.body_place.Goals as goal
use Rattle.read_split.proofs.body_place.Goals.{In-Ok, Else-body_len-gt-MAX_BODY_SIZE}

pub returns-in_default : goal.returns-in_default
returns-in_default c = place_none _ _ _ _ (no_body c.args.text.now _ c.in_default.ensures)

-- what was judged
stands_at : (c : In-Ok) → Stands c.args.text.now c.in-Ok.parted
stands_at c = c.in-Ok.ensures

pub body_len-requires : goal.body_len-requires
body_len-requires c =
    let at = stands_at (goal.at.body_len-requires c).In-Ok in
    ((three _ _ at).within, at.short)

pub returns-then-body_len-gt-MAX_BODY_SIZE : goal.returns-then-body_len-gt-MAX_BODY_SIZE
returns-then-body_len-gt-MAX_BODY_SIZE c =
    let at = stands_at (goal.at.returns-then-body_len-gt-MAX_BODY_SIZE c).In-Ok in
    place_none _ _ _ _ (long_body_lem c.args.text.now (parts_stood _ _ at) (parts_stand _ _ at) _ c.body_len.ensures (omega arith))

pub overflow_sub-result : goal.overflow_sub-result
overflow_sub-result c = omega (arith, (three _ _ (stands_at (goal.at.overflow_sub-result c).In-Ok)).within)

-- the body where 23 does not apply
body_at : (c : Else-body_len-gt-MAX_BODY_SIZE) → body_of_text c.args.text.now ≡ accepted (body_behind c.in-Ok.parted.crlf (drop c.in-Ok.parted.places.rest c.args.text.now))
body_at c =
    let at = stands_at (goal.at.Else-body_len-gt-MAX_BODY_SIZE c).In-Ok in
    short_body _ (parts_stood _ _ at) (parts_stand _ _ at) _ c.body_len.ensures (omega arith)

pub returns-then-parted : goal.returns-then-parted
returns-then-parted c =
    let at = stands_at (goal.at.returns-then-parted c).In-Ok in
    let rest = c.in-Ok.parted.places.rest in
    place_inside _ _ _ _ (body_at (goal.at.returns-then-parted c).Else-body_len-gt-MAX_BODY_SIZE) (sym at.separated ∙ c.if-parted.true) rest (three _ _ at).within
    (ap (λ (b : Bool). body_behind b (drop rest c.args.text.now)) c.if-parted.true ∙ body_crlf (drop rest c.args.text.now))

pub returns-then-buffer-len : goal.returns-then-buffer-len
returns-then-buffer-len c =
    place_over _ _ _ _ (body_at (goal.at.returns-then-buffer-len c).Else-body_len-gt-MAX_BODY_SIZE) (sym (stands_at (goal.at.returns-then-buffer-len c).In-Ok).separated ∙ c.if-parted.false) (omega arith)

pub returns : goal.returns
returns c =
    place_outside _ _ _ _ (body_at (goal.at.returns c).Else-body_len-gt-MAX_BODY_SIZE) (sym (stands_at (goal.at.returns c).In-Ok).separated ∙ c.if-parted.false) (omega arith)
