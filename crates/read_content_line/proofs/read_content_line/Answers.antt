-- `read_content_line::read_content_line` meets its contract: a line goes by its colon and its name. Assumes nothing.
use mathlib.Core.Path.{◌≡◌, sym, ap, ◌∙◌}
use Rattle.format.specs.Bytes.{colon, up_to, past}
use Rattle.format.specs.Characters.{trim}
use Rattle.format.specs.Lending.{head_lent, lengths}
use Rattle.format.specs.Told.{told}
use Rattle.read_content_line.proofs.ContentLine.{line_skipped, line_typed, line_named}
use Rattle.read_content_line.proofs.read_content_line.Goals as goal
use Rattle.read_content_line.proofs.read_content_line.Goals.{After-same_letters}

pub returns-then-not-has : goal.returns-then-not-has
unfolding told
returns-then-not-has c =
    let m = c.args.m in
    let head = c.args.head.now in
    λ k held. line_skipped m head c.args.line.now k held (sym c.has.ensures ∙ c.if-not-has.true)

-- the trimmed name and value
named : (c : After-same_letters) → c.trim-name.result.now ≡ trim (up_to colon c.args.line.now)
named c = c.trim-name.ensures ∙ ap trim c.up_to-left.ensures.before

valued : (c : After-same_letters) → c.trim-value.result.now ≡ trim (past colon c.args.line.now)
valued c = c.trim-value.ensures ∙ ap trim c.past-right.ensures.behind

pub returns-then-same_letters : goal.returns-then-same_letters
returns-then-same_letters c =
    let at = (goal.at.returns-then-same_letters c).After-same_letters in
    let line = c.args.line.now in
    λ k held. line_typed _ _ _ (lengths (head_lent c.args.m c.args.head.now)) line _ _ k
    (sym c.has.ensures ∙ c.if-not-has.false)
    (named at)
    (valued at)
    (sym c.same_letters.ensures ∙ c.if-same_letters.true)
    (c.set_type.ensures k held)

pub returns-else-same_letters : goal.returns-else-same_letters
returns-else-same_letters c =
    let at = (goal.at.returns-else-same_letters c).After-same_letters in
    let line = c.args.line.now in
    λ k held. line_named _ _ _ (lengths (head_lent c.args.m c.args.head.now)) line _ _ k
    (sym c.has.ensures ∙ c.if-not-has.false)
    (named at)
    (valued at)
    (sym c.same_letters.ensures ∙ c.if-same_letters.false)
    (c.content_held.ensures k held)
