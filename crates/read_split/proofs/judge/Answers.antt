-- `read_split::judge` meets its contract: each answer by the tests that led to it. Assumes nothing.
use mathlib.Core.Path.{◌≡◌, sym, ◌∙◌}
use mathlib.Core.Bool.{true}
use native.Mathlib.Omega.{arith}
use Rattle.format.specs.Characters.{is_utf8}
use Rattle.format.specs.Told.{meant}
use Rattle.read_split.proofs.TextJudged.{too_long_lem, not_text, few, stands}
use Rattle.read_split.proofs.judge.Goals as goal
use Rattle.read_split.proofs.judge.Goals.{Else-not-is_utf8}

pub returns-then-text-gt-MAX_PARSE_SIZE : goal.returns-then-text-gt-MAX_PARSE_SIZE
unfolding meant
returns-then-text-gt-MAX_PARSE_SIZE c = too_long_lem c.args.text.now (omega arith)

pub returns-then-not-is_utf8 : goal.returns-then-not-is_utf8
unfolding meant
returns-then-not-is_utf8 c = not_text c.args.text.now (omega arith) (sym c.is_utf8.ensures ∙ c.if-not-is_utf8.true)

-- the text is UTF-8
text_at : (c : Else-not-is_utf8) → is_utf8 c.args.text.now ≡ true
text_at c = sym c.is_utf8.ensures ∙ c.if-not-is_utf8.false

pub returns-in-Some : goal.returns-in-Some
returns-in-Some c =
    stands c.args.text.now (omega arith) (text_at (goal.at.returns-in-Some c).Else-not-is_utf8) c.crlf_sections-crlf.result c.crlf_sections-crlf.ensures
    _ _ c.in-Some.is c.first_three.ensures.places c.first_three.ensures.parts

pub returns-in-None : goal.returns-in-None
unfolding meant
returns-in-None c =
    few c.args.text.now (omega arith) (text_at (goal.at.returns-in-None c).Else-not-is_utf8) c.crlf_sections-crlf.result c.crlf_sections-crlf.ensures
    _ c.in-None.is c.first_three.ensures.parts
