use mathlib.Core.Path.{◌∙◌}
use borrow.Author.Rules.{rules}
use borrow.Author.Tests.{tests}
use Rattle.std.proofs.lemmas.Iterator.{YieldsList-from_slice}
use Rattle.std.proofs.lemmas.Iterator.Search.{position_from_yields_List}
use Rattle.std.specs.Prelude.{nat_eq}
use Rattle.octets.proofs.Find.{up_to_found_at}
use Rattle.octets.proofs.finding.find_byte_plain.Goals as goal

pub returns : goal.returns
returns c =
    c.unwrap_or.ensures
    ∙ up_to_found_at c.args.c c.args.s.now c.position.result
    (position_from_yields_List (λ b. nat_eq b c.args.c) _ _ _ c.position.ensures.ran (YieldsList-from_slice c.args.s.now cc) (λ x b q k. search (rules, tests)))
