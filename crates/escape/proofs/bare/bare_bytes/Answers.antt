use mathlib.Core.Path.{◌∙◌}
use borrow.Author.Rules.{rules}
use borrow.Author.Tests.{tests}
use Rattle.std.proofs.lemmas.Iterator.{YieldsList-from_slice}
use Rattle.std.proofs.lemmas.Iterator.Search.{all_from_yields_List}
use Rattle.escape.specs.Bare.{is_bare}
use Rattle.escape.proofs.Overlapping.{all_list}
use Rattle.escape.proofs.bare.bare_bytes.Goals as goal

pub returns : goal.returns
returns c =
    all_from_yields_List is_bare _ _ c.all.result c.all.ensures.ran (YieldsList-from_slice c.args.v.now cc) (λ x b q k. search (rules, tests))
    ∙ all_list is_bare c.args.v.now
