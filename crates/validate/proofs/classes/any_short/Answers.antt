-- `validate::classes::any_short` meets its contract. Assumes nothing.
use Rattle.std.proofs.Common.{rules, tests, ◌∙◌}
use Rattle.std.proofs.lemmas.Iterator.{YieldsList-from_slice}
use Rattle.std.proofs.lemmas.Iterator.Search.{any_from_yields_List}
use Rattle.validate.proofs.Searching.{any_listed}
use Rattle.validate.proofs.classes.any_short.Goals as goal

pub returns : goal.returns
returns g c = λ class says.
    any_from_yields_List class _ _ _ c.any.ensures.ran (YieldsList-from_slice c.args.s.now cc) (λ x b q k. search (rules, tests, says))
    ∙ any_listed class c.args.s.now
