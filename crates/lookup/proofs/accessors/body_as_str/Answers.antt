-- `lookup::accessors::body_as_str` meets its contract. Assumes nothing.
use mathlib.Core.Path.{◌∙◌}
use Rattle.lookup.proofs.TypeAndBody.{no_str, str_is}
use Rattle.lookup.proofs.accessors.body_as_str.Goals as goal

pub returns-in-Some : goal.returns-in-Some
returns-in-Some c = λ o held. c.is_utf8.ensures ∙ str_is o _ (c.in-Some.ensures o held)

pub returns-in-None : goal.returns-in-None
returns-in-None c = λ o held. no_str o (c.in-None.ensures o held)
