-- `validate::classes::any_in` meets its contract: one was found in the bytes so far. Assumes nothing.
use Rattle.std.proofs.Common.{rules, tests, ◌≡◌, subst, refl}
use Rattle.std.proofs.lemmas.Fn.{fold_over, slice_gives, fronts}
use Rattle.format.specs.Bytes.{any}
use Rattle.validate.proofs.Searching.{any_push}
use Rattle.validate.proofs.classes.any_in.Goals as goal

pub returns : goal.returns
unfolding any
returns g c = λ class says. subst (λ l. c.fold.result ≡ any class l) c.iter.ensures.rest
    (fold_over fronts (λ y. y.now) _ (λ ys found. found ≡ any class ys) _
    (λ ys a x b f' j k. let more = any_push class ys x.now in search (rules, tests, says, more))
    _ _ _ _ (slice_gives c.iter.result) refl c.fold.ensures.ran)
