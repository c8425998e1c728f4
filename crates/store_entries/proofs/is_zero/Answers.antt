use mathlib.Core.Path.{◌≡◌, refl, ap, ◌∙◌}
use borrow.Author.Rules.{rules}
use borrow.Author.Tests.{tests}
use lib.Dec.{eqb}
use Rattle.std.proofs.lemmas.Fn.{fold_over, fronts, slice_gives}
use Rattle.format.specs.Bytes.{all}
use Rattle.octets.proofs.ByteBlock.{all_push}
use Rattle.store_entries.proofs.Zeros.{all_flipped}
use Rattle.store_entries.proofs.is_zero.Goals as goal

pub returns : goal.returns
unfolding all
returns c =
    fold_over fronts (λ y. y.now) _ (λ ys a. a ≡ all (λ b. eqb b 0) ys) _
    (λ ys a x b f' j k. (all_push (λ b. eqb b 0) ys x.now a b j (search (rules, tests)), search (rules, tests)))
    _ _ _ _ (slice_gives c.iter.result) refl c.fold.ensures.ran
    ∙ all_flipped c.iter.result.rest.now ∙ ap (all (eqb 0)) c.iter.ensures.rest
