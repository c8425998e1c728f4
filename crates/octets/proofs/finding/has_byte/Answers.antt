use mathlib.Core.Path.{◌≡◌, refl, ap, ◌∙◌}
use borrow.Author.Rules.{rules}
use borrow.Author.Tests.{tests}
use lib.Dec.{eqb}
use Rattle.std.proofs.lemmas.Fn.{fold_over, fronts, slice_gives}
use Rattle.format.specs.Bytes.{any, has}
use Rattle.octets.proofs.ByteBlock.{any_push, any_flipped}
use Rattle.octets.proofs.finding.has_byte.Goals as goal

pub returns : goal.returns
unfolding any
returns c =
    fold_over fronts (λ y. y.now) _ (λ ys a. a ≡ any (λ b. eqb b c.args.c) ys) _
    (λ ys a x b f' j k. (any_push (λ b. eqb b c.args.c) ys x.now a b j (search (rules, tests)), search (rules, tests)))
    _ _ _ _ (slice_gives c.iter.result) refl c.fold.ensures.ran
    ∙ any_flipped c.args.c _ ∙ ap (has c.args.c) c.iter.ensures.rest
