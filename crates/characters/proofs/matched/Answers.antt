use Prim.Native.Nat.{ℕ}
use mathlib.Core.Path.{ap, ◌∙◌}
use borrow.Author.Rules.{rules}
use borrow.Author.Tests.{tests}
use Rattle.std.specs.List.{zip}
use Rattle.std.proofs.lemmas.Iterator.{YieldsList-from_slice, YieldsList-from_zip}
use Rattle.std.proofs.lemmas.Iterator.Consumers.{count_from_yields_List}
use Rattle.std.proofs.lemmas.Iterator.Search.{YieldsList-from_take_while}
use Rattle.std.proofs.lemmas.List.Folds.{length-prefix_len}
use Rattle.format.specs.Characters.{within}
use Rattle.characters.specs.Coded.{coded}
use Rattle.characters.proofs.Coding.{zip_matched}
use Rattle.characters.proofs.matched.Goals as goal

pub returns : goal.returns
returns c =
    let ps = c.args.ranges.now in
    let s = c.args.s.now in
    let first = YieldsList-from_slice {s = c.zip.result.a} ps (ap (λ i. i.rest.now) c.zip.ensures.first ∙ c.iter.ensures.rest) in
    let second = YieldsList-from_slice {s = c.zip.result.b} s (search rules) in
    let pairs = YieldsList-from_zip {s = c.zip.result} first second in
    count_from_yields_List _ c.count.result c.count.ensures.ran
    (YieldsList-from_take_while {s = c.take_while.result} _ (λ (q : (ℕ × ℕ) × ℕ). within q.1 (coded q.0))
    (rw (← c.take_while.ensures.source) at pairs)
    c.take_while.ensures.closure c.take_while.ensures.done (λ x b q k. search (rules, tests)))
    ∙ length-prefix_len (λ (q : (ℕ × ℕ) × ℕ). within q.1 (coded q.0)) (zip ps s)
    ∙ zip_matched ps s
