use mathlib.Core.Path.{refl, sym, ◌∙◌}
use native.Mathlib.Omega.{arith}
use Rattle.utf8.specs.Sound.{all_pairs}
use Rattle.utf8.proofs.Sound.{pairs_sound, no_fault}
use Rattle.utf8.proofs.soundness.faults.Goals as goal

pub returns-then-not-pair_faults : goal.returns-then-not-pair_faults
returns-then-not-pair_faults c =
    let part = c.args.part.now in
    let pairs = no_fault (all_pairs 64 part) (sym c.if-not-pair_faults.true ∙ c.pair_faults.ensures) in
    rw (pairs_sound part 64 (omega arith) (omega arith) (omega arith) pairs).0 refl
