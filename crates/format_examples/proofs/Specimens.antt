-- P1 to P11, each by computing its definitions. Assumes nothing.
use mathlib.Core.Path.{refl}
use Rattle.format.proofs.Computing.{computing}
use Rattle.format_examples.specs.Specimens.{Specimens}

pub specimens : Specimens
unfolding computing
specimens =
    record { p1 = refl; p2 = refl; p3 = refl; p4 = refl; p5 = (refl, refl); p6 = refl; p7 = refl; p8 = refl; p9 = refl; p10 = refl; p11 = refl }
