-- What reading the lines of a section or of a text ensures. Assumes nothing.
use Rattle.std.specs.Prelude.{◌≡◌}
use Rattle.format.specs.Refusals.{Out, accepted, numbers}
use Rattle.format.specs.Message.{Message}
use Rattle.format.specs.Layout.{Lent, Holds}
use Rattle.format.specs.declared.Numbers.{Numbers}

-- By the outcome o of all lines: k is what is left, n what is answered. Where a line is refused the head store's bytes are free.
pub record LinesRead (k : Lent) (n : Numbers) (o : Out Message) : Type 0 where
  pub answered : n ≡ numbers o
  pub held : (m : Message) → o ≡ accepted m → Holds k m
