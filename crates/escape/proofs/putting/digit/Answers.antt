-- `escape::putting::digit` meets its contract. The digit by its size. Assumes nothing.
use mathlib.Core.Path.{refl}
use borrow.Author.Tests.{lt-ltb, le-ltb}
use Rattle.format.specs.Escaping.{digit}
use Rattle.escape.proofs.putting.digit.Goals as goal

pub returns-then-d-lt10 : goal.returns-then-d-lt10
unfolding digit
returns-then-d-lt10 c = rw (lt-ltb _ 10 c.if-d-lt10.true) refl

pub returns : goal.returns
unfolding digit
returns c = rw (le-ltb _ 10 c.if-d-lt10.false) refl
