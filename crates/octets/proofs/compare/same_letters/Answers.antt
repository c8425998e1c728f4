use Rattle.octets.proofs.Comparing.{letters_decided}
use Rattle.octets.proofs.compare.same_letters.Goals as goal

pub returns : goal.returns
returns c = letters_decided c.args.a.now c.args.b.now _ c.eq_ignore_ascii_case.ensures.test
