-- `report::put_numbers` meets its contract. Assumes nothing.
use Rattle.report.proofs.ShownLines.{numbers_put}
use Rattle.report.proofs.put_numbers.Goals as goal

pub returns : goal.returns
returns c = numbers_put c.args.numbers.number c.args.numbers.carried c.put_number-to.ensures c.put_number.ensures
