-- `report::put_message` meets its contract. Assumes nothing.
use native.Mathlib.Omega.{arith}
use Rattle.report.proofs.ShownLines.{message_put}
use Rattle.report.proofs.put_message.Goals as goal

pub returns : goal.returns
returns c =
    let args = c.args in
    message_put args.headers args.params args.contents args.kind.now args.bodylen (omega (arith, c.requires.0)) c.put_number-to.ensures c.put_number-to-2.ensures c.put_number-to-3.ensures c.put_text-to.ensures c.put_number.ensures
