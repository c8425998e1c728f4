-- `roundtrip::comes_back` meets its contract: no clause fails exactly where the message held reads back. Assumes nothing.
use Rattle.format.specs.Lending.{both_lent}
use Rattle.roundtrip.proofs.Lossless.{source_result_says}
use Rattle.roundtrip.proofs.comes_back.Goals as goal

pub returns : goal.returns
returns c =
    let args = c.args in
    let told = c.loss_by in
    let all = source_result_says (both_lent args.m args.head.now args.body.now) told.result c.is_ok.result c.is_ok.ensures.value told.ensures in
    record { condition = all.0; theorem = all.1 }
