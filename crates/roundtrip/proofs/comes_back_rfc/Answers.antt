-- `roundtrip::comes_back_rfc` meets its contract: no clause fails exactly where the second reading gives the message held. Assumes nothing.
use Rattle.format.specs.Lending.{both_lent}
use Rattle.roundtrip.proofs.Lossless.{rfc_result_says}
use Rattle.roundtrip.proofs.comes_back_rfc.Goals as goal

pub returns : goal.returns
returns c =
    let args = c.args in
    let told = c.loss_by in
    let all = rfc_result_says (both_lent args.m args.head.now args.body.now) told.result c.is_ok.result c.is_ok.ensures.value told.ensures in
    record { condition = all.0; theorem = all.1 }
