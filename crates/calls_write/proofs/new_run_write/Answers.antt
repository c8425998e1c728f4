-- `calls_write::new_run_write` meets its contract: what was begun and the text of what is held, or what refused the beginning (`SentExits`). Assumes nothing.
use mathlib.Core.Path.{◌≡◌, refl}
use Rattle.std.proofs.Common.{rules, Err}
use Rattle.format.specs.Told.{told}
use Rattle.calls_write.proofs.BegunExits.{told_err, same_told, none_made}
use Rattle.calls_write.proofs.SentExits.{not_sent, sent}
use Rattle.calls_write.proofs.new_run_write.Goals as goal

pub returns-in_err-made : goal.returns-in_err-made
returns-in_err-made c =
    let begun = c.new_and_run.ensures in
    let gave : c.from_residual.result ≡ Err c.in_err-made.field-0.0 = search rules in
    record {
      steps = (_, _, begun.steps);
      sent = not_sent _ _ _ _ _ _ _ _ _ _ _ _ begun.began (told_err _ _ c.in_err-made.was) (same_told _ _ _ gave c.in_err-made.was) (none_made _ _ gave) refl;
    }

pub returns : goal.returns
unfolding told
returns c =
    let begun = c.in_ok-made.ensures in
    record { steps = (_, _, begun.steps); sent = sent _ _ _ _ _ _ _ _ _ _ _ _ begun.began refl c.to_string.ensures.wrote c.to_string.ensures.length }
