-- `calls_write::begun::new_and_run` meets its contract: what it calls ensures the steps of the list. Assumes nothing.
use mathlib.Core.Path.{◌≡◌, refl, ◌∙◌}
use Rattle.std.proofs.Common.{rules}
use Rattle.format.specs.Layout.{empty_message}
use Rattle.format.specs.Lending.{both_lent, makes}
use Rattle.format.specs.Told.{told}
use Rattle.calls_script.specs.Script.{state}
use Rattle.calls_write.proofs.Trace.{list_held}
use Rattle.calls_write.proofs.BegunExits.{not_begun, begun_held, told_err}
use Rattle.calls_write.proofs.begun.new_and_run.Goals as goal

pub returns-in_err-made : goal.returns-in_err-made
unfolding makes
returns-in_err-made c =
    let gave : c.from_residual.result ≡ c.new.result = search rules in
    rw gave
    (record {
      steps = record {
        start = state _ _ _;
        made = c.new.ensures;
        ran = (λ z. absurd (told_err _ _ c.in_err-made.was z), λ z. refl);
      };
      began = not_begun _ _ _ _ _ _ c.new.ensures.answered (told_err _ _ c.in_err-made.was)
          (λ x h. c.new.ensures.left ∙ (λ i. makes (both_lent empty_message c.args.head.now c.args.body.now) (h i)));
    })

pub returns : goal.returns
unfolding told
returns c = record {
  steps = record {
    start = state _ _ _;
    made = c.in_ok-made.ensures;
    ran = (λ z. c.run.ensures.run, λ z. absurd (z refl));
  };
  began = begun_held _ _ _ _ _ _ c.in_ok-made.ensures.answered refl
      (λ m h. list_held c.args.content_type.now c.args.content.now c.args.head.now c.args.body.now (state _ _ _) (state _ _ _) _ m _ c.in_ok-made.ensures h c.run.ensures.run);
}
