-- `calls_write::begun::read_and_run` meets its contract: what it calls ensures the steps of the list. Assumes nothing.
use mathlib.Core.Path.{◌≡◌, refl}
use Rattle.std.proofs.Common.{rules}
use Rattle.format.specs.declared.Manner.TheVariants.{Source}
use Rattle.format.specs.Told.{told}
use Rattle.calls_script.specs.Script.{state}
use Rattle.calls_write.proofs.Trace.{list_held_reading}
use Rattle.calls_write.proofs.BegunExits.{not_begun, begun_held, by_refusal, told_err}
use Rattle.calls_write.proofs.begun.read_and_run.Goals as goal

pub returns-in_err-parsed : goal.returns-in_err-parsed
returns-in_err-parsed c =
    let gave : c.from_residual.result ≡ c.parse_cpim.result = search rules in
    rw gave
    (record {
      steps = record {
        start = state _ _ _;
        parsed = c.parse_cpim.ensures;
        ran = (λ z. absurd (told_err _ _ c.in_err-parsed.was z), λ z. refl);
      };
      began = not_begun _ _ _ _ _ _ c.parse_cpim.ensures.answered (told_err _ _ c.in_err-parsed.was)
          (λ x h. by_refusal _ _ _ x h c.parse_cpim.ensures.left);
    })

pub returns : goal.returns
unfolding told
returns c = record {
  steps = record {
    start = state _ _ _;
    parsed = c.in_ok-parsed.ensures;
    ran = (λ z. c.run.ensures.run, λ z. absurd (z refl));
  };
  began = begun_held _ _ _ _ _ _ c.in_ok-parsed.ensures.answered refl
      (λ m h. list_held_reading Source c.args.text.now c.args.head.now c.args.body.now (state _ _ _) (state _ _ _) _ m _ c.in_ok-parsed.ensures h c.run.ensures.run);
}
