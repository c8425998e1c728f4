-- `calls_run::run_call` meets its contract: the form of the call says what follows its number. Assumes nothing.
use mathlib.Core.Path.{◌∙◌}
use Prim.Native.Nat.{◌+◌}
use Rattle.calls_run.proofs.CallRuns.{text_whole, pair_whole, object_whole, text_run, pair_run, form_run, no_run, first_whole, second_whole, second_is}
use Rattle.calls_run.proofs.run_call.Goals as goal

pub argument_at-requires : goal.argument_at-requires
argument_at-requires c = text_whole _ _ _ (rw c.in-Some-Text.field-0-is at c.in-Some-Text.ensures) c.requires.whole

pub returns-in-Some-Text : goal.returns-in-Some-Text
returns-in-Some-Text c = text_run _ _ _ _ _ _ (rw c.in-Some-Text.field-0-is at c.in-Some-Text.ensures) c.argument_at.ensures c.text_call.ensures

pub argument_at-first-requires : goal.argument_at-first-requires
argument_at-first-requires c = first_whole c.args.script.now (c.args.at + 1) (pair_whole _ _ _ (rw c.in-Some-Pair.field-0-is at c.in-Some-Pair.ensures) c.requires.whole)

pub behind-requires : goal.behind-requires
behind-requires c = first_whole c.args.script.now (c.args.at + 1) (pair_whole _ _ _ (rw c.in-Some-Pair.field-0-is at c.in-Some-Pair.ensures) c.requires.whole)

pub argument_at-second-requires : goal.argument_at-second-requires
argument_at-second-requires c =
    let w = pair_whole _ _ _ (rw c.in-Some-Pair.field-0-is at c.in-Some-Pair.ensures) c.requires.whole in
    second_whole c.args.script.now (c.args.at + 1) _ (first_whole c.args.script.now (c.args.at + 1) w) c.behind.ensures w

pub returns-in-Some-Pair : goal.returns-in-Some-Pair
returns-in-Some-Pair c =
    let w = pair_whole _ _ _ (rw c.in-Some-Pair.field-0-is at c.in-Some-Pair.ensures) c.requires.whole in
    pair_run _ _ _ _ _ _ _ (rw c.in-Some-Pair.field-0-is at c.in-Some-Pair.ensures) c.argument_at-first.ensures
    (c.argument_at-second.ensures ∙ second_is c.args.script.now (c.args.at + 1) _ (first_whole c.args.script.now (c.args.at + 1) w) c.behind.ensures) (c.pair_call.ensures c.args.body.now)

pub header_call-requires : goal.header_call-requires
header_call-requires c = object_whole _ _ (rw c.in-Some-AddHeaderObj.field-0-is at c.in-Some-AddHeaderObj.ensures) c.requires.whole

pub returns-in-Some-AddHeaderObj : goal.returns-in-Some-AddHeaderObj
returns-in-Some-AddHeaderObj c = form_run _ _ _ _ (rw c.in-Some-AddHeaderObj.field-0-is at c.in-Some-AddHeaderObj.ensures) (c.header_call.ensures c.args.body.now)

pub returns-in-None : goal.returns-in-None
returns-in-None c = no_run _ _ _ c.in-None.ensures
