-- `calls_script::call_end` meets its contract: the form of the call says what follows its number. Assumes nothing.
use mathlib.Core.Path.{sym, ap, ◌∙◌}
use Prim.Native.Nat.{◌+◌}
use Rattle.std.proofs.Common.{Some}
use Rattle.calls_script.specs.declared.Form.{Form}
use lib.ListN.{drop, get_or}
use Rattle.calls_script.specs.Script.{form_of, meant}
use Rattle.calls_script.proofs.ArgumentEnds.{one_end, two_end, three_end, other_end, at_end}
use Rattle.calls_script.proofs.call_end.Goals as goal

pub returns-then-at-s : goal.returns-then-at-s
returns-then-at-s c = at_end c.args.s.now c.args.at _ (form_of (get_or c.args.s.now c.args.at 0)) c.if-at-s.true

pub returns-in_err-form_of : goal.returns-in_err-form_of
returns-in_err-form_of c = rw c.from_residual.ensures (other_end _ _ _ c.in_err-form_of.ensures)

pub returns-in-Text : goal.returns-in-Text
returns-in-Text c = one_end (drop (c.args.at + 1) c.args.s.now) (c.args.at + 1) _ _ _ (ap (λ (f : Form). meant (Some f)) (sym c.in-Text.is) ∙ c.in_ok-form_of.ensures) c.argument_end.ensures

pub returns-in-Pair : goal.returns-in-Pair
returns-in-Pair c = two_end (drop (c.args.at + 1) c.args.s.now) (c.args.at + 1) _ _ _ (ap (λ (f : Form). meant (Some f)) (sym c.in-Pair.is) ∙ c.in_ok-form_of.ensures) c.two_end.ensures

pub returns-in-AddHeaderObj : goal.returns-in-AddHeaderObj
returns-in-AddHeaderObj c = three_end (drop (c.args.at + 1) c.args.s.now) (c.args.at + 1) _ _ (ap (λ (f : Form). meant (Some f)) (sym c.in-AddHeaderObj.is) ∙ c.in_ok-form_of.ensures) c.header_end.ensures
