-- `lookup::accessors::content_type` meets its contract. Assumes nothing.
use mathlib.Core.Path.{sym, ◌∙◌}
use lib.Seq.{length-take-le}
use Rattle.lookup.proofs.TypeAndBody.{no_type, type_within, type_is}
use Rattle.lookup.proofs.accessors.content_type.Goals as goal

pub returns-then-not-message_holds : goal.returns-then-not-message_holds
returns-then-not-message_holds c =
    no_type c.args.m c.args.head.now (sym c.message_holds.ensures ∙ c.if-not-message_holds.true)

pub slice_bounds-result-end : goal.slice_bounds-result-end
slice_bounds-result-end c =
    let args = c.args in
    sym (length-take-le args.m.typelen args.head.now (type_within args.m args.head.now (sym c.message_holds.ensures ∙ c.if-not-message_holds.false)))

pub returns : goal.returns
returns c = type_is c.args.m c.args.head.now (sym c.message_holds.ensures ∙ c.if-not-message_holds.false)
