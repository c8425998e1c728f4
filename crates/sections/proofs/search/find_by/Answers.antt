-- `sections::search::find_by` meets its contract: where a block has the pattern at one of its places the text has it there (`block_found`), else
-- the block is passed over (`block_past`, `block_none`). The invariant: the text's place is that of what is left, so many bytes on. Assumes nothing.
use mathlib.Core.Path.{sym, ap, ◌∙◌}
use native.Mathlib.Omega.{arith}
use lib.ListN.{drop, length-drop}
use Rattle.format.proofs.Lists.{rest_is}
use Rattle.sections.specs.Place.{place}
use Rattle.sections.proofs.FirstPlace.{place_le}
use Rattle.sections.proofs.SearchBlocks.{block_past, block_none, block_found}
use Rattle.sections.proofs.search.find_by.Goals as goal
use Rattle.sections.proofs.search.find_by.Goals.{then-near_in+else-place, else-near_in}

pub returns-then-place : goal.returns-then-place
returns-then-place g c =
    omega (
      arith,
      c.requires.finds.0.says _ _ c.within-place.ensures,
      block_found g.row.PLACES c.args.pattern.now c.args.text.now c.loop-at.at (omega arith) (omega arith) (omega arith) (omega (arith, c.requires.finds.0.says _ _ c.within-place.ensures)),
    )

pub loop-at-preserved : goal.loop-at-preserved
loop-at-preserved g c =
    let p = c.args.pattern.now in
    let t = c.args.text.now in (
      omega arith,
      elim c.if-near_in.branch [
        | then-near_in+else-place w ↦ omega (arith, block_past g.row.PLACES p t c.loop-at.at (omega arith) (omega arith) (omega arith) (omega (arith, c.requires.finds.0.says _ _ w.within-place.ensures)))
        | else-near_in w ↦ omega (arith, block_none g.row.PLACES p t c.loop-at.at (omega arith) (omega arith) (omega arith) (sym c.near_in.ensures ∙ w.if-near_in.false))
      ],
    )

pub overflow_add-result-2 : goal.overflow_add-result-2
overflow_add-result-2 g c =
    let p = c.args.pattern.now in
    let t = c.args.text.now in
    let at = c.loop-at.at in
    record { fits = omega (arith, c.requires.finds.1.says _ _ c.behind.ensures, ap (place p) (rest_is t at), place_le p (drop at t), length-drop at t) }
