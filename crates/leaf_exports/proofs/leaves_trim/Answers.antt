-- `leaf_exports::leaves_trim` meets its contract: a trimmed text is no longer than the text. Assumes nothing.
use mathlib.Core.Path.{ap, ◌∙◌}
use native.Mathlib.Omega.{arith}
use lib.ListN.{length}
use Rattle.format.specs.Bytes.{Bytes, pasted}
use Rattle.format.specs.Characters.{is_white}
use Rattle.format.proofs.Characters.Trim.{trim_shorter}
use Rattle.leaf_exports.proofs.leaves_trim.Goals as goal

pub copy_at-requires : goal.copy_at-requires
copy_at-requires c =
    let s : Bytes = c.args.s.now in
    omega (arith, ap length c.trim-t.ensures, trim_shorter is_white s)

pub returns : goal.returns
returns c =
    let trimmed = c.trim-t.ensures in
    let out : Bytes = c.args.out.now in
    record { len = ap length trimmed; bytes = c.copy_at.ensures ∙ ap (λ (t : Bytes). pasted 0 t out) trimmed }
