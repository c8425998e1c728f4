-- `lookup_places::put_row` meets its contract. Assumes nothing.
use mathlib.Core.Path.{refl, ◌∙◌}
use native.Mathlib.Omega.{arith}
use lib.ListN.{length}
use Rattle.std.proofs.lemmas.Slice.{put_mid-paste}
use Rattle.octets.proofs.Paste.{paste_pasted}
use Rattle.lookup_places.proofs.put_row.Goals as goal

pub returns : goal.returns
returns c =
    let row = c.args.row.now in
    put_mid-paste c.args.k _ c.args.out.now _ row (length row) c.copy_from_slice.ensures.after (omega (arith, c.told-row)) refl ∙ paste_pasted c.args.k row c.args.out.now
