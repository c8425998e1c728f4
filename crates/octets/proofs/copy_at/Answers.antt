use mathlib.Core.Path.{refl, ◌∙◌}
use native.Mathlib.Omega.{arith}
use lib.ListN.{length}
use Rattle.std.proofs.lemmas.Slice.{put_mid-paste}
use Rattle.octets.proofs.Paste.{paste_pasted}
use Rattle.octets.proofs.copy_at.Goals as goal

pub returns : goal.returns
returns c =
    let s = c.args.src.now in
    put_mid-paste c.args.at _ c.args.dst.now _ s (length s) c.copy_from_slice.ensures.after (omega arith) refl ∙ paste_pasted c.args.at s c.args.dst.now
