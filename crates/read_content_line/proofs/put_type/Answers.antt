-- `read_content_line::put_type` meets its contract: the zeros stand behind the type. Assumes nothing.
use mathlib.Core.Path.{◌≡◌, refl, ap, ◌∙◌}
use Prim.Native.Nat.{ℕ, ◌-◌}
use native.Mathlib.Omega.{arith}
use lib.ListN.{length, replicate, length-replicate, length-take, length-drop}
use Rattle.std.proofs.lemmas.Slice.{put_mid-paste}
use Rattle.format.specs.Bytes.{pasted}
use Rattle.octets.proofs.Paste.{paste_pasted}
use Rattle.read_content_line.proofs.Typing.{type_put}
use Rattle.read_content_line.proofs.put_type.Goals as goal

pub returns : goal.returns
returns c =
    let t = c.args.t.now in
    let rest = 256 - length t in
    let zeros : c.zero_fill.new.s ≡ replicate rest 0 = c.zero_fill.ensures ∙ ap (λ (n : ℕ). replicate n 0) (simp (length-take, length-drop) (omega arith)) in
    put_mid-paste (length t) rest c.copy_at.new.dst _ (replicate rest 0) _ zeros (length-replicate rest 0) refl
    ∙ paste_pasted (length t) (replicate rest 0) c.copy_at.new.dst
    ∙ ap (pasted (length t) (replicate rest 0)) c.copy_at.ensures
    ∙ type_put t c.args.head.now (omega arith) (omega arith)
