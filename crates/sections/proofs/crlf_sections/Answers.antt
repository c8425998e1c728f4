-- `sections::crlf_sections` meets its contract: the place that `find` gives tells whether the pattern occurs. Assumes nothing.
use mathlib.Core.Path.{sym, ap, ◌∙◌}
use Prim.Native.Nat.{ℕ}
use native.Mathlib.Omega.{arith}
use lib.ListN.{length}
use lib.Dec.{ltb}
use Rattle.format.specs.Bytes.{crlf_crlf_text}
use Rattle.sections.proofs.FirstCut.{occurs_place}
use Rattle.sections.proofs.crlf_sections.Goals as goal

pub returns : goal.returns
returns c =
    let t = c.args.text.now in
    ap (λ (n : ℕ). ltb n (length t)) c.find.ensures ∙ sym (occurs_place crlf_crlf_text t (omega arith))
