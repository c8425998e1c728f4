-- `escape::values::put_lost` meets its contract. Assumes nothing.
use Prim.Native.Nat.{ℕ}
use mathlib.Core.Path.{refl, ap, ◌∙◌}
use Rattle.format.specs.Bytes.{pasted}
use Rattle.format.specs.Escaping.{unicode_escape}
use Rattle.escape.proofs.values.put_lost.Goals as goal

pub returns : goal.returns
returns c =
    let args = c.args in
    record {
      placed = refl;
      wrote = c.put_unicode.ensures
          ∙ ap (λ (n : ℕ). pasted args.at (unicode_escape n) args.out.now) c.code_point.ensures;
    }
