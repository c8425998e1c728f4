-- How many bytes parameters within limits need. Assumes nothing.
use Prim.Native.Nat.{◌*◌, ◌≤◌}
use mathlib.Core.Path.{◌≡◌}
use mathlib.Core.Bool.{true}
use mathlib.Core.List.{List, [], ◌∷◌}
use native.Mathlib.Omega.{arith}
use lib.ListN.{length}
use Rattle.format.specs.Bytes.{all, total}
use Rattle.format.specs.Message.{Entry, valid_param, need_entry}
use Rattle.format.proofs.Lists.{all_head, all_tail}
use Rattle.format.proofs.Messages.Parts as valid
use Rattle.header.proofs.HeaderChecks.{name_short, value_short}

-- a parameter needs at most 16 + 64 + 256 bytes
entry_bytes_lem : (e : Entry) → valid_param e ≡ true → need_entry e ≤ 336
unfolding need_entry
entry_bytes_lem e h =
    let p = valid.param_parts e h in
    omega (arith, name_short e.name p.named, value_short e.value p.valued)

pub entries_bytes : (es : List Entry) → all valid_param es ≡ true → total need_entry es ≤ 336 * length es
unfolding total
entries_bytes [] h = omega arith
entries_bytes (e ∷ es) h =
    omega (arith, entry_bytes_lem e (all_head valid_param e es h), entries_bytes es (all_tail valid_param e es h))
