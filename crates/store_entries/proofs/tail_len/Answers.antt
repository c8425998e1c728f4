-- `store_entries::tail_len` meets its contract. Assumes nothing.
use mathlib.Core.Path.{sym, ◌∙◌}
use lib.Seq.{get_or-drop}
use Rattle.store_entries.proofs.EntryShape.{tail_at}
use Rattle.store_entries.proofs.tail_len.Goals as goal

pub returns : goal.returns
returns c =
    let args = c.args in (
      c.two_bytes.ensures.0 ∙ sym (tail_at args.s.now args.at),
      c.two_bytes.ensures.2,
      rw (get_or-drop args.at args.s.now 4 0) c.two_bytes.ensures.1,
    )
