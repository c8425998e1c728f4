-- `unescape::put_plain` meets its contract: where nothing is written, nothing is changed. Assumes nothing.
use mathlib.Core.Path.{sym, ◌∙◌}
use lib.ListN.{length}
use Rattle.std.proofs.lemmas.List.{nil_from_length}
use borrow.Author.Tests.{eqb-true}
use Rattle.octets.proofs.Paste.{pasted_nil}
use Rattle.unescape.proofs.put_plain.Goals as goal

pub returns-else-not-is_empty : goal.returns-else-not-is_empty
returns-else-not-is_empty c =
    rw (nil_from_length c.args.plain.now (eqb-true (length c.args.plain.now) 0 (sym c.is_empty.ensures ∙ c.if-not-is_empty.false)))
    (sym (pasted_nil c.args.at c.args.out.now))
