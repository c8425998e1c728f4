-- `report::words::put_entry_words` meets its contract. Assumes nothing.
use Rattle.std.specs.Prelude as std
use Rattle.std.proofs.Common.{option_copied}
use denote.Bor.{Bor}
use Prim.Native.Nat.{◌≤◌, ◌<◌}
use mathlib.Core.Path.{subst}
use native.Mathlib.Omega.{arith}
use lib.ListN.{length}
use Rattle.format.specs.Bytes.{Bytes}
use Rattle.format.specs.Told.{given}
use Rattle.format.proofs.Escaping.Escape.{escape_length}
use Rattle.report.specs.Words.{Near}
use Rattle.report.proofs.WordParts.{no_entry, entry_put}
use Rattle.report.proofs.words.put_entry_words.Goals as goal
use Rattle.report.proofs.words.put_entry_words.Goals.{In-Some}

near : (c : In-Some) → (c.args.n < 1000) × (length c.in-Some.name.now ≤ 128)
near c = subst (λ (o : std.Option (Bor Bytes)). Near c.args.n (given (option_copied o))) c.in-Some.is c.requires.1

pub returns-in_default : goal.returns-in_default
returns-in_default c = rw c.in_default.is (no_entry c.args.kind.now c.args.n c.args.at c.args.out.now)

pub escape_header_value-to-requires : goal.escape_header_value-to-requires
escape_header_value-to-requires c =
    let n = near (goal.at.escape_header_value-to-requires c).In-Some in
    omega (arith, escape_length c.in-Some.name.now, c.requires.0, n.1)

pub put-requires : goal.put-requires
put-requires c =
    let n = near (goal.at.put-requires c).In-Some in
    omega (arith, escape_length c.in-Some.name.now, c.requires.0, n.1, c.escape_header_value-to.ensures.placed)

pub returns : goal.returns
returns c =
    let args = c.args in
    let n = near (goal.at.returns c).In-Some in
    rw c.in-Some.is
    (entry_put args.kind.now args.n c.in-Some.name.now (omega (arith, c.requires.0)) (omega (arith, escape_length c.in-Some.name.now, n.1)) (c.put-to.ensures.place, c.put-to.ensures.bytes) c.put_decimal-to.ensures (c.put-to-2.ensures.place, c.put-to-2.ensures.bytes) (c.escape_header_value-to.ensures.placed, c.escape_header_value-to.ensures.wrote) (c.put.ensures.place, c.put.ensures.bytes))
