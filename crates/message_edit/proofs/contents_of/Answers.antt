-- `message_edit::contents_of` meets its contract. Assumes nothing.
use mathlib.Core.Path.{ap, ◌∙◌}
use Prim.Native.Nat.{◌+◌}
use mathlib.Core.List.{List}
use lib.ListN.{length}
use Rattle.format.specs.Bytes.{total}
use Rattle.store_entries.specs.Stored.{Stored, shaped_all, entries_in, stored_size}
use Rattle.store_entries.specs.Passing.{under, of_name}
use Rattle.message_edit.proofs.MessageBounds.{bounds, part_is, contents-grouped}
use Rattle.message_edit.proofs.contents_of.Goals as goal

pub find_group-requires : goal.find_group-requires
find_group-requires c =
    let m = c.args.m in
    let head = c.args.head.now in
    ap (shaped_all m.contents) (part_is (256 + m.headerlen) m.contentlen head) ∙ (bounds m head c.requires).contents_shaped

pub returns : goal.returns
returns c =
    let m = c.args.m in
    let head = c.args.head.now in
    let name = c.args.name.now in
    let e = ap (entries_in m.contents) (part_is (256 + m.headerlen) m.contentlen head) in
    let found = c.find_group.ensures in
    λ k held. contents-grouped m head name k held _ _ _
    (found.place ∙ ap (λ (es : List Stored). total stored_size (under name es)) e)
    (found.bytes ∙ ap (λ (es : List Stored). total stored_size (of_name name es)) e)
    (found.entries ∙ ap (λ (es : List Stored). length (of_name name es)) e)
