-- `unescape::unescape_header_value` meets its contract. Assumes nothing.
use mathlib.Core.Path.{refl, sym}
use Prim.Native.Nat.{◌+◌, ◌≤◌}
use native.Mathlib.Omega.{arith}
use lib.ListN.{length}
use Rattle.format.specs.Characters.{encoding}
use Rattle.octets.proofs.Find.{found_within}
use Rattle.unescape.proofs.Stretches.{Turn, Written, nothing_written, stretch_taken, read_refused, escape_taken, escape_within, not_refused, room, stretch_written, escape_written, written_all}
use Rattle.unescape.proofs.unescape_header_value.Goals as goal
use Rattle.unescape.proofs.unescape_header_value.Goals.{After-split_at, After-put_plain, In-Some}

pub loop-found-init : goal.loop-found-init
loop-found-init c = nothing_written c.args.manner c.args.s.now c.args.at c.args.out.now

pub split_at-requires : goal.split_at-requires
split_at-requires c = omega (arith, found_within 92 c.loop-found.rest.now c.next_backslash.result c.next_backslash.ensures)

turn : (c : After-split_at) → Turn c.loop-found.rest.now c.split_at.result.0.now c.split_at.result.1.now
turn c = record { k = c.next_backslash.result; found = c.next_backslash.ensures; front = c.split_at.ensures.front; back = c.split_at.ensures.back }

pub put_plain-requires : goal.put_plain-requires
put_plain-requires c =
    omega (arith, room (stretch_taken c.loop-found.invariant.read (turn (goal.at.put_plain-requires c).After-split_at)) c.requires.reads, c.loop-found.invariant.place)

-- the stretch is written
stretch :
    (c : After-put_plain)
    → Written c.args.manner c.args.s.now c.split_at.result.1.now c.args.at (c.loop-found.to + length c.split_at.result.0.now) c.args.out.now c.put_plain.new.out
stretch c = stretch_written c.loop-found.invariant (turn (goal.at.After-put_plain c).After-split_at) (omega arith) c.put_plain.ensures

pub returns-in_default : goal.returns-in_default
returns-in_default c =
    let all = written_all (stretch (goal.at.returns-in_default c).After-put_plain) (omega arith) in record { placed = all.0; wrote = all.1 }

pub returns-in_default-escape_at : goal.returns-in_default-escape_at
returns-in_default-escape_at c =
    let at = goal.at.returns-in_default-escape_at c in
    not_refused _ c.requires.reads
    (read_refused (stretch at.After-put_plain).read (turn at.After-split_at) (omega arith) _ refl (sym c.in_default-escape_at.ensures))

-- there is room for what the escape stands for
fits : (c : In-Some) → c.loop-found.to + length c.split_at.result.0.now + length (encoding c.in-Some.field-0.code) ≤ length c.args.out.now
fits c =
    let at = goal.at.In-Some c in
    let so = stretch at.After-put_plain in
    omega (arith, room (escape_taken so.read (turn at.After-split_at) (omega arith) _ refl _ (sym c.in-Some.ensures) _ refl) c.requires.reads, so.place)

pub put_code-to-requires : goal.put_code-to-requires
put_code-to-requires c = omega (arith, fits (goal.at.put_code-to-requires c).In-Some)

pub overflow_add-to-in-loop-found : goal.overflow_add-to-in-loop-found
overflow_add-to-in-loop-found c = omega (arith, fits (goal.at.overflow_add-to-in-loop-found c).In-Some)

pub slice_bounds-rest-count : goal.slice_bounds-rest-count
slice_bounds-rest-count c = (escape_within _ _ _ (sym c.in-Some.ensures)).0

pub slice_bounds-rest-start : goal.slice_bounds-rest-start
slice_bounds-rest-start c = (escape_within _ _ _ (sym c.in-Some.ensures)).0

pub loop-found-preserved : goal.loop-found-preserved
loop-found-preserved c =
    let at = goal.at.loop-found-preserved c in
    escape_written (stretch at.After-put_plain) (turn at.After-split_at) (omega arith) _ (sym c.in-Some.ensures) (omega arith) c.put_code-to.ensures.wrote _ c.put_code-to.ensures.placed
