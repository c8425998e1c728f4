-- `write_parts::lines::put_content_lines` meets its contract. The invariant is `Lined`. Assumes nothing.
use mathlib.Core.Path.{refl}
use native.Mathlib.Omega.{arith}
use Rattle.format.specs.Writing.{content_line, ended}
use Rattle.store_entry_check.specs.FromBytes.{entry_from, entries_from}
use Rattle.write_parts.proofs.StoreWalk.{passing_shaped, passing_numbers, passing_size}
use Rattle.write_parts.proofs.Lined.{lined_start, lined_length, lined_room, lined_on, lined_all}
use Rattle.write_parts.proofs.lines.put_content_lines.Goals as goal

pub loop-init : goal.loop-init
unfolding entries_from
loop-init c =
    lined_start entry_from (λ e. ended (content_line e)) refl c.requires.0

pub put_content_line-to-requires : goal.put_content_line-to-requires
put_content_line-to-requires c =
    let l = c.loop in
    let args = c.args in (
      passing_shaped args.s.now args.count l.from l.counter l.invariant.passing (omega arith),
      lined_room entry_from (λ e. ended (content_line e)) l.invariant c.requires.1 (omega arith),
    )

pub entry_len-from-requires : goal.entry_len-from-requires
entry_len-from-requires c =
    let l = c.loop in
    let args = c.args in
    passing_numbers args.s.now args.count l.from l.counter l.invariant.passing (omega arith)

pub overflow_add-from : goal.overflow_add-from
overflow_add-from c =
    let l = c.loop in
    let args = c.args in
    omega (arith, passing_size args.s.now args.count l.from l.counter l.invariant.passing (omega arith), c.entry_len-from.ensures.0)

pub loop-preserved : goal.loop-preserved
loop-preserved c =
    let l = c.loop in
    rw c.entry_len-from.ensures.0 (lined_on entry_from (λ e. ended (content_line e)) l.invariant c.requires.1 (omega arith) (c.put_content_line-to.ensures.place, c.put_content_line-to.ensures.bytes))

pub shape_of-out : goal.shape_of-out
shape_of-out c = lined_length entry_from (λ e. ended (content_line e)) c.loop.invariant c.requires.1

pub returns : goal.returns
returns c =
    let all = lined_all entry_from (λ e. ended (content_line e)) c.loop.invariant c.requires.1 (omega arith) in
    record { place = all.0; bytes = all.1 }
