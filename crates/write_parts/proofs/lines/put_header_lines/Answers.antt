-- `write_parts::lines::put_header_lines` meets its contract. The invariant is `Lined`, of headers that are left as `Headed` has them. Assumes nothing.
use mathlib.Core.Path.{refl}
use native.Mathlib.Omega.{arith}
use Rattle.format.specs.Writing.{header_line, ended}
use Rattle.store_entry_check.specs.FromBytes.{header_from, headers_from}
use Rattle.write_parts.proofs.StoreWalk.{passing_shaped, passing_numbers, passing_size}
use Rattle.write_parts.proofs.Headed.{headed_start, headed_tail, headed_on}
use Rattle.write_parts.proofs.Lined.{lined_from, lined_length, lined_room, lined_on, lined_all}
use Rattle.write_parts.proofs.lines.put_header_lines.Goals as goal

pub loop-init : goal.loop-init
unfolding headers_from
loop-init c =
    let hs = headed_start c.args.s.now c.args.count c.requires.0 in
    (hs, lined_from header_from (λ h. ended (header_line h)) refl hs.passing)

pub put_header_line-to-requires : goal.put_header_line-to-requires
put_header_line-to-requires c =
    let l = c.loop in
    let args = c.args in (
      passing_shaped args.s.now args.count l.from l.counter l.invariant.1.passing (omega arith),
      headed_tail args.s.now args.count l.from l.counter l.invariant.0 (omega arith),
      lined_room header_from (λ h. ended (header_line h)) l.invariant.1 c.requires.1 (omega arith),
    )

pub entry_len-from-requires : goal.entry_len-from-requires
entry_len-from-requires c =
    let l = c.loop in
    let args = c.args in
    passing_numbers args.s.now args.count l.from l.counter l.invariant.1.passing (omega arith)

pub overflow_add-from : goal.overflow_add-from
overflow_add-from c =
    let l = c.loop in
    let args = c.args in
    omega (arith, passing_size args.s.now args.count l.from l.counter l.invariant.1.passing (omega arith), c.entry_len-from.ensures.0)

pub loop-preserved : goal.loop-preserved
loop-preserved c =
    let l = c.loop in
    rw c.entry_len-from.ensures.0
    (headed_on c.args.s.now c.args.count l.from l.counter l.invariant.0 (omega arith), lined_on header_from (λ h. ended (header_line h)) l.invariant.1 c.requires.1 (omega arith) (c.put_header_line-to.ensures.place, c.put_header_line-to.ensures.bytes))

pub shape_of-out : goal.shape_of-out
shape_of-out c = lined_length header_from (λ h. ended (header_line h)) c.loop.invariant.1 c.requires.1

pub returns : goal.returns
returns c =
    let all = lined_all header_from (λ h. ended (header_line h)) c.loop.invariant.1 c.requires.1 (omega arith) in
    record { place = all.0; bytes = all.1 }
