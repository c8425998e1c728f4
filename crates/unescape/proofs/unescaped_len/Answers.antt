-- `unescape::unescaped_len` meets its contract. Assumes nothing.
use mathlib.Core.Path.{refl, sym, ap, ◌∙◌}
use Prim.Native.Nat.{◌+◌, ◌-◌, ◌≤◌}
use native.Mathlib.Omega.{arith}
use lib.ListN.{length, take, drop, length-take, length-drop}
use Rattle.format.specs.Characters.{encoding}
use Rattle.octets.proofs.Find.{found_within}
use Rattle.unescape.specs.Reads.{measured}
use Rattle.unescape.proofs.Stretches.{Read, Turn, stretch_taken, read_end, read_refused, escape_taken, escape_within, measured_some}
use Rattle.unescape.proofs.unescaped_len.Goals as goal
use Rattle.unescape.proofs.unescaped_len.Goals.{After-split_at, In_ok-code}

pub split_at-requires : goal.split_at-requires
split_at-requires c = omega (arith, found_within 92 c.loop-found.rest.now c.next_backslash.result c.next_backslash.ensures)

turn : (c : After-split_at) → Turn c.loop-found.rest.now c.split_at.result.0.now c.split_at.result.1.now
turn c = record { k = c.next_backslash.result; found = c.next_backslash.ensures; front = c.split_at.ensures.front; back = c.split_at.ensures.back }

read : (c : After-split_at) → Read c.args.manner c.args.s.now (c.loop-found.n + length c.split_at.result.0.now) c.split_at.result.1.now
read c = stretch_taken c.loop-found.invariant.1 (turn c)

pub returns-in_default : goal.returns-in_default
returns-in_default c = let so = read (goal.at.returns-in_default c).After-split_at in measured_some (read_end so (omega arith)) so.long

pub returns-in_err-code : goal.returns-in_err-code
returns-in_err-code c =
    let at = (goal.at.returns-in_err-code c).After-split_at in
    c.from_residual.ensures ∙ ap measured (sym (read_refused (read at) (turn at) (omega arith) _ refl (sym c.in_err-code.ensures)))

-- the escape lies within the text
ends :
    (c : In_ok-code)
    → (c.in_ok-code.field-0.takes ≤ length (take (length c.split_at.result.1.now - 1) (drop 1 c.split_at.result.1.now)))
    × (length (encoding c.in_ok-code.field-0.code) ≤ 1 + c.in_ok-code.field-0.takes)
ends c = escape_within _ _ _ (sym c.in_ok-code.ensures)

pub overflow_add-n-in-loop-found : goal.overflow_add-n-in-loop-found
overflow_add-n-in-loop-found c =
    omega (arith, simp (length-take, length-drop) at (ends (goal.at.overflow_add-n-in-loop-found c).In_ok-code).0, (ends (goal.at.overflow_add-n-in-loop-found c).In_ok-code).1)

pub slice_bounds-rest-count : goal.slice_bounds-rest-count
slice_bounds-rest-count c = (ends (goal.at.slice_bounds-rest-count c).In_ok-code).0

pub slice_bounds-rest-start : goal.slice_bounds-rest-start
slice_bounds-rest-start c = (ends (goal.at.slice_bounds-rest-start c).In_ok-code).0

pub loop-found-preserved : goal.loop-found-preserved
loop-found-preserved c =
    let e = ends (goal.at.loop-found-preserved c).In_ok-code in (
      simp (length-take, length-drop) (omega (arith, simp (length-take, length-drop) at e.0, e.1)),
      let at = (goal.at.loop-found-preserved c).After-split_at in
          escape_taken (read at) (turn at) (omega arith) _ refl _ (sym c.in_ok-code.ensures) _ c.code_len-n.ensures,
    )
