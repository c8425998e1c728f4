-- `read_header_line::read_header_line` meets its contract. Assumes nothing.
use mathlib.Core.Path.{◌≡◌, ap, ◌∙◌}
use mathlib.Core.List.{List}
use Prim.Native.Nat.{◌+◌, ◌-◌}
use native.Mathlib.Omega.{arith}
use lib.ListN.{length, take, drop, length-take}
use Rattle.format.specs.Bytes.{Bytes}
use Rattle.format.specs.Characters.{is_utf8}
use Rattle.format.specs.Lending.{head_lent}
use Rattle.format.specs.Refusals.{accepted, passes}
use Rattle.format.specs.Validators.{header_name}
use Rattle.format.specs.Message.{Entry}
use Rattle.message_rules.proofs.MessageChecks.{name_short}
use Rattle.read_header_line.specs.Gathered.{Gathered}
use Rattle.read_header_line.specs.HeaderLine.{params_by, read_front}
use Rattle.read_header_line.proofs.Yielding.{given, handed_back}
use Rattle.read_header_line.proofs.Front.{front_passed}
use Rattle.read_header_line.proofs.LineSteps.{found_length, left_utf8, right_utf8, no_colon, front_refused, front_read}
use Rattle.read_header_line.proofs.LineParts.{parted_there, params_utf8, stop_is}
use Rattle.read_header_line.proofs.read_header_line.Goals as goal
use Rattle.read_header_line.proofs.read_header_line.Goals.{Else-line-colon, After-params_of-front, In_ok-h}

pub returns-then-line-colon : goal.returns-then-line-colon
returns-then-line-colon c =
    λ k held. no_colon c.args.line.now c.find_byte-colon.result c.find_byte-colon.ensures c.args.manner (head_lent c.args.m c.args.head.now) k (omega arith)

pub slice_bounds-left-end : goal.slice_bounds-left-end
slice_bounds-left-end c = found_length _ _ _ c.find_byte-colon.ensures

-- what stands left and right of the colon
abbrev left-of : (c : Else-line-colon) → Bytes
left-of c = take c.find_byte-colon.result c.args.line.now

abbrev right_of : (c : Else-line-colon) → Bytes
right_of c =
    let line = c.args.line.now in
    let next = c.find_byte-colon.result + 1 in
    take (length line - next) (drop next line)

-- the text that has the parameters
front : (c : After-params_of-front) → c.params_of-front.result.now ≡ params_by c.args.manner (left-of (goal.at.After-params_of-front c).Else-line-colon) (right_of (goal.at.After-params_of-front c).Else-line-colon)
front c = c.params_of-front.ensures

pub name_of-name-requires : goal.name_of-name-requires
name_of-name-requires c =
    let at = (goal.at.name_of-name-requires c).Else-line-colon in
    stop_is c.args.manner (left-of at) (right_of at) _ _ (front (goal.at.name_of-name-requires c).After-params_of-front) c.find_byte-stop.ensures

pub scan_front-requires : goal.scan_front-requires
scan_front-requires c =
    let at = (goal.at.scan_front-requires c).Else-line-colon in
    let f = c.find_byte-colon in
    let line = c.args.line.now in
    record {
      space = c.space_at-at.ensures;
      stops = c.find_byte-stop.ensures;
      enough = c.requires.scratch;
      text = ap is_utf8 (front (goal.at.scan_front-requires c).After-params_of-front)
          ∙ params_utf8 c.args.manner (left-of at) (right_of at) (left_utf8 line f.result f.ensures c.requires.text) (right_utf8 line f.result f.ensures c.requires.text);
    }

pub returns-in_err-h : goal.returns-in_err-h
returns-in_err-h c =
    let args = c.args in
    let f = c.find_byte-colon in
    let at = goal.at.returns-in_err-h c in
    let s = c.from_residual.ensures.1 in
    λ k held. front_refused args.line.now f.result f.ensures args.manner (head_lent args.m args.head.now) _ k (omega (arith, c.if-line-colon.false))
    (c.in_err-h.ensures (left-of at.Else-line-colon) c.name_of-name.ensures (front at.After-params_of-front)) _ s
    (ap (λ m. head_lent m args.head.now) (handed_back _ args.m _ s))

-- the parameters were read
gathered : (c : In_ok-h) → (ps : List Entry) × (read_front c.args.manner (left-of (goal.at.In_ok-h c).Else-line-colon) (right_of (goal.at.In_ok-h c).Else-line-colon) ≡ accepted ps)
    × (Gathered c.in_ok-h.h c.scan_front.new.room ps)
gathered c = given (c.in_ok-h.ensures (left-of (goal.at.In_ok-h c).Else-line-colon) c.name_of-name.ensures (front (goal.at.In_ok-h c).After-params_of-front))

pub value_of-requires : goal.value_of-requires
value_of-requires c =
    let at = (goal.at.value_of-requires c).Else-line-colon in
    let g = gathered (goal.at.value_of-requires c).In_ok-h in
    let manner = c.args.manner in
    let space = c.space_at-at in
    (space.ensures, parted_there manner (right_of at) space.result space.ensures (front_passed manner (left-of at) (right_of at) g.0 g.1).1)

pub slice_bounds-append_read-count : goal.slice_bounds-append_read-count
slice_bounds-append_read-count c = omega (arith, (gathered (goal.at.slice_bounds-append_read-count c).In_ok-h).2.from)

pub slice_bounds-append_read-start : goal.slice_bounds-append_read-start
slice_bounds-append_read-start c = omega (arith, (gathered (goal.at.slice_bounds-append_read-start c).In_ok-h).2.from)

pub slice_bounds-append_read-end : goal.slice_bounds-append_read-end
slice_bounds-append_read-end c = omega (arith, (gathered (goal.at.slice_bounds-append_read-end c).In_ok-h).2.to, c.requires.scratch)

pub append_read-requires : goal.append_read-requires
append_read-requires c =
    let at = (goal.at.append_read-requires c).Else-line-colon in
    let g = gathered (goal.at.append_read-requires c).In_ok-h in
    let passed = (front_passed c.args.manner (left-of at) (right_of at) g.0 g.1).0 in
    record {
      held = c.requires.held;
      bytes = (
        omega (arith, name_short _ (ap (λ (s : Bytes). passes (header_name s)) c.name_of-name.ensures ∙ passed)),
        omega (arith, g.2.few),
        simp length-take (omega (arith, g.2.to)),
      );
    }

pub returns : goal.returns
returns c =
    let args = c.args in
    let f = c.find_byte-colon in
    let g = gathered (goal.at.returns c).In_ok-h in
    λ k held. front_read args.line.now f.result f.ensures args.manner (head_lent args.m args.head.now) _ k
    (omega (arith, c.if-line-colon.false)) _ g.0 _ _ g.1 c.name_of-name.ensures c.value_of.ensures
    (c.append_read.ensures k g.0 held (record { many_are = g.2.many; bytes_are = g.2.bytes }))
