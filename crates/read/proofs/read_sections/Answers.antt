-- `read::read_sections` meets its contract: the checks and the steps in order; what the lines give is said of the stores' lengths at the
-- start. Assumes nothing.
use mathlib.Core.Path.{◌≡◌, refl, sym, subst, ◌∙◌}
use mathlib.Core.Bool.{true}
use native.Mathlib.Omega.{arith}
use lib.ListN.{length}
use Rattle.format.specs.Refusals.{accepted, table}
use Rattle.format.specs.Message.{Message}
use Rattle.format.specs.Reading.{each, lines, read_header_line, blank, says_cpim}
use Rattle.format.specs.ReadingRfc.{line_reader}
use Rattle.format.specs.Layout.{empty_message}
use Rattle.format.specs.Lending.{head_lent, lengths}
use Rattle.format.specs.Told.{told, meant}
use Rattle.format.specs.declared.CpimMessage.{CpimMessage}
use Rattle.std.specs.Prelude.{Ok}
use Rattle.store_check.proofs.MessageHeld.{holds_held}
use Rattle.read.specs.Heads.{any_body}
use Rattle.read.specs.SectionLines.{LinesRead}
use Rattle.read.proofs.LinesLoop.{zero_accepted, ok_number, err_number, refused_lines, lines_default}
use Rattle.read.proofs.Outcomes.{headers_same, contents_same, no_cpim, no_room_lem, headers_stop, contents_decide}
use Rattle.read.proofs.read_sections.Goals as goal
use Rattle.read.proofs.read_sections.Goals.{Else-not-says, After-start-m, After-read_headers, In_ok-read, After-read_contents}

pub returns-then-not-says : goal.returns-then-not-says
unfolding says_cpim told meant table
returns-then-not-says c =
    no_cpim (line_reader c.args.manner) _ _ _ _ _ _ refl (sym c.says.ensures ∙ c.if-not-says.true)

-- 3 does not apply
said : (c : Else-not-says) → says_cpim c.args.mime.now ≡ true
unfolding says_cpim
said c = sym c.says.ensures ∙ c.if-not-says.false

pub returns-then-head-lt256 : goal.returns-then-head-lt256
unfolding told meant table
returns-then-head-lt256 c =
    no_room_lem (line_reader c.args.manner) _ _ _ _ _ _ (said (goal.at.returns-then-head-lt256 c).Else-not-says) refl (omega arith)

pub read_headers-requires : goal.read_headers-requires
read_headers-requires c = record { held = holds_held _ blank c.start-m.ensures; text = c.requires.0; scratch = omega arith }

-- the head store keeps its length
kept-start : (c : After-start-m) → length c.start-m.new.head ≡ length c.args.head.now
kept-start c = c.start-m.auto.head

kept-headers : (c : After-read_headers) → length c.read_headers.new.head ≡ length c.args.head.now
kept-headers c = c.read_headers.auto.head ∙ kept-start (goal.at.After-read_headers c).After-start-m

pub returns-in_err-read : goal.returns-in_err-read
unfolding lengths any_body
returns-in_err-read c =
    let d = subst (LinesRead _ _) (headers_same _ (any_body (length c.args.head.now)) (kept-start (goal.at.returns-in_err-read c).After-start-m) _ blank (line_reader c.args.manner)) (c.in_err-read.ensures blank c.start-m.ensures) in
    refused_lines CpimMessage _ _ _ c.from_residual.ensures.1
    (headers_stop (line_reader c.args.manner) _ _ _ _ (head_lent empty_message c.args.head.now) _ (said (goal.at.returns-in_err-read c).Else-not-says) (omega (arith, c.if-head-lt256)) d.answered (err_number CpimMessage _)).answered

-- the headers: what their lines give, and the message where all are accepted
headers_read : (c : In_ok-read) → LinesRead (head_lent c.in_ok-read.read c.read_headers.new.head) (told (Ok c.in_ok-read.read)) (each (read_header_line (line_reader c.args.manner) (any_body (length c.args.head.now))) (lines c.args.headers.now) blank)
unfolding lengths any_body
headers_read c = subst (LinesRead _ _) (headers_same _ (any_body (length c.args.head.now)) (kept-start (goal.at.In_ok-read c).After-start-m) _ blank (line_reader c.args.manner)) (c.in_ok-read.ensures blank c.start-m.ensures)

headers_are : (c : In_ok-read) → (m : Message) × (each (read_header_line (line_reader c.args.manner) (any_body (length c.args.head.now))) (lines c.args.headers.now) blank ≡ accepted m)
headers_are c = zero_accepted _ _ (headers_read c).answered (ok_number c.in_ok-read.read)

pub read_contents-requires : goal.read_contents-requires
read_contents-requires c =
    let at = (goal.at.read_contents-requires c).In_ok-read in
    let h = headers_are at in
    record { held = holds_held _ h.0 ((headers_read at).held h.0 h.1); text = c.requires.1 }

-- the content headers in the same way
pub returns : goal.returns
unfolding lengths any_body
returns c =
    let at = (goal.at.returns c).In_ok-read in
    let h = headers_are at in
    contents_decide (line_reader c.args.manner) _ _ _ _ _ _ (said (goal.at.returns c).Else-not-says) (omega (arith, c.if-head-lt256)) h.0 h.1
    (lines_default _ c.in_ok-read.read _ _ _ (subst (LinesRead _ _) (contents_same _ (any_body (length c.args.head.now)) (kept-headers (goal.at.returns c).After-read_headers) _ h.0) (c.read_contents.ensures h.0 ((headers_read at).held h.0 h.1))))
