-- `read_header_line::values::append_read` meets its contract. Assumes nothing.
use mathlib.Core.Path.{◌≡◌, refl, sym, ap, ◌∙◌}
use mathlib.Core.Option.{some}
use native.Mathlib.Omega.{arith}
use Rattle.format.specs.Bytes.{Bytes}
use Rattle.format.specs.Escaping.{unescape_by}
use Rattle.format.specs.Lending.{head_lent}
use Rattle.unescape.specs.Reads.{value_of}
use Rattle.unescape.proofs.Stretches.{plain_reads}
use Rattle.read_header_line.proofs.Yielding.{handed_back, given}
use Rattle.read_header_line.proofs.ValueRead.{plain_refused, plain_passed, plain_short, escaped_sized, append_refused, append_given}
use Rattle.read_header_line.proofs.values.append_read.Goals as goal
use Rattle.read_header_line.proofs.values.append_read.Goals.{Then-find_byte-text}

-- there is no backslash
plain : (c : Then-find_byte-text) → unescape_by c.args.manner c.args.text.now ≡ some c.args.text.now
plain c = plain_reads c.args.manner c.args.text.now (sym c.find_byte.ensures ∙ c.if-find_byte-text.true)

pub returns-in_err-validate_cpim_header_value : goal.returns-in_err-validate_cpim_header_value
returns-in_err-validate_cpim_header_value c =
    let s = c.from_residual.ensures.1 in
    λ k ps held t. append_refused c.args.name.now ps _ k _ {R = Bytes} {P = λ x v. Unit {0}}
    (plain_refused _ c.args.text.now (plain (goal.at.returns-in_err-validate_cpim_header_value c).Then-find_byte-text) _ c.in_err-validate_cpim_header_value.ensures) _ s
    (ap (λ m. head_lent m c.args.head.now) (handed_back _ c.args.m _ s))

pub append_held-requires : goal.append_held-requires
append_held-requires c = record {
  held = c.requires.held;
  fits = record {
    value = (refl, refl);
    bytes = (
      c.requires.bytes.0,
      omega (arith, plain_short _ c.args.text.now (plain (goal.at.append_held-requires c).Then-find_byte-text) _ c.in_ok-validate_cpim_header_value.ensures),
      c.requires.bytes.1,
      c.requires.bytes.2,
    );
  };
}

pub returns-then-find_byte-text : goal.returns-then-find_byte-text
returns-then-find_byte-text c =
    λ k ps held t. append_given c.args.name.now ps _ k _
    (plain_passed _ c.args.text.now (plain (goal.at.returns-then-find_byte-text c).Then-find_byte-text) _ c.in_ok-validate_cpim_header_value.ensures) refl t
    (λ x s. c.append_held.ensures k x held s)

pub returns-in_err-escaped_len : goal.returns-in_err-escaped_len
returns-in_err-escaped_len c =
    let s = c.from_residual-in_err-escaped_len.ensures.1 in
    λ k ps held t. append_refused c.args.name.now ps _ k _ c.in_err-escaped_len.ensures _ s (ap (λ m. head_lent m c.args.head.now) (handed_back _ c.args.m _ s))

pub append_held-requires-2 : goal.append_held-requires-2
append_held-requires-2 c =
    let g = given c.in_ok-escaped_len.ensures in
    record {
      held = c.requires.held;
      fits = record { value = escaped_sized c.args.manner c.args.text.now g.2; bytes = (c.requires.bytes.0, omega (arith, g.2.short), c.requires.bytes.1, c.requires.bytes.2) };
    }

pub returns : goal.returns
returns c =
    let g = given c.in_ok-escaped_len.ensures in
    λ k ps held t. append_given c.args.name.now ps _ k _ g.1 (ap value_of g.2.reads) t (λ x s. c.append_held-2.ensures k x held s)
