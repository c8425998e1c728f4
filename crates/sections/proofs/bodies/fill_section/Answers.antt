-- `sections::bodies::fill_section` meets its contract: what is copied is as long as the part, so it takes its place (`pasted_all`).
-- Assumes nothing.
use mathlib.Core.Path.{◌≡◌, sym, ap, ◌∙◌}
use mathlib.Core.Bool.{Bool, true, false}
use Prim.Native.Nat.{◌+◌}
use native.Mathlib.Omega.{arith}
use lib.ListN.{length}
use borrow.Author.Tests.{eqb-true}
use Rattle.format.specs.Bytes.{pasted}
use Rattle.sections.specs.Body.{led}
use Rattle.sections.proofs.BodyParts.{led_length, fill_first, fill_lead, fill_led}
use Rattle.sections.proofs.bodies.fill_section.Goals as goal

-- the part's length, by whether a section stands before
pub copy_at-requires : goal.copy_at-requires
copy_at-requires c =
    let size : (ahead : Bool) → c.args.ahead ≡ ahead → length c.args.part.now ≡ length (led ahead c.args.section.now) = λ ahead e. c.requires ∙ ap (λ (b : Bool). length (led b c.args.section.now)) e in
    let after-lead : length c.args.part.now ≡ 4 + length c.args.section.now = size true c.if-ahead.true ∙ led_length true c.args.section.now in
    omega (arith, after-lead)

pub copy_at-requires-then-ahead : goal.copy_at-requires-then-ahead
copy_at-requires-then-ahead c =
    let size : (ahead : Bool) → c.args.ahead ≡ ahead → length c.args.part.now ≡ length (led ahead c.args.section.now) = λ ahead e. c.requires ∙ ap (λ (b : Bool). length (led b c.args.section.now)) e in
    let after-lead : length c.args.part.now ≡ 4 + length c.args.section.now = size true c.if-ahead.true ∙ led_length true c.args.section.now in
    omega (arith, after-lead, c.copy_at.auto.dst)

-- an empty section leaves the lead alone
pub returns-then-is_empty : goal.returns-then-is_empty
returns-then-is_empty c =
    let s = c.args.section.now in
    let part = c.args.part.now in
    let taken = c.if-ahead.true in
    let size : length part ≡ length (led true s) = c.requires ∙ ap (λ (b : Bool). length (led b s)) taken in
    c.copy_at.ensures ∙ fill_lead s part (eqb-true _ 0 (sym c.is_empty.ensures ∙ c.if-is_empty.true)) size ∙ ap (λ (b : Bool). led b s) (sym taken)

pub returns-then-ahead : goal.returns-then-ahead
returns-then-ahead c =
    let size : (ahead : Bool) → c.args.ahead ≡ ahead → length c.args.part.now ≡ length (led ahead c.args.section.now) = λ ahead e. c.requires ∙ ap (λ (b : Bool). length (led b c.args.section.now)) e in
    let taken = c.if-ahead.true in
    c.copy_at-then-ahead.ensures
    ∙ ap (pasted 4 c.args.section.now) c.copy_at.ensures
    ∙ fill_led c.args.section.now c.args.part.now (size true taken)
    ∙ ap (λ (b : Bool). led b c.args.section.now) (sym taken)

pub copy_at-requires-2 : goal.copy_at-requires-2
copy_at-requires-2 c =
    let size : (ahead : Bool) → c.args.ahead ≡ ahead → length c.args.part.now ≡ length (led ahead c.args.section.now) = λ ahead e. c.requires ∙ ap (λ (b : Bool). length (led b c.args.section.now)) e in
    omega (arith, size false c.if-ahead.false, led_length false c.args.section.now)

pub returns : goal.returns
returns c =
    let size : (ahead : Bool) → c.args.ahead ≡ ahead → length c.args.part.now ≡ length (led ahead c.args.section.now) = λ ahead e. c.requires ∙ ap (λ (b : Bool). length (led b c.args.section.now)) e in
    let left = c.if-ahead.false in
    c.copy_at-2.ensures ∙ fill_first c.args.section.now c.args.part.now (size false left) ∙ ap (λ (b : Bool). led b c.args.section.now) (sym left)
