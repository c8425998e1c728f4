-- `roundtrip::early_loss` meets its contract: the clauses one by one. Assumes nothing.
use mathlib.Core.Path.{sym, ◌∙◌}
use Rattle.std.proofs.Common.{rules, Some, None, not}
use Rattle.format.specs.Bytes.{ascii, same_letters}
use Rattle.roundtrip.specs.Loss.{told}
use Rattle.roundtrip.proofs.CountPassing.{not_types}
use Rattle.roundtrip.proofs.Halves.{no_header, a_param, no_text, a-type, early-none}
use Rattle.roundtrip.proofs.early_loss.Goals as goal

pub returns-then-headers-eq0 : goal.returns-then-headers-eq0
unfolding told
returns-then-headers-eq0 c =
    let args = c.args in
    λ xs ys lx ly. no_header args.manner xs ys args.body.now args.headers.count lx.entries c.if-headers-eq0.true

pub returns-in-Some : goal.returns-in-Some
unfolding told
returns-in-Some c =
    let args = c.args in
    λ xs ys lx ly. a_param args.manner xs ys args.body.now args.headers.count lx.entries c.if-headers-eq0.false _ (c.in-Some.ensures xs lx)

pub returns-then-not-is_utf8 : goal.returns-then-not-is_utf8
unfolding told
returns-then-not-is_utf8 c =
    let args = c.args in
    λ xs ys lx ly. no_text args.manner xs ys args.body.now args.headers.count lx.entries c.if-headers-eq0.false (c.in_default.ensures xs lx)
    (sym c.is_utf8.ensures ∙ c.if-not-is_utf8.true)

pub returns-in-Some-first_failing : goal.returns-in-Some-first_failing
unfolding told
returns-in-Some-first_failing c =
    let args = c.args in
    λ xs ys lx ly. a-type args.manner xs ys args.body.now args.headers.count lx.entries c.if-headers-eq0.false (c.in_default.ensures xs lx)
    (sym c.is_utf8.ensures ∙ c.if-not-is_utf8.false) _
    (not_types ys args.contents.bytes.now args.contents.count ly (Some c.in-Some-first_failing.entry) (c.in-Some-first_failing.ensures _ (record { says = λ e b h. search rules })))

pub returns : goal.returns
unfolding told
returns c =
    let args = c.args in
    λ xs ys lx ly. early-none args.manner xs ys args.body.now args.headers.count lx.entries c.if-headers-eq0.false (c.in_default.ensures xs lx)
    (sym c.is_utf8.ensures ∙ c.if-not-is_utf8.false)
    (not_types ys args.contents.bytes.now args.contents.count ly None (c.in_default-first_failing.ensures (λ e. not (same_letters (ascii "Content-type") e.name)) (record { says = λ e b h. search rules })))
