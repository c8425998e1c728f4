-- `write_parts::measure::header_len` meets its contract. Assumes nothing.
use mathlib.Core.Path.{ap, ◌∙◌}
use Prim.Native.Nat.{◌≤◌}
use native.Mathlib.Omega.{arith}
use lib.ListN.{length, drop}
use Rattle.format.specs.Bytes.{Bytes}
use Rattle.format.specs.Escaping.{value_text}
use Rattle.format.proofs.Escaping.ValueText.{value_length_lem}
use Rattle.store_entries.proofs.EntryShape.{within_numbers}
use Rattle.write_parts.proofs.TextLengths.{value_short, header_at}
use Rattle.write_parts.proofs.measure.header_len.Goals as goal

pub name_len-requires : goal.name_len-requires
name_len-requires c =
    within_numbers c.args.s.now c.args.at c.requires.0

pub params_len-requires : goal.params_len-requires
params_len-requires c =
    (c.requires.0, c.requires.2)

pub overflow_add-result : goal.overflow_add-result
overflow_add-result c = omega (arith, c.name_len.ensures.1, c.params_len.ensures.1)

pub value_at-requires : goal.value_at-requires
value_at-requires c = c.requires.0

pub value_text_len-requires : goal.value_text_len-requires
value_text_len-requires c =
    let short : length c.value_at.result.now ≤ 1024 = omega (arith, ap length c.value_at.ensures, value_short (drop c.args.at c.args.s.now) c.requires.0 c.requires.1) in
    omega (arith, short)

pub overflow_add-result-2 : goal.overflow_add-result-2
overflow_add-result-2 c =
    let short : length c.value_at.result.now ≤ 1024 = omega (arith, ap length c.value_at.ensures, value_short (drop c.args.at c.args.s.now) c.requires.0 c.requires.1) in
    let text-short : c.value_text_len.result ≤ 6144 = omega (arith, c.value_text_len.ensures, value_length_lem c.value_at.result.now, short) in
    omega (arith, c.name_len.ensures.1, c.params_len.ensures.1, text-short)

pub overflow_add-result-3 : goal.overflow_add-result-3
overflow_add-result-3 c =
    let short : length c.value_at.result.now ≤ 1024 = omega (arith, ap length c.value_at.ensures, value_short (drop c.args.at c.args.s.now) c.requires.0 c.requires.1) in
    let text-short : c.value_text_len.result ≤ 6144 = omega (arith, c.value_text_len.ensures, value_length_lem c.value_at.result.now, short) in
    omega (arith, c.name_len.ensures.1, c.params_len.ensures.1, text-short)

pub returns : goal.returns
returns c =
    let short : length c.value_at.result.now ≤ 1024 = omega (arith, ap length c.value_at.ensures, value_short (drop c.args.at c.args.s.now) c.requires.0 c.requires.1) in
    let text-short : c.value_text_len.result ≤ 6144 = omega (arith, c.value_text_len.ensures, value_length_lem c.value_at.result.now, short) in
    let name = c.name_len.ensures in
    let params = c.params_len.ensures in (
      header_at (drop c.args.at c.args.s.now) c.requires.0 _ _ _ name.0 params.0
          (c.value_text_len.ensures ∙ ap (λ (v : Bytes). length (value_text v)) c.value_at.ensures),
      omega (arith, name.1, params.1, text-short),
    )
