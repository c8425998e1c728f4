-- `output::decimals::put_decimal` meets its contract: the part of the room that `spell` gives is the digits. Assumes nothing.
use Prim.Native.Nat.{◌+◌}
use mathlib.Core.Path.{refl, sym, ap, ◌∙◌}
use native.Mathlib.Omega.{arith}
use Rattle.format.specs.Bytes.{Bytes, pasted}
use Rattle.format.specs.Showing.{decimal}
use Rattle.output.proofs.DecimalDigits.{spelt_length, spelt_part, decimal_length}
use Rattle.output.proofs.Puts.{puts}
use Rattle.output.proofs.decimals.put_decimal.Goals as goal

pub spell-from-requires : goal.spell-from-requires
spell-from-requires c = refl

pub copy_at-requires : goal.copy_at-requires
copy_at-requires c =
    rw (spelt_part c.args.n c.spell-from.result c.spell-from.new.digits c.spell-from.auto.digits c.spell-from.ensures.1) (omega (arith, decimal_length c.args.n, c.requires))

pub overflow_add-result : goal.overflow_add-result
overflow_add-result c =
    omega (arith, spelt_length c.args.n c.spell-from.result c.spell-from.new.digits c.spell-from.auto.digits c.spell-from.ensures.1, c.requires)

pub returns : goal.returns
returns c =
    let args = c.args in
    puts (decimal args.n) 20 (decimal_length args.n) (
      ap (◌+◌ args.at) (sym (spelt_length args.n c.spell-from.result c.spell-from.new.digits c.spell-from.auto.digits c.spell-from.ensures.1)),
      c.copy_at.ensures
          ∙ ap (λ (s : Bytes). pasted args.at s args.out.now) (spelt_part args.n c.spell-from.result c.spell-from.new.digits c.spell-from.auto.digits c.spell-from.ensures.1),
    )
