-- `store_entry_check::weights::table` meets its contract: the numbers written and those of the definition compute to the same. Assumes nothing.
use mathlib.Core.Path.{refl}
use Rattle.format.specs.Bytes.{any}
use Rattle.format.specs.Characters.{is_ascii_control}
use Rattle.format.specs.Validators.{reserved_in_name, reserved_in_param_name, reserved_in_param_value}
use Rattle.store_entry_check.specs.Weights.{graded, weight, weights_from, weights}
use Rattle.store_entry_check.proofs.weights.table.Goals as goal

pub returns : goal.returns
unfolding weights weights_from weight graded is_ascii_control reserved_in_name reserved_in_param_name reserved_in_param_value any
returns c = refl
