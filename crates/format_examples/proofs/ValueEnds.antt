-- How header values are written, each example by computing its definitions. Assumes nothing.
use mathlib.Core.Path.{refl}
use Rattle.format.proofs.Computing.{computing}
use Rattle.format_examples.specs.ValueEnds.{ValueEnds}

pub value_ends : ValueEnds
unfolding computing
value_ends =
    record {
      empty = refl;
      one = refl;
      two = refl;
      three = refl;
      first = refl;
      last = refl;
      inside = refl;
      alone = refl;
      front = refl;
      behind = refl;
      control_first = refl;
      control_last = refl;
      escaped = refl;
      zero_width = refl;
      byte_order = refl;
      come_back = refl;
      longest = refl;
      room = refl;
      enough = refl;
      with_param = refl;
      param_read = refl;
    }
