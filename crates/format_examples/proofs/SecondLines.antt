-- Header lines by both readings, each example by computing its definitions. Assumes nothing.
use mathlib.Core.Path.{refl}
use Rattle.format.proofs.Computing.{computing}
use Rattle.format_examples.specs.SecondLines.{Placed, TurnedAway, InOrder, Whole}

pub placed : Placed
unfolding computing
placed =
    record {
      one = (refl, refl);
      none = (refl, refl);
      empty = (refl, refl);
      twice = (refl, refl);
      colons = (refl, refl);
      again = (refl, refl);
      ordered = (refl, refl);
      ten = (refl, refl);
      behind = (refl, refl);
      left = (refl, refl);
      spaces = (refl, refl);
      named = (refl, refl);
      nothing = (refl, refl);
      first = (refl, refl);
      kept = refl;
    }

pub turned_away : TurnedAway
unfolding computing
turned_away =
    record {
      other = (refl, refl);
      later = (refl, refl);
      end = (refl, refl);
      tab = (refl, refl);
      broad = (refl, refl);
      unended = (refl, refl);
      bare = (refl, refl);
      name = (refl, refl);
      last = (refl, refl);
      cut = (refl, refl);
      unnamed = (refl, refl);
      long_name = (refl, refl);
      quoted_name = refl;
      long_value = (refl, refl);
      quoted = (refl, refl);
      tabbed = refl;
      eleven = (refl, refl);
      replaced = (refl, refl);
      apostrophe = (refl, refl);
      plus = (refl, refl);
      surrogate = (refl, refl);
    }

pub in_order : InOrder
unfolding computing
in_order =
    record {
      colon = refl;
      empty = refl;
      reserved = (refl, refl);
      space = refl;
      equals = refl;
      bare = refl;
      turn = refl;
      unnamed = refl;
      name_length = refl;
      name_bytes = refl;
      value_length = refl;
      value_bytes = refl;
      value = refl;
      count = refl;
      escape = refl;
      long = refl;
      headers = refl;
      room = refl;
    }

pub whole : Whole
unfolding computing
whole = record { first = refl; second = refl; tests = (refl, refl); spaced_read = refl; spaced_test = refl; ends = refl }
