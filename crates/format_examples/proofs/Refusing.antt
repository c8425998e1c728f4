-- The examples of document 01, each by computing its definitions; those of texts too long to write out by their length. Assumes nothing.
use mathlib.Core.Path.{◌≡◌, refl}
use lib.ListN.{length}
use Rattle.format.specs.Refusals.{numbers, ◌carrying◌}
use Rattle.format.specs.Bytes.{Bytes, ascii}
use Rattle.format.specs.Calls.{Stores, new}
use Rattle.format.specs.Reading.{read}
use Rattle.format_examples.specs.Refusing.{RefusalExamples, AtLimits}
use Rattle.format.proofs.Computing.{computing}

long_text_lem : (t : Bytes) (stores : Stores) → length t ≡ 20971521 → numbers (read t stores) ≡ 1 carrying 20971521
unfolding computing
long_text_lem t stores h = rw h refl

long_body_lem : (b : Bytes) (stores : Stores) → length b ≡ 10485761 → numbers (new (ascii "text/plain") b stores) ≡ 23 carrying 10485761
unfolding computing
long_body_lem b stores h = rw h refl

pub refusal_examples : RefusalExamples
unfolding computing
refusal_examples =
    record {
      row1 = long_text_lem;
      row2 = refl;
      row3 = refl;
      row4 = refl;
      row5 = refl;
      row6 = refl;
      row7 = refl;
      row8 = refl;
      row9 = refl;
      row10 = refl;
      row11 = refl;
      row12 = refl;
      row13 = refl;
      row14 = refl;
      row15 = refl;
      row16 = refl;
      row17 = refl;
      row18 = refl;
      row19 = refl;
      row20 = refl;
      row21 = refl;
      row22 = refl;
      row23 = long_body_lem;
      row24 = refl;
      row25 = refl;
      row26 = refl;
      row27 = refl;
      row28 = refl;
      unheld = refl;
    }

pub limits : AtLimits
unfolding computing
limits =
    record {
      name = (refl, refl);
      value = (refl, refl);
      content = (refl, refl);
      param = (refl, refl);
      param_text = (refl, refl);
      type = (refl, refl);
      headers = (refl, refl);
      replaced = refl;
      params = (refl, refl);
      peak = (refl, refl);
      body = (refl, refl);
    }
