-- Document 02, T-01: the second reading gives back the message held exactly under its condition, as demand 3 has it of the first. Assumes nothing.
use mathlib.Core.Path.{◌≡◌, refl}
use mathlib.Core.Bool.{true}
use mathlib.Core.List.{List, [], ◌∷◌}
use Rattle.format.specs.Bytes.{is_empty, all}
use Rattle.format.specs.Message.{Entry, Header, Message}
use Rattle.format.specs.Demand3.{no_param, comes_back}
use Rattle.format.specs.SecondReading.{spaceless_param, spaceless, comes_back_rfc, SecondReading}
use Rattle.format.specs.declared.Manner.TheVariants.{Rfc}
use Rattle.format.proofs.Lists.{clash, and_intro, all_map}
use Rattle.format.proofs.Rulesets.{tests}
use Rattle.format.proofs.Begun.{history_holds, reading_begins}
use Rattle.format.proofs.Exact.{back_exactly, parsed_exactly, equal_exactly}
use Rattle.format.proofs.Texts.SourceRoundTrip.{reads_back}
use Rattle.format.proofs.Texts.RfcRoundTrip.{reads_back_rfc, back_only_rfc}

-- where there is no parameter, none holds a space
none_spaceless : (h : Header) → no_param h ≡ true → spaceless h ≡ true
unfolding no_param is_empty spaceless all
none_spaceless h n = go h.params n
  where
    go : (es : List Entry) → is_empty es ≡ true → all spaceless_param es ≡ true
    go [] k = refl
    go (e ∷ es) k = clash k refl

back_too : (m : Message) → comes_back m ≡ true → comes_back_rfc m ≡ true
unfolding comes_back comes_back_rfc
back_too m b =
    let c = simp tests at b in
    and_intro _ _ c.0
    (and_intro _ _ (all_map no_param spaceless none_spaceless m.headers c.1.0)
    (and_intro _ _ c.1.1.0
    (and_intro _ _ c.1.1.1.0 (and_intro _ _ c.1.1.1.1.1.0 c.1.1.1.1.1.1))))

pub second_reading : SecondReading
second_reading =
    record {
      back = λ t m r. back_exactly Rfc comes_back_rfc reads_back_rfc back_only_rfc m (history_holds t m r).within;
      parsed = λ t m r. parsed_exactly Rfc comes_back_rfc reads_back_rfc back_only_rfc m (history_holds t m r).within;
      equal = equal_exactly Rfc comes_back_rfc reads_back_rfc back_only_rfc;
      begins_rfc = reading_begins Rfc;
      wider = back_too;
      both = λ m stores v c room. (reads_back m stores v c room, reads_back_rfc m stores v (back_too m c) room);
    }
