-- Whatever list of calls follows an accepted `new` or reading, the message held is the one that the calls define: the contracts of the
-- calls are the steps of such a run (crates/calls_script/proofs/RunSteps.antt), and `cpim_run` runs one. Assumes nothing.
use mathlib.Core.Path.{◌≡◌, refl}
use mathlib.Core.Bool.{true}
use mathlib.Core.List.{List}
use Rattle.format.specs.Bytes.{Bytes}
use Rattle.format.specs.Refusals.{accepted}
use Rattle.format.specs.Message.{Message}
use Rattle.format.specs.Calls.{Call, new}
use Rattle.format.specs.Layout.{Holds, empty_message}
use Rattle.format.specs.Reading.{read_with}
use Rattle.format.specs.ReadingRfc.{line_reader}
use Rattle.format.specs.Lending.{both_lent, lengths, Made, ParsedWith}
use Rattle.format.specs.Runs.{State, lend, Run}
use Rattle.format.specs.Demand3.{after, by-new, by-reading}
use Rattle.format.specs.declared.Numbers.{Numbers}
use Rattle.format.specs.declared.Manner.{Manner}
use Rattle.format.proofs.Demand3.{demand_3}

-- Whatever list of calls follows an accepted `new`.
pub list_held : (t b head store : Bytes) (first last : State) (n : Numbers) (m : Message) (cs : List Call)
    → Made t b (both_lent empty_message head store) (lend true first) n
    → new t b (lengths (both_lent empty_message head store)) ≡ accepted m
    → Run first cs last
    → Holds (lend true last) (after (lengths (both_lent empty_message head store)) m cs)
list_held t b head store first last n m cs made defines run =
    demand_3.held last (after (lengths (both_lent empty_message head store)) m cs)
    (record {
      stores = lengths (both_lent empty_message head store);
      start = first;
      first = m;
      begun = by-new t b (both_lent empty_message head store) n made refl defines;
      calls = cs;
      run = run;
      defined = refl;
    })

-- Whatever list of calls follows an accepted reading, by either reader of a header line.
pub list_held_reading : (r : Manner) (t head store : Bytes) (first last : State) (n : Numbers) (m : Message) (cs : List Call)
    → ParsedWith (line_reader r) t (both_lent empty_message head store) (lend true first) n
    → read_with (line_reader r) t (lengths (both_lent empty_message head store)) ≡ accepted m
    → Run first cs last
    → Holds (lend true last) (after (lengths (both_lent empty_message head store)) m cs)
list_held_reading r t head store first last n m cs parsed defines run =
    demand_3.held last (after (lengths (both_lent empty_message head store)) m cs)
    (record {
      stores = lengths (both_lent empty_message head store);
      start = first;
      first = m;
      begun = by-reading r t (both_lent empty_message head store) n parsed refl defines;
      calls = cs;
      run = run;
      defined = refl;
    })
