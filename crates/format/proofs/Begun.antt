-- How a list of calls begins, and where it leads: what an accepted `new` or an accepted reading, by either reader of a header line, leaves holds
-- its message in stores of the lengths that were lent, and a run of calls goes on holding the one that they define. Assumes nothing.
use Prim.Native.Nat.{◌≤◌}
use mathlib.Core.Path.{◌≡◌, refl, sym, ap, ◌∙◌, subst}
use mathlib.Core.Bool.{true}
use mathlib.Core.Option.{Option, none, some}
use native.Mathlib.Omega.{arith}
use lib.ListN.{length}
use Rattle.format.specs.Bytes.{Bytes, over}
use Rattle.format.specs.Refusals.{accepted}
use Rattle.format.specs.Message.{Message, need, valid}
use Rattle.format.specs.Calls.{Stores, new}
use Rattle.format.specs.Reading.{read_with}
use Rattle.format.specs.ReadingRfc.{line_reader}
use Rattle.format.specs.Layout.{Lent, BodyAt, Holds, layout, record_of}
use Rattle.format.specs.Lending.{lengths, makes, Made, ReadInto, ReadLeaves, ParsedWith, length_of, over_lent, laid_in}
use Rattle.format.specs.Runs.{State, lend}
use Rattle.format.specs.Demand3.{Begun, by-new, by-reading, History}
use Rattle.format.specs.declared.Numbers.{Numbers}
use Rattle.format.specs.declared.Manner.{Manner}
use Rattle.format.proofs.Messages.Accepted.{new_accepted}
use Rattle.format.proofs.Messages.Layout.{layout_length, over_length, body_laid, laid_holds}
use Rattle.format.proofs.Messages.Valid.{new_valid}
use Rattle.format.proofs.Messages.Runs.{run_held}
use Rattle.format.proofs.Texts.ReadValid.{read_with_valid, read_with_room}
use Rattle.format.proofs.Texts.RfcLine.{line_reader_valid}

-- What an accepted `new` and an accepted reading leave holds their message.

pub made_holds : (t b : Bytes) (l k : Lent) (n : Numbers) (m : Message) → Made t b l k n → new t b (lengths l) ≡ accepted m → Holds k m
unfolding makes
made_holds t b l k n m w e =
    subst (λ x. Holds x m) (sym (w.left ∙ ap (makes l) e)) (laid_holds l m (new_valid t b (lengths l) m e))

pub parsed_holds : (r : Manner) (t : Bytes) (l k : Lent) (n : Numbers) (m : Message) → ParsedWith (line_reader r) t l k n
    → read_with (line_reader r) t (lengths l) ≡ accepted m → Holds k m
parsed_holds r t l k n m w e =
    let i : ReadInto l k m = subst (ReadLeaves l k) e w.left in
    record {
      within = read_with_valid (line_reader r) (line_reader_valid r) t (lengths l) m e;
      recorded = i.recorded;
      laid = i.laid;
      stored = subst (λ o. BodyAt o m.body) (sym i.stored) (body_laid m.body l.body);
    }

begun_holds : (stores : Stores) (s : State) (m : Message) → Begun stores s m → Holds (lend true s) m
begun_holds stores s m (by-new t b l n w q e) = made_holds t b l (lend true s) n m w (ap (new t b) (sym q) ∙ e)
begun_holds stores s m (by-reading r t l n w q e) = parsed_holds r t l (lend true s) n m w (ap (read_with (line_reader r) t) (sym q) ∙ e)

-- They leave stores of the lengths that they were lent.

over_lent_lem : (b : Bytes) (o : Option Bytes) → length b ≤ length_of o → length_of (over_lent b o) ≡ length_of o
unfolding length_of
over_lent_lem b none h = refl
over_lent_lem b (some store) h = over_length b store h

laid_in_lem : (l : Lent) (m : Message) → valid m ≡ true → need m ≤ length l.head → length m.body ≤ length_of l.body → lengths (laid_in l m) ≡ lengths l
unfolding lengths laid_in
laid_in_lem l m v h b = rw (over_length (layout m) l.head (omega (arith, layout_length m v)), over_lent_lem m.body l.body b) refl

read_in : (l k : Lent) (m : Message) → ReadInto l k m → length m.body ≤ length_of l.body → lengths k ≡ lengths l
unfolding lengths
read_in l k m r b = rw (r.kept, r.stored, over_lent_lem m.body l.body b) refl

begun_lengths : (stores : Stores) (s : State) (m : Message) → Begun stores s m → lengths (lend true s) ≡ stores
unfolding makes lengths
begun_lengths stores s m (by-new t b l n w q e) =
    let a : new t b (lengths l) ≡ accepted m = ap (new t b) (sym q) ∙ e in
    let x = new_accepted t b (lengths l) m a in
    let y : length m.body ≤ length_of l.body = rw x.0 x.5 in
    ap lengths (w.left ∙ ap (makes l) a) ∙ (laid_in_lem l m (new_valid t b (lengths l) m a) x.4 y ∙ sym q)
begun_lengths stores s m (by-reading r t l n w q e) =
    let a : read_with (line_reader r) t (lengths l) ≡ accepted m = ap (read_with (line_reader r) t) (sym q) ∙ e in
    let i : ReadInto l (lend true s) m = subst (ReadLeaves l (lend true s)) a w.left in
    read_in l (lend true s) m i (read_with_room (line_reader r) (line_reader_valid r) t (lengths l) m a).1 ∙ sym q

pub history_holds : (t : State) (m : Message) → History t m → Holds (lend true t) m
history_holds t m r =
    rw (r.defined, ← begun_lengths r.stores r.start r.first r.begun)
    (run_held r.start t r.first r.calls (begun_holds r.stores r.start r.first r.begun) r.run)

-- A state with a message laid into it, begun by `new` or by either reading.

laid_state : State → Message → State
laid_state s m = record { message = record_of m; head = over (layout m) s.head; body = over m.body s.body }

pub new_begins : (s : State) (t b : Bytes) (m : Message) → new t b (lengths (lend true s)) ≡ accepted m → (u : State) × Begun (lengths (lend true s)) u m
unfolding laid_state makes laid_in
new_begins s t b m e =
    (laid_state s m, by-new t b (lend true s) _ (record { answered = refl; left = sym (ap (makes (lend true s)) e) }) refl e)

pub reading_begins : (r : Manner) (s : State) (t : Bytes) (m : Message) → read_with (line_reader r) t (lengths (lend true s)) ≡ accepted m
    → (u : State) × Begun (lengths (lend true s)) u m
unfolding laid_state lengths length_of laid_in
reading_begins r s t m e =
    let x = read_with_room (line_reader r) (line_reader_valid r) t (lengths (lend true s)) m e in
    let v = read_with_valid (line_reader r) (line_reader_valid r) t (lengths (lend true s)) m e in
    let i : ReadInto (lend true s) (lend true (laid_state s m)) m =
    record {
      recorded = refl;
      laid = (laid_holds (lend true s) m v).laid;
      kept = over_length (layout m) s.head (omega (arith, layout_length m v));
      stored = refl;
    }
    in
    (laid_state s m, by-reading r t (lend true s) _ (record { answered = refl; left = subst (ReadLeaves (lend true s) (lend true (laid_state s m))) (sym e) i }) refl e)
