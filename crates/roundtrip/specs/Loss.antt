-- Which clause of a reading's condition a message fails first, and for which entry: the clauses of `comes_back`
-- (crates/format/specs/Demand3.antt) in their order, numbered 1 to 7. No clause has the number 8, as the ends of header values are written
-- so that they come back (document 02, T-03); 9 stays the number for nothing held, so that no other number moves. The second reading
-- (T-01) asks clause 2 otherwise and clause 5 not at all, as `comes_back_rfc` does (crates/format/specs/SecondReading.antt).
-- proofs/Lossless.antt has that none fails exactly where the message comes back, and which numbers are never given. Assumes nothing.
use Rattle.std.specs.Prelude.{ℕ, ◌≡◌, Bool, true, false, List, Result, Ok, Err, ◌↔◌}
use Rattle.std.proofs.Math.Option.{Option, none, some}
use Rattle.format.specs.Bytes.{Bytes, all}
use Rattle.format.specs.Characters.{is_utf8, is_white, clear_ends}
use Rattle.format.specs.Refusals.{Out, accepted}
use Rattle.format.specs.Message.{Entry, Header, Message}
use Rattle.format.specs.Calls.{Stores}
use Rattle.format.specs.Layout.{Lent, Holds}
use Rattle.format.specs.Writing.{write}
use Rattle.format.specs.Reading.{read}
use Rattle.format.specs.ReadingRfc.{read_rfc}
use Rattle.format.specs.Demand3.{has_header, no_param, not_type, clear_name, clear_content, comes_back, RoomFor}
use Rattle.format.specs.SecondReading.{spaceless, comes_back_rfc}
use Rattle.format.specs.declared.Manner.{Manner}
use Rattle.format.specs.declared.Manner.TheVariants.{Source, Rfc}
use Rattle.roundtrip.specs.Clauses.{passing}
use Rattle.roundtrip.specs.declared.Loss.{Loss}
use Rattle.roundtrip.specs.declared.Lost.{Lost}
use Rattle.roundtrip.specs.declared.Lost.TheVariants as code

abbrev pub lost : ℕ → ℕ → Loss
lost c n = record { clause = c; entry = n }

-- no clause fails
abbrev pub none_lost : Loss
none_lost = lost 0 0

-- what the code answers, in these numbers
unfoldable pub told : {A : Type 0} → Result A Lost → Loss
told (Ok a) = none_lost
told (Err code.NoHeader) = lost 1 0
told (Err (code.Params n)) = lost 2 n
told (Err code.BodyNotUtf8) = lost 3 0
told (Err (code.ContentType n)) = lost 4 n
told (Err (code.HeaderName n)) = lost 5 n
told (Err (code.ContentEnds n)) = lost 6 n
told (Err code.TypeEnds) = lost 7 0
told (Err code.NothingHeld) = lost 9 0

-- a clause holds, and the rest is asked; or it fails, and l is said
unfoldable pub clause : Bool → Loss → Loss → Loss
clause true l rest = rest
clause false l rest = l

-- a clause about each of some entries: it fails for the first that fails it
unfoldable pub each : {A : Type 0} → ℕ → (A → Bool) → List A → Loss → Loss
each c p xs rest = clause (all p xs) (lost c (passing p xs)) rest

-- Clause 2 of a header, by the manner in which header lines are read: it has no parameter; by the second reading, none with a space.
abbrev pub params_asked : Manner → Header → Bool
params_asked Source = no_param
params_asked Rfc = spaceless

-- Clause 5: its name has no white space at an end; the second reading takes any name.
abbrev pub name_asked : Manner → Header → Bool
name_asked Source = clear_name
name_asked Rfc = λ h. true

-- a header; its parameters; a UTF-8 body; no content header called Content-type
unfoldable pub early : Manner → List Header → List Entry → Bytes → Loss → Loss
early r hs cs body rest =
    clause (has_header hs) (lost 1 0) (each 2 (params_asked r) hs (clause (is_utf8 body) (lost 3 0) (each 4 not_type cs rest)))

-- the ends of header names; of content header names and values; of the type
unfoldable pub late : Manner → List Header → List Entry → Bytes → Loss
late r hs cs type = each 5 (name_asked r) hs (each 6 clear_content cs (clause (clear_ends is_white type) (lost 7 0) none_lost))

unfoldable pub loss_by : Manner → Message → Loss
loss_by r m = early r m.headers m.contents m.body (late r m.headers m.contents m.type)

abbrev pub loss : Message → Loss
loss m = loss_by Source m

-- of what is held: a number of its own where nothing is
abbrev pub loss_held_by : Manner → Option Message → Loss
loss_held_by r none = lost 9 0
loss_held_by r (some m) = loss_by r m

abbrev pub loss_held : Option Message → Loss
loss_held o = loss_held_by Source o

-- what is held meets a condition; nothing does not
unfoldable pub held_meets : (Message → Bool) → Option Message → Bool
held_meets p none = false
held_meets p (some m) = p m

-- the condition of a reading
abbrev pub condition : Manner → Message → Bool
condition Source = comes_back
condition Rfc = comes_back_rfc

abbrev pub whole_held : Option Message → Bool
whole_held o = held_meets comes_back o

abbrev pub whole_held_rfc : Option Message → Bool
whole_held_rfc o = held_meets comes_back_rfc o

-- what an answer r says of the message held, if there is one: yes exactly when reading its text, in any stores with room for it, gives it
abbrev pub ReadsBackBy : (Bytes → Stores → Out Message) → Lent → Bool → Type 0
ReadsBackBy reading l r =
    (k : Message) → Holds l k → (stores : Stores) → RoomFor k stores → (r ≡ true) ↔ (reading (write k) stores ≡ accepted k)

abbrev pub ReadsBack : Lent → Bool → Type 0
ReadsBack l r = ReadsBackBy read l r

-- the same of the second reading
abbrev pub ReadsBackRfc : Lent → Bool → Type 0
ReadsBackRfc l r = ReadsBackBy read_rfc l r
