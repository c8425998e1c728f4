-- The room holds ps, and what is left read behind ps is all parts read behind none.
use mathlib.Core.Path.{◌≡◌}
use mathlib.Core.Bool.{true}
use mathlib.Core.List.{List, [], ◌∷◌}
use lib.ListN.{length}
use Rattle.format.specs.Bytes.{semicolon, pieces, split}
use Rattle.format.specs.Characters.{is_utf8}
use Rattle.format.specs.Message.{Entry}
use Rattle.format.specs.Reading.{each}
use Rattle.read_header_line.specs.Gathered.{Standing}
use Rattle.read_header_line.specs.HeaderLine.{param_reader}
use Rattle.read_header_line.proofs.params.read_param_parts.Given as goal

abbrev pub invariant-loop-h : goal.invariant-loop-h
invariant-loop-h l =
    (length l.room ≡ length l.initial.room)
    × (is_utf8 l.rest ≡ true)
    × (ps : List Entry)
    × (Standing l.h l.room ps)
    × (each (param_reader l.manner) (pieces (split (semicolon ∷ []) l.parts)) [] ≡ each (param_reader l.manner) (pieces (split (semicolon ∷ []) l.rest)) ps)

abbrev pub decreases-loop-h : goal.decreases-loop-h
decreases-loop-h l = length l.rest
