-- A text cut at its first separator, the places of its first three sections, and what reading makes of them. Assumes nothing.
use Rattle.std.specs.Prelude.{ℕ, ◌+◌, ◌-◌, Bool, List, [], ◌∷◌, Option, None, Some, length, take, drop, if◌then◌else◌}
use Rattle.format.specs.Bytes.{Bytes, lf_text, crlf_text, lf_lf_text, crlf_crlf_text, occurs, pieces, split}
use Rattle.format.specs.Reading.{Parts, body_of}
use Rattle.format.specs.Refusals.{too_few_sections, Out, accepted, refused}
use Rattle.sections.specs.Place.{place}
use Rattle.sections.specs.declared.Piece.{Piece}
use Rattle.sections.specs.declared.Places.{Places}

-- the separator of a text that has CRLFCRLF, or has it not
abbrev pub separator_for : Bool → Bytes
separator_for crlf = if crlf then crlf_crlf_text else lf_lf_text

-- what lines of a section end in that has CRLF, or has it not
abbrev pub line_end_for : Bool → Bytes
line_end_for crlf = if crlf then crlf_text else lf_text

-- the first piece, and the place behind its separator, where it has one
unfoldable pub cut_of : Bytes → Bytes → Piece
cut_of sep t = if occurs sep t then record { end = place sep t; next = Some (place sep t + length sep) } else record { end = length t; next = None }

-- the places of the first three pieces, with separators of n bytes, where there are four or more
unfoldable pub placed : ℕ → List Bytes → Option Places
placed n [] = None
placed n (a ∷ []) = None
placed n (a ∷ b ∷ []) = None
placed n (a ∷ b ∷ c ∷ []) = None
placed n (a ∷ b ∷ c ∷ d ∷ rest) =
    Some (record {
      end1 = length a;
      start2 = length a + n;
      end2 = length a + n + length b;
      start3 = length a + n + (length b + n);
      end3 = length a + n + (length b + n) + length c;
      rest = length a + n + (length b + n) + (length c + n);
    })

-- the same of a text, split at sep
unfoldable pub places_of : Bytes → Bytes → Option Places
places_of sep t = placed (length sep) (pieces (split sep t))

-- What the places say of a text, its sections being split at sep: 2 where there are too few, else the first three, and
-- the body, which is the others joined.
unfoldable pub parts_at : Bytes → Bytes → Option Places → Out Parts
parts_at sep t None = refused too_few_sections
parts_at sep t (Some s) =
    accepted (record {
      mime = take s.end1 t;
      headers = take (s.end2 - s.start2) (drop s.start2 t);
      contents = take (s.end3 - s.start3) (drop s.start3 t);
      body = body_of (pieces (split sep (drop s.rest t)));
    })
