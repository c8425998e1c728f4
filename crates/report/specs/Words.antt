-- Words for what document 01 says by number: the conditions of its table of refusals, and why a message does not come back whole, by the
-- clause of demand 3's condition that fails (crates/roundtrip/specs/Loss.antt). Assumes nothing.
use Rattle.std.specs.Prelude.{ℕ, zero, suc, ◌+◌, ◌≤◌, ◌<◌, List, [], ◌∷◌, ◌++◌, eqb, length, if◌then◌else◌}
use Rattle.std.proofs.Math.Option.{Option, none, some}
use Rattle.format.specs.Bytes.{Bytes, ascii}
use Rattle.format.specs.Escaping.{escape}
use Rattle.format.specs.Showing.{decimal}
use Rattle.format.specs.declared.Numbers.{Numbers}

-- the row of a number, counting from 0; nothing where there is none
unfoldable pub row : ℕ → List Bytes → Bytes
row n [] = []
row zero (r ∷ rs) = r
row (suc n) (r ∷ rs) = row n rs

-- the conditions by their numbers in document 01's table, and document 02's 27 and 28
unfoldable pub conditions : List Bytes
conditions =
    ascii "accepted"
    ∷ ascii "text too long"
    ∷ ascii "fewer than 4 sections"
    ∷ ascii "no message/cpim"
    ∷ ascii "header line lacks a colon"
    ∷ ascii "bad escape"
    ∷ ascii "name empty"
    ∷ ascii "name too long"
    ∷ ascii "ASCII control in name"
    ∷ ascii "one of : ; = \\ \" in name"
    ∷ ascii "value too long"
    ∷ ascii "ASCII control in content value"
    ∷ ascii "parameter name empty"
    ∷ ascii "parameter name too long"
    ∷ ascii "ASCII control or ; = \\ \" in parameter name"
    ∷ ascii "parameter value too long"
    ∷ ascii "ASCII control or ; \\ \" in parameter value"
    ∷ ascii "content type empty"
    ∷ ascii "content type too long"
    ∷ ascii "ASCII control in content type"
    ∷ ascii "too many headers"
    ∷ ascii "too many parameters"
    ∷ ascii "too many content headers"
    ∷ ascii "body too long"
    ∷ ascii "text not UTF-8"
    ∷ ascii "head store too short"
    ∷ ascii "input or body longer than there is room for"
    ∷ ascii "parameter lacks ="
    ∷ ascii "no space behind the colon, or neither a space nor ; right behind it"
    ∷ []

-- why a message does not come back whole, by clause; of a clause about an entry, what is said behind its name; the row of 8, which is never
-- given, is empty
unfoldable pub reasons : List Bytes
reasons =
    ascii "comes back whole"
    ∷ ascii "it has no header: its text is refused, or read as another message"
    ∷ ascii "has a parameter: it is written behind the colon and read as part of the value"
    ∷ ascii "its body is not UTF-8: ill-formed bytes are written as U+FFFD"
    ∷ ascii "is called Content-type: it is read as the type"
    ∷ ascii "has white space at an end of its name: it is trimmed when read"
    ∷ ascii "has white space at an end of its name or value: it is trimmed when read"
    ∷ ascii "its type has white space at an end: it is trimmed when read"
    ∷ []
    ∷ ascii "nothing is held"
    ∷ []

unfoldable pub condition : ℕ → Bytes
condition n = row n conditions

unfoldable pub reason : ℕ → Bytes
reason n = row n reasons

-- the carried number in parentheses, where there is one
unfoldable pub carried_words : ℕ → Bytes
carried_words n = if eqb n 0 then [] else ascii " (" ++ (decimal n ++ ascii ")")

-- a refusal: its number, its condition, and what it carries
unfoldable pub refused_words : Numbers → Bytes
refused_words n = ascii "refused: " ++ (decimal n.number ++ (ascii ", " ++ (condition n.number ++ carried_words n.carried)))

-- an entry: what it is, its number in the order of names, counted from 1 here, and its name; nothing where there is none
unfoldable pub entry_words : Bytes → ℕ → Option Bytes → Bytes
entry_words kind n none = []
entry_words kind n (some name) = kind ++ (decimal (n + 1) ++ (ascii " in the order of names, " ++ (escape name ++ ascii ", ")))

-- what is asked of an entry whose words are put: its number is below 1,000, and its name has at most 128 bytes
abbrev pub Near : ℕ → Option Bytes → Type 0
Near n none = Unit {0}
Near n (some name) = (n < 1000) × (length name ≤ 128)
