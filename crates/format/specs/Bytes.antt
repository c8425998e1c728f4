-- Byte lists: the few operations that every section of document 01 speaks of.
-- A text is a list of numbers, each a byte; nothing here asks that they are below 256. Assumes nothing.
use Rattle.std.specs.Prelude.{ℕ, zero, suc, ◌+◌, ◌-◌, Bool, true, false, ◌&&◌, ◌||◌, List, [], ◌∷◌, ◌++◌, leb, ltb, eqb, length, take, drop, if◌then◌else◌}
use Prim.Native.Char.{code}
use Prim.Native.String.{String}
use Prim.Native.String as text

abbrev pub Bytes : Type 0
Bytes = List ℕ

-- the bytes of an ASCII text
abbrev pub ascii : String → Bytes
ascii text.[] = []
ascii (text.◌∷◌ c s) = code c ∷ ascii s

module _ {A : Type 0} where
  -- there is no element
  unfoldable pub is_empty : List A → Bool
  is_empty [] = true
  is_empty (x ∷ xs) = false

  -- every element passes the test
  unfoldable pub all : (A → Bool) → List A → Bool
  all p [] = true
  all p (x ∷ xs) = p x && all p xs

  -- some element passes the test
  unfoldable pub any : (A → Bool) → List A → Bool
  any p [] = false
  any p (x ∷ xs) = p x || any p xs

  -- the sum of a number of each element
  unfoldable pub total : (A → ℕ) → List A → ℕ
  total f [] = 0
  total f (x ∷ xs) = f x + total f xs

  -- the texts of the elements, one behind another
  unfoldable pub texts : (A → Bytes) → List A → Bytes
  texts f [] = []
  texts f (x ∷ xs) = f x ++ texts f xs

-- ASCII characters that the format uses, and its line ends
abbrev pub lf : ℕ
lf = 10

abbrev pub cr : ℕ
cr = 13

abbrev pub space : ℕ
space = 32

abbrev pub quote : ℕ
quote = 34

abbrev pub apostrophe : ℕ
apostrophe = 39

abbrev pub plus : ℕ
plus = 43

abbrev pub colon : ℕ
colon = 58

abbrev pub semicolon : ℕ
semicolon = 59

abbrev pub less_sign : ℕ
less_sign = 60

abbrev pub equals : ℕ
equals = 61

abbrev pub greater_sign : ℕ
greater_sign = 62

abbrev pub backslash : ℕ
backslash = 92

abbrev pub lf_text : Bytes
lf_text = lf ∷ []

abbrev pub lf_lf_text : Bytes
lf_lf_text = lf ∷ lf ∷ []

abbrev pub crlf_text : Bytes
crlf_text = cr ∷ lf ∷ []

abbrev pub crlf_crlf_text : Bytes
crlf_crlf_text = cr ∷ lf ∷ cr ∷ lf ∷ []

-- the same bytes
unfoldable pub same : Bytes → Bytes → Bool
same [] [] = true
same [] (b ∷ t) = false
same (a ∷ s) [] = false
same (a ∷ s) (b ∷ t) = eqb a b && same s t

-- strictly before in byte order; a prefix comes first
unfoldable pub before : Bytes → Bytes → Bool
before s [] = false
before [] (b ∷ t) = true
before (a ∷ s) (b ∷ t) = ltb a b || (eqb a b && before s t)

-- t begins with p
unfoldable pub begins : Bytes → Bytes → Bool
begins [] t = true
begins (a ∷ p) [] = false
begins (a ∷ p) (b ∷ t) = eqb a b && begins p t

-- p, which is not empty, occurs anywhere in t
unfoldable pub occurs : Bytes → Bytes → Bool
occurs p [] = false
occurs p (b ∷ t) = begins p (b ∷ t) || occurs p t

-- the byte c stands in s
abbrev pub has : ℕ → Bytes → Bool
has c s = any (eqb c) s

-- what stands before the first c (all of s where there is none)
unfoldable pub up_to : ℕ → Bytes → Bytes
up_to c [] = []
up_to c (b ∷ s) = if eqb c b then [] else b ∷ up_to c s

-- what stands behind the first c (nothing where there is none)
unfoldable pub past : ℕ → Bytes → Bytes
past c [] = []
past c (b ∷ s) = if eqb c b then s else past c s

-- the letter in lower case: A to Z become a to z
unfoldable pub lower : ℕ → ℕ
lower b = if leb 65 b && leb b 90 then b + 32 else b

-- the same bytes, letters in any ASCII case
unfoldable pub same_letters : Bytes → Bytes → Bool
same_letters [] [] = true
same_letters [] (b ∷ t) = false
same_letters (a ∷ s) [] = false
same_letters (a ∷ s) (b ∷ t) = eqb (lower a) (lower b) && same_letters s t

-- The pieces of a text that is split at a separator: the first, and those behind it.
pub record Pieces : Type 0 where
  pub first : Bytes
  pub rest : List Bytes

abbrev pub pieces : Pieces → List Bytes
pieces p = p.first ∷ p.rest

-- a separator ends an empty piece here
abbrev pub opened : Pieces → Pieces
opened p = record { first = []; rest = pieces p }

-- one more byte in front of the first piece
abbrev pub extended : ℕ → Pieces → Pieces
extended b p = record { first = b ∷ p.first; rest = p.rest }

-- The text split at sep, leftmost and without overlap; k bytes of a separator just found are still to be passed over.
-- (The count k is a device of the recursion: `split` is what the format speaks of.)
unfoldable pub split_from : ℕ → Bytes → Bytes → Pieces
split_from k sep [] = record { first = []; rest = [] }
split_from zero sep (b ∷ t) = if begins sep (b ∷ t) then opened (split_from (length sep - 1) sep t) else extended b (split_from zero sep t)
split_from (suc k) sep (b ∷ t) = split_from k sep t

abbrev pub split : Bytes → Bytes → Pieces
split sep t = split_from 0 sep t

-- the texts with sep between each two
unfoldable pub join : Bytes → List Bytes → Bytes
join sep [] = []
join sep (p ∷ ps) = p ++ texts (λ q. sep ++ q) ps

-- s over the bytes of d from the place at on; all others as they were
unfoldable pub pasted : ℕ → Bytes → Bytes → Bytes
pasted at s d = take at d ++ (s ++ drop (at + length s) d)

-- s over the first bytes of d; all others as they were
abbrev pub over : Bytes → Bytes → Bytes
over s d = s ++ drop (length s) d
