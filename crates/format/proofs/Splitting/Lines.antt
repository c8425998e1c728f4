-- A block of lines, each not empty and of bytes 32 or more: CRLFCRLF begins nowhere inside it, because a line stands
-- behind each of its CRLF, so the block is cut off whole and its lines come back. Assumes nothing.
use mathlib.Core.Path.{◌≡◌, refl, ap, ◌∙◌}
use mathlib.Core.Bool.{Bool, true, false, false≢true}
use mathlib.Core.List.{List, [], ◌∷◌, ◌++◌, append_assoc}
use native.Mathlib.Omega.{arith}
use lib.Dec.{leb}
use borrow.Author.Tests.{ne_eqb, leb-true}
use Rattle.format.specs.Bytes.{Bytes, cr, lf, lf_text, crlf_text, crlf_crlf_text, all, any, texts, begins, occurs, has, pieces, extended, split, join}
use Rattle.format.proofs.Lists.{all_head, all_tail}
use Rattle.format.proofs.Splitting.Split.{split_other, split_none, split_pass, split_line, split_join, occurs_at, occurs_clear, join_one, join_cons, join_texts, high_clear}

-- a line that is not empty and whose bytes are 32 or more
unfoldable pub line : Bytes → Bool
line [] = false
line (b ∷ t) = all (leb 32) (b ∷ t)

-- such a line holds no CR and no LF
pub line_cr : (l : Bytes) → line l ≡ true → has cr l ≡ false
unfolding line
line_cr [] h = absurd (false≢true h)
line_cr (b ∷ t) h = high_clear cr 32 (b ∷ t) (omega arith) h

pub line_lf : (l : Bytes) → line l ≡ true → has lf l ≡ false
unfolding line
line_lf [] h = absurd (false≢true h)
line_lf (b ∷ t) h = high_clear lf 32 (b ∷ t) (omega arith) h

lines_cr : (ls : List Bytes) → all line ls ≡ true → any (has cr) ls ≡ false
unfolding any
lines_cr [] h = refl
lines_cr (l ∷ ls) h = rw (line_cr l (all_head line l ls h)) (lines_cr ls (all_tail line l ls h))

-- a CRLF with a line behind it begins no CRLFCRLF, and neither does its LF
inner : (m : Bytes) (ls : List Bytes) (t : Bytes) → line m ≡ true
    → split crlf_crlf_text (crlf_text ++ (join crlf_text (m ∷ ls) ++ t))
    ≡ record { first = crlf_text ++ (split crlf_crlf_text (join crlf_text (m ∷ ls) ++ t)).first; rest = (split crlf_crlf_text (join crlf_text (m ∷ ls) ++ t)).rest }
unfolding line begins join
inner [] ls t h = absurd (false≢true h)
inner (b ∷ m) ls t h =
    let low = leb-true 32 b (all_head (leb 32) b m h) in
    let u = (m ++ texts (λ q. crlf_text ++ q) ls) ++ t in
    let e : begins crlf_crlf_text (cr ∷ lf ∷ b ∷ u) ≡ false = rw (ne_eqb cr b (omega arith)) refl in
    split_other crlf_crlf_text cr (lf ∷ b ∷ u) e ∙ ap (extended cr) (split_other crlf_crlf_text lf (b ∷ u) refl)

-- a block of lines is cut off whole
pub section_cut : (ls : List Bytes) (l : Bytes) (t : Bytes) → all line (l ∷ ls) ≡ true
    → split crlf_crlf_text (join crlf_text (l ∷ ls) ++ (crlf_crlf_text ++ t)) ≡ record { first = join crlf_text (l ∷ ls); rest = pieces (split crlf_crlf_text t) }
section_cut [] l t h = rw (join_one crlf_text l) (split_line cr (lf ∷ crlf_text) l t (line_cr l (all_head line l [] h)))
section_cut (m ∷ ls) l t h =
    let g = crlf_crlf_text ++ t in
    let k = all_tail line l (m ∷ ls) h in
    rw (join_cons crlf_text l m ls, append_assoc l (crlf_text ++ join crlf_text (m ∷ ls)) g)
    (split_pass cr (lf ∷ crlf_text) l (crlf_text ++ (join crlf_text (m ∷ ls) ++ g)) (line_cr l (all_head line l (m ∷ ls) h))
    ∙ rw (inner m ls g (all_head line m ls k), section_cut ls m t k) refl)

pub lines_many : (l m : Bytes) (ls : List Bytes) → all line (l ∷ m ∷ ls) ≡ true
    → (pieces (split crlf_text (join crlf_text (l ∷ m ∷ ls))) ≡ l ∷ m ∷ ls) × (occurs crlf_text (join crlf_text (l ∷ m ∷ ls)) ≡ true)
lines_many l m ls h = (ap pieces (split_join cr lf_text l (m ∷ ls) (lines_cr (l ∷ m ∷ ls) h)), rw (join_cons crlf_text l m ls) (occurs_at cr lf_text l (join crlf_text (m ∷ ls))))

pub lines_one : (l : Bytes) → line l ≡ true → (occurs crlf_text (join crlf_text (l ∷ [])) ≡ false) × (pieces (split lf_text (join crlf_text (l ∷ []))) ≡ l ∷ [])
lines_one l h =
    rw (join_one crlf_text l) (occurs_clear cr lf_text l (line_cr l h), ap pieces (split_none lf_text l (occurs_clear lf [] l (line_lf l h))))

-- lines each with its end, then an empty line, is the block, then CRLFCRLF
pub join_block : (ls : List Bytes) (l : Bytes) (t : Bytes) → texts (λ q. q ++ crlf_text) (l ∷ ls) ++ (crlf_text ++ t) ≡ join crlf_text (l ∷ ls) ++ (crlf_crlf_text ++ t)
join_block ls l t = join_texts crlf_text l ls (crlf_text ++ t)
