-- Pieces of a UTF-8 text are UTF-8: a text is cut only at ASCII bytes, and these part it into UTF-8 on either side.
-- Assumes nothing.
use Prim.Native.Nat.{ℕ, ◌<◌}
use mathlib.Core.Path.{◌≡◌, refl, sym, ap, ◌∙◌}
use mathlib.Core.Bool.{true, false}
use mathlib.Core.Logic.{⊎_elim}
use mathlib.Core.List.{List, [], ◌∷◌, ◌++◌}
use lib.Dec.{ltb}
use borrow.Author.Tests.{ltb-true}
use Rattle.format.specs.Bytes.{Bytes, all, texts, has, up_to, past, pieces, split, join}
use Rattle.format.specs.Characters.{is_utf8}
use Rattle.format.proofs.Lists.{bcase, and_intro, all_head, all_tail}
use Rattle.format.proofs.Characters.Chars.{utf8_nil, utf8_append, utf8_cut, utf8_ascii_text}
use Rattle.format.proofs.Splitting.Split.{join_split, up_to_past, up_to_none, past_none, join_one, join_cons}

-- behind an ASCII text that follows another, and before it, is UTF-8
pub utf8_around : (s : Bytes) (c : ℕ) (sep t : Bytes) → all (λ b. ltb b 128) (c ∷ sep) ≡ true → is_utf8 (s ++ ((c ∷ sep) ++ t)) ≡ true
    → (is_utf8 s ≡ true) × (is_utf8 t ≡ true)
utf8_around s c sep t h u =
    let k = utf8_cut s c (sep ++ t) (ltb-true c 128 (all_head (λ b. ltb b 128) c sep h)) u in
    (k.0, sym (utf8_append sep t (utf8_ascii_text sep (all_tail (λ b. ltb b 128) c sep h))) ∙ k.1)

-- the texts that an ASCII separator joins are UTF-8 where the whole is
pub join_utf8_back : (c : ℕ) (sep p : Bytes) (ps : List Bytes) → all (λ b. ltb b 128) (c ∷ sep) ≡ true
    → is_utf8 (join (c ∷ sep) (p ∷ ps)) ≡ true → all is_utf8 (p ∷ ps) ≡ true
unfolding all
join_utf8_back c sep p [] h u = rw (sym (ap is_utf8 (join_one (c ∷ sep) p)) ∙ u) refl
join_utf8_back c sep p (q ∷ ps) h u =
    let k = utf8_around p c sep (join (c ∷ sep) (q ∷ ps)) h (sym (ap is_utf8 (join_cons (c ∷ sep) p q ps)) ∙ u) in
    and_intro (is_utf8 p) (all is_utf8 (q ∷ ps)) k.0 (join_utf8_back c sep q ps h k.1)

pub split_utf8 : (c : ℕ) (sep t : Bytes) → all (λ b. ltb b 128) (c ∷ sep) ≡ true → is_utf8 t ≡ true
    → all is_utf8 (pieces (split (c ∷ sep) t)) ≡ true
split_utf8 c sep t h u =
    join_utf8_back c sep (split (c ∷ sep) t).first (split (c ∷ sep) t).rest h (ap is_utf8 (join_split c sep t) ∙ u)

-- what stands before and behind the first c
cut_utf8 : (c : ℕ) (s : Bytes) → c < 128 → is_utf8 s ≡ true → (is_utf8 (up_to c s) ≡ true) × (is_utf8 (past c s) ≡ true)
cut_utf8 c s h u = ⊎_elim there none (bcase (has c s))
  where
    there : has c s ≡ true → (is_utf8 (up_to c s) ≡ true) × (is_utf8 (past c s) ≡ true)
    there e = utf8_cut (up_to c s) c (past c s) h (sym (ap is_utf8 (up_to_past c s e)) ∙ u)

    none : has c s ≡ false → (is_utf8 (up_to c s) ≡ true) × (is_utf8 (past c s) ≡ true)
    none e = rw (up_to_none c s e, past_none c s e) (u, utf8_nil)

pub up_to_utf8 : (c : ℕ) (s : Bytes) → c < 128 → is_utf8 s ≡ true → is_utf8 (up_to c s) ≡ true
up_to_utf8 c s h u = (cut_utf8 c s h u).0

pub past_utf8 : (c : ℕ) (s : Bytes) → c < 128 → is_utf8 s ≡ true → is_utf8 (past c s) ≡ true
past_utf8 c s h u = (cut_utf8 c s h u).1

joined : (sep : Bytes) (ps : List Bytes) → is_utf8 sep ≡ true → all is_utf8 ps ≡ true → is_utf8 (texts (λ q. sep ++ q) ps) ≡ true
unfolding texts
joined sep [] h k = utf8_nil
joined sep (p ∷ ps) h k =
    let rest = texts (λ q. sep ++ q) ps in
    utf8_append (sep ++ p) rest (utf8_append sep p h ∙ all_head is_utf8 p ps k) ∙ joined sep ps h (all_tail is_utf8 p ps k)

pub join_utf8 : (sep : Bytes) (ps : List Bytes) → is_utf8 sep ≡ true → all is_utf8 ps ≡ true → is_utf8 (join sep ps) ≡ true
unfolding join
join_utf8 sep [] h k = utf8_nil
join_utf8 sep (p ∷ ps) h k = utf8_append p (texts (λ q. sep ++ q) ps) (all_head is_utf8 p ps k) ∙ joined sep ps h (all_tail is_utf8 p ps k)
