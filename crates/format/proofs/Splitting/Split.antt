-- Splitting, joining and searching: what is split and joined again is the text, a stretch without the separator's first
-- byte is passed over whole, and the separator itself is cut out. The step over one byte carries all of them. Assumes nothing.
use Rattle.std.specs.Prelude.{if◌then◌else◌}
use Prim.Native.Nat.{ℕ, zero, suc, ◌-◌, ◌<◌}
use mathlib.Core.Path.{◌≡◌, refl, sym, ap, ◌∙◌}
use mathlib.Core.Bool.{Bool, true, false, ◌||◌, false≢true, or_assoc}
use mathlib.Core.Logic.{⊎_elim}
use mathlib.Core.List.{List, [], ◌∷◌, ◌++◌, append_assoc, append-nil}
use native.Mathlib.Omega.{arith}
use lib.Dec.{leb, eqb}
use lib.ListN.{length, drop}
use lib.Seq.{drop-nil, drop-append_seam}
use borrow.Author.Tests.{eqb-true, eq-eqb, ne_eqb, leb-true}
use Rattle.format.specs.Bytes.{Bytes, all, any, texts, begins, occurs, has, up_to, past, Pieces, pieces, opened, extended, split_from, split, join}
use Rattle.format.proofs.Lists.{bcase, and_left, and_right, and_intro, or_false_left, or_false_right, or_intro_right, all_head, all_tail}

pub begins_append : (p t : Bytes) → begins p (p ++ t) ≡ true
unfolding begins
begins_append [] t = refl
begins_append (a ∷ p) t = and_intro (eqb a a) (begins p (p ++ t)) (eq-eqb a a refl) (begins_append p t)

pub begins_drop : (p t : Bytes) → begins p t ≡ true → p ++ drop (length p) t ≡ t
unfolding begins
begins_drop [] t h = refl
begins_drop (a ∷ p) [] h = absurd (false≢true h)
begins_drop (a ∷ p) (b ∷ t) h = rw (eqb-true a b (and_left (eqb a b) (begins p t) h), begins_drop p t (and_right (eqb a b) (begins p t) h)) refl

-- no text begins with p at a byte other than p's first
pub begins_other : (c : ℕ) (p : Bytes) (b : ℕ) (t : Bytes) → eqb c b ≡ false → begins (c ∷ p) (b ∷ t) ≡ false
unfolding begins
begins_other c p b t h = rw h refl

less_one : (n : ℕ) → suc n - 1 ≡ n
less_one n = omega arith

-- a separator begins here: an empty piece ends, and the separator's other bytes are passed over
pub split_found : (c : ℕ) (sep : Bytes) (b : ℕ) (t : Bytes) → begins (c ∷ sep) (b ∷ t) ≡ true
    → split (c ∷ sep) (b ∷ t) ≡ opened (split_from (length sep) (c ∷ sep) t)
unfolding split_from
split_found c sep b t h = rw (h, less_one (length sep)) refl

-- none begins here: the byte belongs to the first piece
pub split_other : (sep : Bytes) (b : ℕ) (t : Bytes) → begins sep (b ∷ t) ≡ false → split sep (b ∷ t) ≡ extended b (split sep t)
unfolding split_from
split_other sep b t h = rw h refl

pub split_skip : (k : ℕ) (sep t : Bytes) → split_from k sep t ≡ split_from 0 sep (drop k t)
unfolding split_from
split_skip zero sep t = refl
split_skip (suc k) sep [] = refl
split_skip (suc k) sep (b ∷ t) = split_skip k sep t

join_opened : (sep : Bytes) (p : Pieces) → join sep (pieces (opened p)) ≡ sep ++ join sep (pieces p)
unfolding join texts
join_opened sep p = append_assoc sep p.first (texts (λ q. sep ++ q) p.rest)

join_extended : (sep : Bytes) (b : ℕ) (p : Pieces) → join sep (pieces (extended b p)) ≡ b ∷ join sep (pieces p)
unfolding join
join_extended sep b p = refl

join_step : (c : ℕ) (sep : Bytes) (b : ℕ) (t : Bytes)
    → join (c ∷ sep) (pieces (split_from (length sep) (c ∷ sep) t)) ≡ drop (length sep) t
    → join (c ∷ sep) (pieces (split (c ∷ sep) t)) ≡ t
    → join (c ∷ sep) (pieces (split (c ∷ sep) (b ∷ t))) ≡ b ∷ t
join_step c sep b t far near = ⊎_elim found other (bcase (begins (c ∷ sep) (b ∷ t)))
  where
    found : begins (c ∷ sep) (b ∷ t) ≡ true → join (c ∷ sep) (pieces (split (c ∷ sep) (b ∷ t))) ≡ b ∷ t
    found h = rw (split_found c sep b t h, join_opened (c ∷ sep) (split_from (length sep) (c ∷ sep) t), far) (begins_drop (c ∷ sep) (b ∷ t) h)

    other : begins (c ∷ sep) (b ∷ t) ≡ false → join (c ∷ sep) (pieces (split (c ∷ sep) (b ∷ t))) ≡ b ∷ t
    other h = rw (split_other (c ∷ sep) b t h, join_extended (c ∷ sep) b (split (c ∷ sep) t), near) refl

join_from : (k c : ℕ) (sep t : Bytes) → join (c ∷ sep) (pieces (split_from k (c ∷ sep) t)) ≡ drop k t
unfolding split_from join texts
join_from k c sep [] = sym (drop-nil k)
join_from zero c sep (b ∷ t) = join_step c sep b t (join_from (length sep) c sep t) (join_from 0 c sep t)
join_from (suc k) c sep (b ∷ t) = join_from k c sep t

-- for a separator that is not empty
pub join_split : (c : ℕ) (sep t : Bytes) → join (c ∷ sep) (pieces (split (c ∷ sep) t)) ≡ t
join_split c sep t = join_from 0 c sep t

pub split_none : (sep t : Bytes) → occurs sep t ≡ false → split sep t ≡ record { first = t; rest = [] }
unfolding occurs split_from
split_none sep [] h = refl
split_none sep (b ∷ t) h =
    rw (or_false_left (begins sep (b ∷ t)) (occurs sep t) h, split_none sep t (or_false_right (begins sep (b ∷ t)) (occurs sep t) h)) refl

some_step : (c : ℕ) (sep : Bytes) (b : ℕ) (t : Bytes) → occurs (c ∷ sep) (b ∷ t) ≡ true
    → (occurs (c ∷ sep) t ≡ true → (q : Bytes) × (qs : List Bytes) × ((split (c ∷ sep) t).rest ≡ q ∷ qs))
    → (q : Bytes) × (qs : List Bytes) × ((split (c ∷ sep) (b ∷ t)).rest ≡ q ∷ qs)
unfolding occurs
some_step c sep b t h ih = ⊎_elim found other (bcase (begins (c ∷ sep) (b ∷ t)))
  where
    found : begins (c ∷ sep) (b ∷ t) ≡ true → (q : Bytes) × (qs : List Bytes) × ((split (c ∷ sep) (b ∷ t)).rest ≡ q ∷ qs)
    found e = ((split_from (length sep) (c ∷ sep) t).first, (split_from (length sep) (c ∷ sep) t).rest, rw (split_found c sep b t e) refl)

    other : begins (c ∷ sep) (b ∷ t) ≡ false → (q : Bytes) × (qs : List Bytes) × ((split (c ∷ sep) (b ∷ t)).rest ≡ q ∷ qs)
    other e = rw (split_other (c ∷ sep) b t e) (ih (rw e at h))

-- where the separator occurs there is a piece behind the first
pub split_some : (c : ℕ) (sep t : Bytes) → occurs (c ∷ sep) t ≡ true
    → (q : Bytes) × (qs : List Bytes) × ((split (c ∷ sep) t).rest ≡ q ∷ qs)
unfolding occurs
split_some c sep [] h = absurd (false≢true h)
split_some c sep (b ∷ t) h = some_step c sep b t h (split_some c sep t)

-- bytes other than the separator's first are passed over
pub split_pass : (c : ℕ) (sep l t : Bytes) → has c l ≡ false
    → split (c ∷ sep) (l ++ t) ≡ record { first = l ++ (split (c ∷ sep) t).first; rest = (split (c ∷ sep) t).rest }
unfolding any
split_pass c sep [] t h = refl
split_pass c sep (b ∷ l) t h =
    rw (
      split_other (c ∷ sep) b (l ++ t) (begins_other c sep b (l ++ t) (or_false_left (eqb c b) (has c l) h)),
      split_pass c sep l t (or_false_right (eqb c b) (has c l) h),
    ) refl

pub split_at : (c : ℕ) (sep t : Bytes) → split (c ∷ sep) ((c ∷ sep) ++ t) ≡ opened (split (c ∷ sep) t)
split_at c sep t =
    split_found c sep c (sep ++ t) (begins_append (c ∷ sep) t)
    ∙ ap opened (split_skip (length sep) (c ∷ sep) (sep ++ t) ∙ ap (split (c ∷ sep)) (drop-append_seam sep t))

-- a line without the separator's first byte is cut off at the separator behind it
pub split_line : (c : ℕ) (sep l t : Bytes) → has c l ≡ false
    → split (c ∷ sep) (l ++ ((c ∷ sep) ++ t)) ≡ record { first = l; rest = pieces (split (c ∷ sep) t) }
split_line c sep l t h = rw (split_pass c sep l ((c ∷ sep) ++ t) h, split_at c sep t, append-nil l) refl

pub occurs_append : (p s t : Bytes) → occurs p t ≡ true → occurs p (s ++ t) ≡ true
unfolding occurs
occurs_append p [] t h = h
occurs_append p (b ∷ s) t h = or_intro_right (begins p (b ∷ (s ++ t))) (occurs p (s ++ t)) (occurs_append p s t h)

pub occurs_at : (c : ℕ) (sep s t : Bytes) → occurs (c ∷ sep) (s ++ ((c ∷ sep) ++ t)) ≡ true
unfolding occurs
occurs_at c sep s t = occurs_append (c ∷ sep) s ((c ∷ sep) ++ t) (rw (begins_append (c ∷ sep) t) refl)

pub occurs_clear : (c : ℕ) (sep l : Bytes) → has c l ≡ false → occurs (c ∷ sep) l ≡ false
unfolding any occurs
occurs_clear c sep [] h = refl
occurs_clear c sep (b ∷ l) h =
    rw (begins_other c sep b l (or_false_left (eqb c b) (has c l) h)) (occurs_clear c sep l (or_false_right (eqb c b) (has c l) h))

pub join_one : (sep p : Bytes) → join sep (p ∷ []) ≡ p
unfolding join texts
join_one sep p = append-nil p

pub join_cons : (sep p q : Bytes) (ps : List Bytes) → join sep (p ∷ q ∷ ps) ≡ p ++ (sep ++ join sep (q ∷ ps))
unfolding join texts
join_cons sep p q ps = ap (λ (r : Bytes). p ++ r) (append_assoc sep q (texts (λ q. sep ++ q) ps))

-- texts each with sep behind it, and the same with sep between them
pub join_texts : (sep l : Bytes) (ls : List Bytes) (u : Bytes) → texts (λ q. q ++ sep) (l ∷ ls) ++ u ≡ join sep (l ∷ ls) ++ (sep ++ u)
unfolding texts
join_texts sep l [] u = rw (join_one sep l) (simp (append-nil, append_assoc))
join_texts sep l (m ∷ ls) u =
    rw (join_cons sep l m ls) (simp append_assoc (rw (← join_texts sep m ls u) (simp append_assoc)))

-- pieces without the separator's first byte come back whole
pub split_join : (c : ℕ) (sep l : Bytes) (ls : List Bytes) → any (has c) (l ∷ ls) ≡ false → split (c ∷ sep) (join (c ∷ sep) (l ∷ ls)) ≡ record { first = l; rest = ls }
unfolding any
split_join c sep l [] h = rw (join_one (c ∷ sep) l) (split_none (c ∷ sep) l (occurs_clear c sep l (or_false_left (has c l) false h)))
split_join c sep l (m ∷ ls) h =
    rw (
      join_cons (c ∷ sep) l m ls,
      split_line c sep l (join (c ∷ sep) (m ∷ ls)) (or_false_left (has c l) (any (has c) (m ∷ ls)) h),
      split_join c sep m ls (or_false_right (has c l) (any (has c) (m ∷ ls)) h),
    ) refl

pub has_append : (c : ℕ) (s t : Bytes) → has c (s ++ t) ≡ (has c s || has c t)
unfolding any
has_append c [] t = refl
has_append c (b ∷ s) t = rw (has_append c s t) (sym (or_assoc (eqb c b) (has c s) (has c t)))

pub has_at : (c : ℕ) (s t : Bytes) → has c (s ++ (c ∷ t)) ≡ true
unfolding any
has_at c [] t = rw (eq-eqb c c refl) refl
has_at c (b ∷ s) t = or_intro_right (eqb c b) (has c (s ++ (c ∷ t))) (has_at c s t)

pub up_to_at : (c : ℕ) (s t : Bytes) → has c s ≡ false → up_to c (s ++ (c ∷ t)) ≡ s
unfolding any up_to
up_to_at c [] t h = rw (eq-eqb c c refl) refl
up_to_at c (b ∷ s) t h = rw (or_false_left (eqb c b) (has c s) h, up_to_at c s t (or_false_right (eqb c b) (has c s) h)) refl

pub past_at : (c : ℕ) (s t : Bytes) → has c s ≡ false → past c (s ++ (c ∷ t)) ≡ t
unfolding any past
past_at c [] t h = rw (eq-eqb c c refl) refl
past_at c (b ∷ s) t h = rw (or_false_left (eqb c b) (has c s) h) (past_at c s t (or_false_right (eqb c b) (has c s) h))

up_to_past_step : (c b : ℕ) (s : Bytes) → has c (b ∷ s) ≡ true → (has c s ≡ true → s ≡ up_to c s ++ (c ∷ past c s))
    → (b ∷ s) ≡ up_to c (b ∷ s) ++ (c ∷ past c (b ∷ s))
unfolding any up_to past
up_to_past_step c b s h ih = go (eqb c b) refl
  where
    go : (x : Bool) → eqb c b ≡ x → (b ∷ s) ≡ (if eqb c b then [] else b ∷ up_to c s) ++ (c ∷ (if eqb c b then s else past c s))
    go true e = rw (e, eqb-true c b e) refl
    go false e = rw e (ap (λ (r : Bytes). b ∷ r) (ih (rw e at h)))

pub up_to_past : (c : ℕ) (s : Bytes) → has c s ≡ true → s ≡ up_to c s ++ (c ∷ past c s)
unfolding any
up_to_past c [] h = absurd (false≢true h)
up_to_past c (b ∷ s) h = up_to_past_step c b s h (up_to_past c s)

up_to_clear_step : (c b : ℕ) (s : Bytes) → has c (up_to c s) ≡ false → has c (up_to c (b ∷ s)) ≡ false
unfolding any up_to
up_to_clear_step c b s ih = go (eqb c b) refl
  where
    go : (x : Bool) → eqb c b ≡ x → has c (if eqb c b then [] else b ∷ up_to c s) ≡ false
    go true e = rw e refl
    go false e = rw (e, e) ih

pub up_to_clear : (c : ℕ) (s : Bytes) → has c (up_to c s) ≡ false
unfolding any up_to
up_to_clear c [] = refl
up_to_clear c (b ∷ s) = up_to_clear_step c b s (up_to_clear c s)

pub up_to_none : (c : ℕ) (s : Bytes) → has c s ≡ false → up_to c s ≡ s
unfolding any up_to
up_to_none c [] h = refl
up_to_none c (b ∷ s) h = rw (or_false_left (eqb c b) (has c s) h, up_to_none c s (or_false_right (eqb c b) (has c s) h)) refl

pub past_none : (c : ℕ) (s : Bytes) → has c s ≡ false → past c s ≡ []
unfolding any past
past_none c [] h = refl
past_none c (b ∷ s) h = rw (or_false_left (eqb c b) (has c s) h) (past_none c s (or_false_right (eqb c b) (has c s) h))

-- a text of bytes n or more does not hold a smaller byte
pub high_clear : (c n : ℕ) (l : Bytes) → c < n → all (leb n) l ≡ true → has c l ≡ false
unfolding any
high_clear c n [] h k = refl
high_clear c n (b ∷ l) h k =
    let m = leb-true n b (all_head (leb n) b l k) in
    rw (ne_eqb c b (omega arith)) (high_clear c n l h (all_tail (leb n) b l k))
