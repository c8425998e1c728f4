-- Laws of a table of lead and trailing ranges, and the tests that Table 3-7 passes. Each fact of its nine rows is one test that
-- computes; the laws carry it to the row that a lead byte picks. Assumes nothing.
use Rattle.std.specs.Prelude.{if◌then◌else◌}
use Prim.Native.Nat.{ℕ, zero, suc, ◌≤◌, ◌<◌}
use mathlib.Core.Path.{◌≡◌, refl, ap}
use mathlib.Core.Bool.{Bool, true, false, ◌&&◌, false≢true, and-false}
use mathlib.Core.Logic.{⊎_elim}
use mathlib.Core.List.{List, [], ◌∷◌, ◌++◌}
use mathlib.Core.Option.{some}
use native.Mathlib.Omega.{arith}
use lib.Dec.{leb, ltb}
use lib.ListN.{length, get_or}
use borrow.Author.Tests.{leb-true, le-leb, lt-leb, ltb-true}
use Rattle.format.specs.Bytes.{Bytes, all}
use Rattle.format.specs.Characters.{Range, ◌to◌, within, Row, row, table_3_7, trail_in, trail_of, fits, well_formed, matched}
use Rattle.format.proofs.Lists.{bcase, and_left, and_right, and_intro, all_head, all_tail, all_get_d}

pub within_low : (n : ℕ) (r : Range) → within n r ≡ true → r.first ≤ n
within_low n r h = leb-true r.first n (and_left (leb r.first n) (leb n r.last) h)

pub within_high : (n : ℕ) (r : Range) → within n r ≡ true → n ≤ r.last
within_high n r h = leb-true n r.last (and_right (leb r.first n) (leb n r.last) h)

pub within_intro : (n : ℕ) (r : Range) → r.first ≤ n → n ≤ r.last → within n r ≡ true
within_intro n r h k = and_intro (leb r.first n) (leb n r.last) (le-leb r.first n h) (le-leb n r.last k)

-- a number below a range is not in it
pub within_below : (n : ℕ) (r : Range) → n < r.first → within n r ≡ false
within_below n r h = rw (lt-leb r.first n h) refl

-- The row that the lead byte b picks, its trailing ranges being tr; it passes the test q.
pub record Picked (q : Row → Bool) (b : ℕ) (tr : List Range) : Type 0 where
  pub picked : Row
  pub leads : within b picked.lead ≡ true
  pub trails : picked.trail ≡ tr
  pub passes : q picked ≡ true

-- what all rows pass, the row of a lead byte passes
pub picks : (q : Row → Bool) (rows : List Row) (b : ℕ) (tr : List Range) → all q rows ≡ true → trail_in rows b ≡ some tr → Picked q b tr
unfolding trail_in
picks q [] b tr h e = let z : ◌≡◌ {A = ℕ} 0 1 = cc in absurd (omega arith)
picks q (r ∷ rows) b tr h e =
    ⊎_elim
    (λ t. record { picked = r; leads = t; trails = let e' : some r.trail ≡ some tr = rw t at e in cc; passes = all_head q r rows h })
    (λ f. picks q rows b tr (all_tail q r rows h) (rw f at e))
    (bcase (within b r.lead))

-- the ranges begin at 128 or more
abbrev pub upper : List Range → Bool
upper rs = all (λ r. leb 128 r.first) rs

-- a row is one byte below 128, or all its ranges begin at 128 or more
abbrev pub apart : Range → List Range → Bool
apart l [] = leb l.last 127
apart l (r ∷ rs) = leb 128 l.first && upper (r ∷ rs)

abbrev pub apart_row : Row → Bool
apart_row r = apart r.lead r.trail

table_apart : all apart_row table_3_7 ≡ true
unfolding all
table_apart = refl

pub picked_apart : (b : ℕ) (tr : List Range) → trail_of b ≡ some tr → Picked apart_row b tr
picked_apart b tr e = picks apart_row table_3_7 b tr table_apart e

-- the trailing ranges of every lead byte begin at 128 or more
pub trail_upper : (b : ℕ) (tr : List Range) → trail_of b ≡ some tr → upper tr ≡ true
unfolding all
trail_upper b tr e = let p = picked_apart b tr e in rw (← p.trails) (go p.picked.lead p.picked.trail p.passes)
  where
    go : (l : Range) (rs : List Range) → apart l rs ≡ true → upper rs ≡ true
    go l [] h = refl
    go l (r ∷ rs) h = and_right (leb 128 l.first) (upper (r ∷ rs)) h

-- a lead byte of a longer row is 128 or more
pub lead_upper : (b : ℕ) (r : Range) (rs : List Range) → trail_of b ≡ some (r ∷ rs) → 128 ≤ b
lead_upper b r rs e =
    let p = picked_apart b (r ∷ rs) e in
    let h : apart p.picked.lead (r ∷ rs) ≡ true = rw p.trails at p.passes in
    let k : 128 ≤ p.picked.lead.first = leb-true 128 p.picked.lead.first (and_left (leb 128 p.picked.lead.first) (upper (r ∷ rs)) h) in
    omega (arith, within_low b p.picked.lead p.leads)

-- a lead byte of a row without trailing ranges is below 128
pub lead_single : (b : ℕ) → trail_of b ≡ some [] → b < 128
lead_single b e =
    let p = picked_apart b [] e in
    let h : apart p.picked.lead [] ≡ true = rw p.trails at p.passes in
    omega (arith, within_high b p.picked.lead p.leads, leb-true p.picked.lead.last 127 h)

-- a byte below 128 is a row of its own
pub trail_ascii : (b : ℕ) → b < 128 → trail_of b ≡ some []
unfolding trail_in
trail_ascii b h = rw (within_intro b (0x00 to 0x7F) (omega arith) (omega arith)) refl

-- bytes that fit trailing ranges from 128 on are 128 or more
pub fits_upper : (rs : List Range) (t : Bytes) → upper rs ≡ true → fits rs t ≡ true → all (leb 128) t ≡ true
unfolding all fits
fits_upper [] [] h f = refl
fits_upper [] (b ∷ t) h f = absurd (false≢true f)
fits_upper (r ∷ rs) [] h f = absurd (false≢true f)
fits_upper (r ∷ rs) (b ∷ t) h f =
    and_intro (leb 128 b) (all (leb 128) t)
    (le-leb 128 b (omega (arith, leb-true 128 r.first (and_left (leb 128 r.first) (upper rs) h), within_low b r (and_left (within b r) (fits rs t) f))))
    (fits_upper rs t (and_right (leb 128 r.first) (upper rs) h) (and_right (within b r) (fits rs t) f))

pub matched_le : (rs : List Range) (t : Bytes) → matched rs t ≤ length t
unfolding matched
matched_le [] t = omega arith
matched_le (r ∷ rs) [] = omega arith
matched_le (r ∷ rs) (b ∷ t) = go (within b r) (matched_le rs t)
  where
    go : (w : Bool) → matched rs t ≤ length t → (if w then suc (matched rs t) else 0) ≤ suc (length t)
    go true h = omega arith
    go false h = omega arith

-- bytes that fit are all matched, whatever follows
pub matched_fits : (rs : List Range) (t s : Bytes) → fits rs t ≡ true → matched rs (t ++ s) ≡ length t
unfolding fits matched
matched_fits [] [] s h = refl
matched_fits [] (b ∷ t) s h = absurd (false≢true h)
matched_fits (r ∷ rs) [] s h = absurd (false≢true h)
matched_fits (r ∷ rs) (b ∷ t) s h =
    rw (and_left (within b r) (fits rs t) h) (ap suc (matched_fits rs t s (and_right (within b r) (fits rs t) h)))

-- a byte below 128 is never matched, so nothing behind it counts
pub matched_cut : (rs : List Range) (s : Bytes) (b : ℕ) (t : Bytes) → upper rs ≡ true → b < 128 → matched rs (s ++ (b ∷ t)) ≡ matched rs s
unfolding all matched
matched_cut [] s b t h k = refl
matched_cut (r ∷ rs) [] b t h k =
    rw (within_below b r (omega (arith, leb-true 128 r.first (and_left (leb 128 r.first) (upper rs) h)))) refl
matched_cut (r ∷ rs) (a ∷ s) b t h k = rw (matched_cut rs s b t (and_right (leb 128 r.first) (upper rs) h) k) refl

-- a number above a range is not in it
pub within_above : (n : ℕ) (r : Range) → r.last < n → within n r ≡ false
within_above n r h = rw (lt-leb n r.last h) (and-false (leb r.first n))

-- each lead range lies below all later ones
rising : List Row → Bool
rising [] = true
rising (r ∷ rows) = all (λ q. ltb r.lead.last q.lead.first) rows && rising rows

-- what a place outside a table reads
abbrev pub no_row : Row
no_row = row (0 to 0) []

-- where lead ranges rise, a lead byte within that of row k picks row k
hit : (rows : List Row) (k b : ℕ) → rising rows ≡ true → k < length rows → within b (get_or rows k no_row).lead ≡ true → trail_in rows b ≡ some (get_or rows k no_row).trail
unfolding trail_in rising
hit [] k b h i w = absurd (omega arith)
hit (r ∷ rows) zero b h i w = rw w refl
hit (r ∷ rows) (suc k) b h i w =
    let below : Row → Bool = λ q. ltb r.lead.last q.lead.first in
    let lt = ltb-true r.lead.last (get_or rows k no_row).lead.first (all_get_d below rows no_row k (and_left (all below rows) (rising rows) h) (omega arith)) in
    rw (within_above b r.lead (omega (arith, within_low b (get_or rows k no_row).lead w))) (hit rows k b (and_right (all below rows) (rising rows) h) (omega arith) w)

-- row k of the table, from 0
abbrev pub row_of : ℕ → Row
row_of k = get_or table_3_7 k no_row

-- a lead byte of row k of the table with bytes that fit its trailing ranges is a well-formed character
pub whole_row : (k b : ℕ) (t : Bytes) → k < 9 → (row_of k).lead.first ≤ b → b ≤ (row_of k).lead.last → fits (row_of k).trail t ≡ true → well_formed (b ∷ t) ≡ true
unfolding well_formed rising all
whole_row k b t i h j f = rw (hit table_3_7 k b refl i (within_intro b (row_of k).lead h j)) f
