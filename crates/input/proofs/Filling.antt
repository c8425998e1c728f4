-- A read into the rest of a buffer: the filled front grows by what the reader gave. Assumes nothing.
use Rattle.std.proofs.Common.{◌≡◌, ℕ, ◌+◌, ◌≤◌, List, [], ◌++◌, Option, Result, Ok, Err, sym, ap, ◌∙◌, subst, arith, length, take, drop, le_refl, drop_at, length-take-le}
use Rattle.std.proofs.lemmas.Slice.{take-put_mid_below}
use Rattle.std.proofs.KnownBytes.{Consumes-nil, Consumes-trans, Consumes-kept}
use Rattle.std.specs.Io.{ReadsAtMost}
use Rattle.std.specs.Io.KnownBytes.{Consumes, ReadConsumes}
use Rattle.std.specs.Result.{result_unwrap_or}
use borrow.Rule.Slice.PartMut.{put_mid, post_of}
use lib.Seq.{take-add, take-append-le}

-- what a read gave, none where it failed
read_gave : {E : Type 0} (a b : Option (List ℕ)) (r : Result ℕ E) (part : List ℕ) → ReadConsumes a b r part → Consumes a b (take (result_unwrap_or r 0) part)
read_gave a b (Ok n) part h = h.0
read_gave a b (Err e) part h = Consumes-kept a a b [] (Consumes-nil a) h

read_within : {E : Type 0} (r : Result ℕ E) (part : List ℕ) → ReadsAtMost r part → result_unwrap_or r 0 ≤ length part
read_within (Ok n) part h = h.0
read_within (Err e) part h = omega arith

-- the front and the first n bytes of the part that was put behind it
take-put_mid : (a k n : ℕ) (xs ys : List ℕ) → a ≤ length xs → n ≤ length ys → take (a + n) (put_mid a k xs ys) ≡ take a xs ++ take n ys
take-put_mid a k n xs ys within fits =
    let after = post_of a k xs in
    let part : take n (drop a (put_mid a k xs ys)) ≡ take n ys =
    ap (take n) (drop_at (take a xs) (ys ++ after) a (length-take-le a xs within)) ∙ take-append-le n ys after fits in
    take-add a n (put_mid a k xs ys) ∙ ap (λ l. l ++ take n (drop a (put_mid a k xs ys))) (take-put_mid_below a k xs ys a (le_refl a) within)
    ∙ ap (λ l. take a xs ++ l) part

-- what came before and what a read gave, in one
pub filled_more : {E : Type 0} (a b c : Option (List ℕ)) (r : Result ℕ E) (n at k : ℕ) (xs ys : List ℕ) → at ≤ length xs → n ≡ result_unwrap_or r 0
    → Consumes a b (take at xs) → ReadsAtMost r ys → ReadConsumes b c r ys → Consumes a c (take (at + n) (put_mid at k xs ys))
filled_more a b c r n at k xs ys within is before bound bytes =
    let fits : n ≤ length ys = omega (arith, read_within r ys bound) in
    let gave : Consumes b c (take n ys) = subst (λ m. Consumes b c (take m ys)) (sym is) (read_gave b c r ys bytes) in
    subst (Consumes a c) (sym (take-put_mid at k n xs ys within fits)) (Consumes-trans a b c _ _ before gave)
