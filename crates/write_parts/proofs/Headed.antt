-- Going over headers one by one: those left are within limits and validators, and so are their parameters. Assumes nothing.
use Prim.Native.Nat.{ℕ, ◌+◌, ◌<◌}
use mathlib.Core.Path.{◌≡◌, sym, ap, ◌∙◌}
use mathlib.Core.Bool.{Bool, true}
use mathlib.Core.List.{[], ◌∷◌}
use lib.ListN.{drop}
use Rattle.format.specs.Bytes.{Bytes, all}
use Rattle.format.proofs.Lists.{all_head, all_tail}
use Rattle.format.proofs.Rulesets.{tests}
use Rattle.store_entries.specs.Stored.{Stored, size_in, stored_in}
use Rattle.store_entry_check.specs.EntriesHold.{fits, tail_holds, headers_hold}
use Rattle.store_entry_check.specs.declared.kinds.Kind.TheVariants.{Header}
use Rattle.store_entry_check.proofs.EntriesListed.{holds_shaped, holds_walked}
use Rattle.write_parts.proofs.StoreWalk.{left, Passing, left_start, left_next, passing_start, passing_on}

pub record Headed (s : Bytes) (count at i : ℕ) : Type 0 where
  pub passing : Passing s count at i
  pub fitting : all (fits Header) (left s count at i) ≡ true
  pub tails : all tail_holds (left s count at i) ≡ true

module _ (s : Bytes) (count : ℕ) where
  pub headed_start : headers_hold count s ≡ true → Headed s count 0 0
  unfolding headers_hold
  headed_start h =
      let p = simp tests at h in
      record {
        passing = passing_start s count (holds_shaped Header count [] s p.0);
        fitting = ap (all (fits Header)) (sym (left_start s count)) ∙ (holds_walked Header count [] s p.0).each;
        tails = ap (all tail_holds) (sym (left_start s count)) ∙ p.1;
      }

  module _ (at i : ℕ) (w : Headed s count at i) (more : i < count) where
    -- a test that all pass
    module _ (p : Stored → Bool) (h : all p (left s count at i) ≡ true) where
      each : all p (stored_in (drop at s) ∷ left s count (at + size_in (drop at s)) (i + 1)) ≡ true
      each = ap (all p) (sym (left_next s count at i more)) ∙ h

      here : p (stored_in (drop at s)) ≡ true
      here = all_head p (stored_in (drop at s)) (left s count (at + size_in (drop at s)) (i + 1)) each

      behind : all p (left s count (at + size_in (drop at s)) (i + 1)) ≡ true
      behind = all_tail p (stored_in (drop at s)) (left s count (at + size_in (drop at s)) (i + 1)) each

    pub headed_fits : fits Header (stored_in (drop at s)) ≡ true
    headed_fits = here (fits Header) w.fitting

    pub headed_tail : tail_holds (stored_in (drop at s)) ≡ true
    headed_tail = here tail_holds w.tails

    pub headed_on : Headed s count (at + size_in (drop at s)) (i + 1)
    headed_on =
        record {
          passing = passing_on s count at i w.passing more;
          fitting = behind (fits Header) w.fitting;
          tails = behind tail_holds w.tails;
        }
