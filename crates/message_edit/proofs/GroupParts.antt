-- The entries of a name among those in the order of their names, as parts of the list: the group itself in the middle, or nothing
-- behind it. Assumes nothing.
use Prim.Native.Nat.{ℕ, ◌+◌, ◌-◌, ◌≤◌}
use mathlib.Core.Path.{◌≡◌, refl, sym, ap, ◌∙◌}
use mathlib.Core.Bool.{true, not}
use mathlib.Core.List.{List, [], ◌∷◌, ◌++◌, append_assoc}
use native.Mathlib.Omega.{arith}
use lib.ListN.{length, length-append}
use Rattle.format.specs.Bytes.{Bytes, all, total, before}
use Rattle.format.specs.Message.{without, ascending, increasing}
use Rattle.format.proofs.Lists.{all_map, and_intro, total_append}
use Rattle.format.proofs.Messages.Order.{before_asym}
use Rattle.format.proofs.Messages.Keyed.{increasing_later, increasing_rest}
use Rattle.store_entries.specs.Groups.{low, own, high, Grouped}
use Rattle.store_entries.proofs.ByName.{parts, without_parts}
use Rattle.store_splice.specs.Spliced.{Parted}

-- no name twice and in order: in order
pub increasing_ascending : {A : Type 0} (key : A → Bytes) (xs : List A) → increasing key xs ≡ true → ascending key xs ≡ true
unfolding ascending
increasing_ascending key [] h = refl
increasing_ascending key (x ∷ xs) h =
    and_intro (all (λ y. not (before (key y) (key x))) xs) (ascending key xs)
    (all_map (λ y. before (key x) (key y)) (λ y. not (before (key y) (key x)))
    (λ y e. rw (before_asym (key x) (key y) e) refl) xs (increasing_later key x xs h))
    (increasing_ascending key xs (increasing_rest key x xs h))

-- The parts that a group makes: the group itself in the middle, or nothing behind it.
module _ {A : Type 0} (key : A → Bytes) (need : A → ℕ) (name : Bytes) (xs : List A) (at size many : ℕ) (g : Grouped key need name xs at size many) where
  pub in_place : Parted need xs (low key name xs) (own key name xs) (high key name xs) at size many
  in_place = record { parts = parts key name xs; place = g.place; bytes = g.bytes; entries = g.entries }

  pub behind : Parted need xs (low key name xs ++ own key name xs) [] (high key name xs) (at + size) 0 0
  unfolding total
  behind =
      record {
        parts = parts key name xs ∙ sym (append_assoc (low key name xs) (own key name xs) (high key name xs));
        place = omega (arith, g.place, g.bytes, total_append need (low key name xs) (own key name xs));
        bytes = refl;
        entries = refl;
      }

  -- how many are left without the group
  pub without_count : ascending key xs ≡ true → length (without key name xs) ≡ length xs - many
  without_count a =
      let p = ap length (parts key name xs) ∙ length-append (low key name xs) (own key name xs ++ high key name xs) in
      let q = ap length (without_parts key name xs a) ∙ length-append (low key name xs) (high key name xs) in
      omega (arith, p, q, g.entries, length-append (own key name xs) (high key name xs))

  pub many_within : many ≤ length xs
  many_within =
      omega (arith, g.entries, ap length (parts key name xs) ∙ length-append (low key name xs) (own key name xs ++ high key name xs), length-append (own key name xs) (high key name xs))

  pub bytes_within : at + size ≤ total need xs
  bytes_within =
      omega (arith, g.place, g.bytes, ap (total need) (parts key name xs) ∙ total_append need (low key name xs) (own key name xs ++ high key name xs), total_append need (own key name xs) (high key name xs))
