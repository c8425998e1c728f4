-- Where the entries of a name stand among those laid out in the order of their names: `find_group` counts the bytes before them, theirs,
-- and how many they are. Assumes nothing.
use Prim.Native.Nat.{ℕ}
use mathlib.Core.Path.{◌≡◌, refl, ap, ◌∙◌}
use mathlib.Core.Bool.{true, false}
use mathlib.Core.List.{List, map}
use lib.ListN.{length, length-map}
use Rattle.format.specs.Bytes.{Bytes, total, texts, same, before}
use Rattle.format.specs.Message.{Entry, Header, name_of, entry_name, need_entry, need_header}
use Rattle.format.specs.Layout.{layout_entry, layout_header}
use Rattle.store_entries.specs.Stored.{Stored, stored_bytes, stored_size, stored_entry, stored_header, entries_in}
use Rattle.store_entries.specs.Passing.{whilst, after, is_passed, passed_over, under, of_name}
use Rattle.store_entries.specs.Groups.{low, own, Grouped}
use Rattle.store_entries.proofs.Layouts.{entry_bytes_lem, header_bytes, entry_size_lem, header_size_lem, laid_read, laid_size}
use Rattle.store_entries.proofs.ByName.{whilst_map, after_map}

module _ {A : Type 0} (stored : A → Stored) (bytes : A → Bytes) (same_bytes : (x : A) → bytes x ≡ stored_bytes (stored x)) (need : A → ℕ)
    (sized : (x : A) → stored_size (stored x) ≡ need x) (key : A → Bytes) (named : (x : A) → (stored x).name ≡ key x) where
  module _ (name : Bytes) (xs : List A) where
    whilst_low : under name (map stored xs) ≡ map stored (low key name xs)
    unfolding is_passed
    whilst_low =
        whilst_map (passed_over false name) stored xs
        ∙ ap (λ (k : A → Bytes). map stored (whilst (λ x. before (k x) name) xs)) (λ i x. named x i)

    after_low : after (passed_over false name) (map stored xs) ≡ map stored (after (λ x. before (key x) name) xs)
    unfolding is_passed
    after_low =
        after_map (passed_over false name) stored xs
        ∙ ap (λ (k : A → Bytes). map stored (after (λ x. before (k x) name) xs)) (λ i x. named x i)

    whilst_own : of_name name (map stored xs) ≡ map stored (own key name xs)
    unfolding is_passed
    whilst_own =
        ap (whilst (passed_over true name)) after_low
        ∙ whilst_map (passed_over true name) stored (after (λ x. before (key x) name) xs)
        ∙ ap (λ (k : A → Bytes). map stored (whilst (λ x. same name (k x)) (after (λ x. before (key x) name) xs))) (λ i x. named x i)

    grouped : (at size many : ℕ)
        → at ≡ total stored_size (under name (entries_in (length xs) (texts bytes xs)))
        → size ≡ total stored_size (of_name name (entries_in (length xs) (texts bytes xs)))
        → many ≡ length (of_name name (entries_in (length xs) (texts bytes xs)))
        → Grouped key need name xs at size many
    grouped at size many a b c =
        let read = laid_read stored bytes same_bytes xs in
        let l = ap (under name) read ∙ whilst_low in
        let o = ap (of_name name) read ∙ whilst_own in
        record {
          place = a ∙ ap (total stored_size) l ∙ laid_size stored bytes same_bytes need sized (low key name xs);
          bytes = b ∙ ap (total stored_size) o ∙ laid_size stored bytes same_bytes need sized (own key name xs);
          entries = c ∙ ap length o ∙ length-map (own key name xs) stored;
        }

module _ (name : Bytes) (at size many : ℕ) where
  pub grouped_headers : (hs : List Header)
      → at ≡ total stored_size (under name (entries_in (length hs) (texts layout_header hs)))
      → size ≡ total stored_size (of_name name (entries_in (length hs) (texts layout_header hs)))
      → many ≡ length (of_name name (entries_in (length hs) (texts layout_header hs)))
      → Grouped name_of need_header name hs at size many
  unfolding stored_header
  grouped_headers hs = grouped stored_header layout_header header_bytes need_header header_size_lem name_of (λ h. refl) name hs at size many

  pub grouped_entries : (es : List Entry)
      → at ≡ total stored_size (under name (entries_in (length es) (texts layout_entry es)))
      → size ≡ total stored_size (of_name name (entries_in (length es) (texts layout_entry es)))
      → many ≡ length (of_name name (entries_in (length es) (texts layout_entry es)))
      → Grouped entry_name need_entry name es at size many
  unfolding stored_entry
  grouped_entries es = grouped stored_entry layout_entry entry_bytes_lem need_entry entry_size_lem entry_name (λ e. refl) name es at size many
