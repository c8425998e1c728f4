-- A header where it stands: its numbers, its value, its parameters as a list laid out. Assumes nothing.
use Prim.Native.Nat.{ℕ, ◌+◌, ◌-◌, ◌≤◌}
use mathlib.Core.Path.{◌≡◌, sym, ap, ◌∙◌, subst}
use mathlib.Core.Bool.{true}
use mathlib.Core.List.{List, ◌++◌}
use mathlib.Core.Option.{Option, none, some}
use native.Mathlib.Omega.{arith}
use lib.ListN.{length, take, drop, length-drop}
use lib.Seq.{drop-drop}
use Rattle.format.specs.Bytes.{Bytes, texts}
use Rattle.format.specs.Message.{Entry, Header}
use Rattle.format.specs.Layout.{layout_entry}
use Rattle.format.specs.LookingUp.{nth, mapped, of_held}
use Rattle.store_entries.specs.Stored.{stored_bytes, stored_header, name_length, value_length, param_count, tail_length, size_in, name_in, value_in, tail_in, stored_in, shaped_all}
use Rattle.store_entries.proofs.EntryShape.{Shape}
use Rattle.store_entries.proofs.EntryRead.{name_length_lem, value_length_lem, read_name, read_value_lem, read_tail, read_stored, read_shape}
use Rattle.store_entries.proofs.Layouts.{header_bytes}
use Rattle.lookup_nth.specs.Listed.{Listed}
use Rattle.lookup_nth.proofs.NthElement.{entries_shaped}
use Rattle.lookup_places.specs.Spots.{no_part, no_pair, PartIs, PairIs, entry_place}
use Rattle.lookup_places.specs.declared.spots.Pair.{Pair}
use Rattle.lookup_places.proofs.EntryPlaces.{part_there, part_absent, pair_none}
use Rattle.lookup_places.specs.NamedPlaces.{value_place, param_place, HeaderAt, SpotIs}

-- where the parameters of the entry at a place begin, and where they end
abbrev pub from : Bytes → ℕ → ℕ
from s at = at + (16 + (name_length (drop at s) + value_length (drop at s)))

abbrev pub to : Bytes → ℕ → ℕ
to s at = from s at + tail_length (drop at s)

-- the header h stands at the place at
module _ (s : Bytes) (at : ℕ) (h : Header) (w : HeaderAt s at h) where
  abbrev t : Bytes
  t = drop at s

  stored_at : t ≡ stored_bytes (stored_header h) ++ w.more
  stored_at = w.bytes ∙ ap (λ (x : Bytes). x ++ w.more) (header_bytes h)

  shape_at : Shape t
  shape_at = rw stored_at (read_shape (stored_header h) w.more)

  name_is : name_in t ≡ h.name
  unfolding stored_header
  name_is = ap name_in stored_at ∙ read_name (stored_header h) w.more

  value_is : value_in t ≡ h.value
  unfolding stored_header
  value_is = ap value_in stored_at ∙ read_value_lem (stored_header h) w.more

  tail_is : tail_in t ≡ texts layout_entry h.params
  unfolding stored_header
  tail_is = ap tail_in stored_at ∙ read_tail (stored_header h) w.more

  count_is : param_count t ≡ length h.params
  unfolding stored_header stored_in
  count_is = ap (λ e. e.params) (ap stored_in stored_at ∙ read_stored (stored_header h) w.more)

  name_long : name_length t ≡ length h.name
  name_long = sym (name_length_lem t shape_at) ∙ ap length name_is

  value_long : value_length t ≡ length h.value
  value_long = sym (value_length_lem t shape_at) ∙ ap length value_is

  pub size_at : at + (16 + (name_length t + (value_length t + tail_length t))) ≤ length s
  unfolding size_in
  size_at = omega (arith, shape_at.whole, shape_at.numbers, length-drop at s)

  pub value_part_lem : PartIs s (at + (16 + length h.name)) (some h.value) (record { found = true; start = at + (16 + name_length t); length = value_length t })
  unfolding value_in
  value_part_lem =
      let e = ap (take (value_length t)) (sym (drop-drop (16 + name_length t) at s)) ∙ value_is in
      let p = part_there s (at + (16 + name_length t)) (value_length t) h.value (omega (arith, size_at)) e in
      rw (sym name_long) p

  pub params_listed : Listed layout_entry h.params (take (to s at - from s at) (drop (from s at) s)) (param_count t)
  unfolding tail_in
  params_listed =
      let e : to s at - from s at ≡ tail_length t = omega arith in
      record {
        bytes =
            ap (λ (n : ℕ). take n (drop (from s at) s)) e
            ∙ ap (take (tail_length t)) (sym (drop-drop (16 + (name_length t + value_length t)) at s))
            ∙ tail_is;
        entries = count_is;
      }

  pub param_pair : (n : ℕ) (p : Pair) → ((es : List Entry) → Listed layout_entry es (take (to s at - from s at) (drop (from s at) s)) (param_count t) → PairIs s (entry_place (from s at) es n) (nth n es) p)
      → PairIs s (param_place at (some h) n) (nth n h.params) p
  unfolding param_place
  param_pair n p f = rw (sym name_long, sym value_long) (f h.params params_listed)

-- What is known where no header is found.
module _ (s : Bytes) (place : ℕ) where
  pub spot_no_value : (o : Option Header) → SpotIs s place o none → PartIs s (value_place place o) (mapped (λ h. h.value) o) no_part
  unfolding value_place
  spot_no_value none e = part_absent s 0
  spot_no_value (some h) w = cc (w.0)

  pub spot_no_param : (n : ℕ) (o : Option Header) → SpotIs s place o none → PairIs s (param_place place o n) (of_held o (λ h. nth n h.params)) no_pair
  unfolding param_place
  spot_no_param n none e = pair_none s 0
  spot_no_param n (some h) w = cc (w.0)

-- What is known of one that is found at a place.
module _ (s : Bytes) (place at : ℕ) where
  spot_at : (h : Header) → SpotIs s place (some h) (some at) → at ≡ place
  spot_at h w = cc (w.0)

  pub spot_size : (o : Option Header) → SpotIs s place o (some at)
      → at + (16 + (name_length (drop at s) + (value_length (drop at s) + tail_length (drop at s)))) ≤ length s
  spot_size none e = cc
  spot_size (some h) w = rw (spot_at h w) (size_at s place h w.1)

  pub spot_shaped : (o : Option Header) → SpotIs s place o (some at)
      → shaped_all (param_count (drop at s)) (take (to s at - from s at) (drop (from s at) s)) ≡ true
  spot_shaped none e = cc
  spot_shaped (some h) w = rw (spot_at h w) (entries_shaped h.params _ _ (params_listed s place h w.1))

  pub spot_value : (o : Option Header) → SpotIs s place o (some at) → (name value : ℕ)
      → name ≡ name_length (drop at s) → value ≡ value_length (drop at s)
      → PartIs s (value_place place o) (mapped (λ h. h.value) o) (record { found = true; start = at + (16 + name); length = value })
  unfolding value_place
  spot_value none e name value a b = cc
  spot_value (some h) w name value a b = rw (a, b, spot_at h w) (value_part_lem s place h w.1)

  -- as `nth_pair` answers of its parameters
  pub spot_param : (n : ℕ) (o : Option Header) → SpotIs s place o (some at) → (p : Pair) (name value tail count : ℕ)
      → name ≡ name_length (drop at s) → value ≡ value_length (drop at s) → tail ≡ tail_length (drop at s) → count ≡ param_count (drop at s)
      → ((es : List Entry) → Listed layout_entry es (take (at + (16 + (name + value)) + tail - (at + (16 + (name + value)))) (drop (at + (16 + (name + value))) s)) count
      → PairIs s (entry_place (at + (16 + (name + value))) es n) (nth n es) p)
      → PairIs s (param_place place o n) (of_held o (λ h. nth n h.params)) p
  spot_param n none e p name value tail count a b c d g = cc
  spot_param n (some h) w p name value tail count a b c d g =
      let i = spot_at h w in
      let Asks : ℕ → ℕ → ℕ → ℕ → ℕ → Type 0 = λ at name value tail count. (es : List Entry)
      → Listed layout_entry es (take (at + (16 + (name + value)) + tail - (at + (16 + (name + value)))) (drop (at + (16 + (name + value))) s)) count
      → PairIs s (entry_place (at + (16 + (name + value))) es n) (nth n es) p in
      let same : Asks at name value tail count ≡ Asks place (name_length (drop place s)) (value_length (drop place s)) (tail_length (drop place s)) (param_count (drop place s)) =
      λ j. Asks (i j) ((a ∙ ap (λ (k : ℕ). name_length (drop k s)) i) j) ((b ∙ ap (λ (k : ℕ). value_length (drop k s)) i) j) ((c ∙ ap (λ (k : ℕ). tail_length (drop k s)) i) j) ((d ∙ ap (λ (k : ℕ). param_count (drop k s)) i) j) in
      param_pair s place h w.1 n p (subst (λ (T : Type 0). T) same g)
