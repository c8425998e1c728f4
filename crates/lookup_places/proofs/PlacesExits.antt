-- The ways out of `places`: nothing is held, the output is too short, or the rows are written. Of a message that is held the rows are
-- as many, and the ones, that are read from the store. Assumes nothing.
use Prim.Native.Nat.{ℕ, ◌*◌, ◌≤◌, ◌<◌}
use mathlib.Core.Path.{◌≡◌, refl, sym, ap, ◌∙◌}
use mathlib.Core.Bool.{true, false}
use mathlib.Core.List.{List}
use mathlib.Core.Option.{Option, none}
use native.Mathlib.Omega.{arith}
use lib.ListN.{length, drop, replicate, length-drop}
use borrow.Author.Tests.{lt-ltb, le-ltb}
use Rattle.format.specs.Bytes.{Bytes, over}
use Rattle.format.specs.Refusals.{numbers, table, no_room, too_short, refuse_if, ◌>>◌, ◌carrying◌}
use Rattle.format.specs.Message.{Message}
use Rattle.format.specs.Calls.{enough}
use Rattle.format.specs.Layout.{Held, Holds}
use Rattle.format.specs.Lending.{head_lent}
use Rattle.format.specs.Writing.{writes}
use Rattle.format.specs.declared.Numbers.{Numbers}
use Rattle.format.specs.declared.CpimMessage.{CpimMessage}
use Rattle.store_check.specs.Holding.{message_holds}
use Rattle.store_check.specs.Decoding.{message_in}
use Rattle.store_check.proofs.HeldParts.{part_of, held_parts}
use Rattle.store_check.proofs.HeldCases.{in_head, not_held, head_held}
use Rattle.lookup_nth.proofs.NthElement.{headers_params}
use Rattle.lookup_places.specs.Rows.{items_of, rows_of, number_bytes, places_of, Placed}
use Rattle.lookup_places.specs.Fronts.{fronted, rows_in, rows_held}
use Rattle.lookup_places.proofs.Laid.{items_laid, laid_fronted, laid_rows, laid_few, rows_length, items_count}

-- A message k that is held.
module _ (m : CpimMessage) (head : Bytes) (k : Message) (held : Holds (head_lent m head) k) where
  rows_are : rows_held m head ≡ length (items_of k)
  unfolding rows_held
  rows_are =
      let p = held_parts (head_lent m head) k held in
      let params = headers_params k.headers _ _ (record { bytes = part_of 256 m.headerlen head ∙ p.headers_part_lem; entries = p.headers }) in
      omega (arith, p.headers, p.contents, params, items_count k)

  rows_read : rows_in (rows_held m head) 256 (drop 256 head) ≡ rows_of k
  unfolding rows_of
  rows_read = rw rows_are (laid_rows (items_of k) 256 (drop 256 head) (items_laid m head k held))

  rows_many : length (rows_of k) ≡ 4 * rows_held m head
  unfolding rows_of
  rows_many = rw rows_are (rows_length 256 (items_of k))

  rows_few : 16 * rows_held m head ≤ length head
  rows_few = omega (arith, rows_are, laid_few (items_of k) (drop 256 head) (items_laid m head k held), length-drop 256 head)

  rows_fronted : fronted (rows_held m head) (drop 256 head) ≡ true
  rows_fronted = rw rows_are (laid_fronted (items_of k) (drop 256 head) (items_laid m head k held))

-- Where the test says that one is held.
module _ (m : CpimMessage) (head : Bytes) (h : message_holds m head ≡ true) where
  abbrev read : Message
  read = message_in m head (replicate m.bodylen 0)

  pub few : 16 * rows_held m head ≤ length head
  few = rows_few m head read (in_head m head h)

  pub in_store : fronted (rows_held m head) (drop 256 head) ≡ true
  in_store = rows_fronted m head read (in_head m head h)

-- What `Placed` asks of whatever is held.
abbrev Says : List ℕ → List ℕ → Numbers → Option Message → Type 0
Says out written n o = (n ≡ numbers (places_of o (length out))) × (written ≡ writes out (places_of o (length out)))

module _ (m : CpimMessage) (head : Bytes) (out : List ℕ) where
  placed : (written : List ℕ) (n : Numbers) → ((o : Option Message) → Held (head_lent m head) o → Says out written n o)
      → Placed (head_lent m head) out written n
  placed written n f = record { answered = λ o h. (f o h).0; left = λ o h. (f o h).1 }

  pub placed_unheld : message_holds m head ≡ false → Placed (head_lent m head) out out (table (no_room 0))
  unfolding places_of numbers writes
  placed_unheld h = placed out (table (no_room 0)) (not_held m head (Says out out (table (no_room 0))) none h (refl, refl))

  module _ (h : message_holds m head ≡ true) where
    -- 26
    pub placed_full : (n : ℕ) → n ≡ 4 * rows_held m head → length out < n → Placed (head_lent m head) out out (table (too_short (8 * n)))
    unfolding places_of number_bytes enough refuse_if ◌>>◌ numbers writes
    placed_full n e short =
        placed out (table (too_short (8 * n)))
        (head_held m head (Says out out (table (too_short (8 * n)))) h
        (λ k held. rw (rows_many m head k held, sym e, lt-ltb (8 * length out) (8 * n) (omega arith)) (refl, refl)))

    pub placed_rows : (written : List ℕ) → 4 * rows_held m head ≤ length out → written ≡ over (rows_in (rows_held m head) 256 (drop 256 head)) out
        → Placed (head_lent m head) out written (0 carrying 0)
    unfolding places_of number_bytes enough refuse_if ◌>>◌ numbers writes
    placed_rows written room e =
        placed written (0 carrying 0)
        (head_held m head (Says out written (0 carrying 0)) h
        (λ k held.
        let fits : 8 * length (rows_of k) ≤ 8 * length out = omega (arith, rows_many m head k held) in
        rw (le-ltb (8 * length out) (8 * length (rows_of k)) fits) (refl, e ∙ ap (λ (x : List ℕ). over x out) (rows_read m head k held))))
