-- Items laid out one behind another, a header's parameters among them: a message's are, in the head store that holds it (`items_laid`).
-- So their rows are the ones that are read from the store, and the bytes where a row says are name and value (`rows_there`).
-- Assumes nothing.
use Prim.Native.Nat.{ℕ, zero, suc, ◌+◌, ◌*◌, ◌≤◌}
use mathlib.Core.Path.{◌≡◌, refl, sym, ap, ◌∙◌, subst}
use mathlib.Core.Bool.{true}
use mathlib.Core.List.{List, [], ◌∷◌, ◌++◌, map, append_assoc, append-nil}
use mathlib.Core.Option.{Option, none, some}
use native.Mathlib.Omega.{arith}
use lib.ListN.{length, take, drop, length-append, length-drop, length-map, take-append-drop}
use lib.Seq.{drop_at, drop-drop, drop-append-add}
use Rattle.format.specs.Bytes.{Bytes, total, texts}
use Rattle.format.specs.Message.{Entry, Header, Message}
use Rattle.format.specs.Layout.{fixed, entry_bytes, layout_entry, layout_header, Holds}
use Rattle.format.specs.Lending.{head_lent}
use Rattle.format.specs.LookingUp.{nth}
use Rattle.format.specs.declared.CpimMessage.{CpimMessage}
use Rattle.format.proofs.Rulesets.{tests}
use Rattle.store_entries.specs.Stored.{Stored, stored_bytes, stored_size, stored_entry, stored_header, name_length, value_length, param_count, name_in, value_in, stored_in}
use Rattle.store_entries.proofs.EntryRead.{name_length_lem, value_length_lem, size_length, read_name, read_value_lem, read_stored, read_shape}
use Rattle.store_entries.proofs.Layouts.{entry_bytes_lem, header_bytes}
use Rattle.store_check.proofs.HeldParts.{HeldParts, held_parts}
use Rattle.lookup_places.specs.Rows.{Item, entry_item, header_items, items_of, item_size, row_of, rows_from, rows_of}
use Rattle.lookup_places.specs.Fronts.{front_in, fronted, rows_in}

-- s begins with the numbers, the name and the value of x
pub record Begins (x : Item) (s : Bytes) : Type 0 where
  pub name_number : name_length s ≡ length x.name
  pub value_number : value_length s ≡ length x.value
  pub params_number : param_count s ≡ x.params
  pub within : item_size x ≤ length s
  pub name_part : take (length x.name) (drop 16 s) ≡ x.name
  pub value_part_lem : take (length x.value) (drop (16 + length x.name) s) ≡ x.value

-- and the items stand one behind another
abbrev pub Laid : List Item → Bytes → Type 0
Laid [] s = Unit {0}
Laid (x ∷ xs) s = Begins x s × Laid xs (drop (item_size x) s)

-- An entry as it is stored: its item, and the bytes of its parameters behind it.
abbrev pub item_in : Stored → Item
item_in e = record { name = e.name; value = e.value; params = e.params }

module _ (e : Stored) (rest : Bytes) where
  abbrev here : Bytes
  here = stored_bytes e ++ rest

  begun_name : name_length here ≡ length e.name
  begun_name = sym (name_length_lem here (read_shape e rest)) ∙ ap length (read_name e rest)

  begun_value : value_length here ≡ length e.value
  begun_value = sym (value_length_lem here (read_shape e rest)) ∙ ap length (read_value_lem e rest)

  pub begins : Begins (item_in e) here
  unfolding item_size name_in value_in stored_in stored_size
  begins =
      record {
        name_number = begun_name;
        value_number = begun_value;
        params_number = ap (λ x. x.params) (read_stored e rest);
        within = omega (arith, length-append (stored_bytes e) rest, size_length e rest);
        name_part = ap (λ (n : ℕ). take n (drop 16 here)) (sym begun_name) ∙ read_name e rest;
        value_part_lem = (λ i. take (sym begun_value i) (drop (16 + sym begun_name i) here)) ∙ read_value_lem e rest;
      }

  fixed_length : (n v k t : ℕ) → length (fixed n v k t) ≡ 16
  unfolding fixed
  fixed_length n v k t = refl

  behind : drop (item_size (item_in e)) here ≡ e.tail ++ rest
  unfolding stored_bytes entry_bytes item_size
  behind =
      let numbers = fixed (length e.name) (length e.value) e.params (length e.tail) in
      let front = numbers ++ (e.name ++ e.value) in
      let parted : here ≡ front ++ (e.tail ++ rest) = simp append_assoc in
      ap (drop (16 + (length e.name + length e.value))) parted
      ∙ drop_at front (e.tail ++ rest) (16 + (length e.name + length e.value))
      (simp length-append (omega (arith, fixed_length (length e.name) (length e.value) e.params (length e.tail))))

  laid_first : (xs : List Item) → Laid xs (e.tail ++ rest) → Laid (item_in e ∷ xs) here
  laid_first xs l = (begins, subst (Laid xs) (sym behind) l)

laid_entries : (es : List Entry) (xs : List Item) (rest : Bytes) → Laid xs rest → Laid (map entry_item es ++ xs) (texts layout_entry es ++ rest)
unfolding texts stored_entry
laid_entries [] xs rest l = l
laid_entries (e ∷ es) xs rest l =
    rw (append_assoc (layout_entry e) (texts layout_entry es) rest, entry_bytes_lem e)
    (laid_first (stored_entry e) (texts layout_entry es ++ rest) (map entry_item es ++ xs) (laid_entries es xs rest l))

laid_headers : (hs : List Header) (xs : List Item) (rest : Bytes) → Laid xs rest → Laid (header_items hs ++ xs) (texts layout_header hs ++ rest)
unfolding texts stored_header header_items
laid_headers [] xs rest l = l
laid_headers (h ∷ hs) xs rest l =
    rw (
      append_assoc (layout_header h) (texts layout_header hs) rest,
      header_bytes h,
      append_assoc (map entry_item h.params) (header_items hs) xs,
    )
    (laid_first (stored_header h) (texts layout_header hs ++ rest) (map entry_item h.params ++ (header_items hs ++ xs))
    (laid_entries h.params (header_items hs ++ xs) (texts layout_header hs ++ rest) (laid_headers hs xs rest l)))

-- A message's items, in the head store that holds it.
pub items_laid : (m : CpimMessage) (head : Bytes) (k : Message) → Holds (head_lent m head) k → Laid (items_of k) (drop 256 head)
unfolding items_of
items_laid m head k held =
    let p : HeldParts (head_lent m head) k = held_parts (head_lent m head) k held in
    let hs = texts layout_header k.headers in
    let cs = texts layout_entry k.contents in
    let rest = drop m.contentlen (drop (256 + m.headerlen) head) in
    let back : drop m.headerlen (drop 256 head) ≡ cs ++ rest =
    drop-drop m.headerlen 256 head ∙ sym (take-append-drop m.contentlen (drop (256 + m.headerlen) head)) ∙ ap (λ (x : Bytes). x ++ rest) p.contents_part_lem in
    let whole : drop 256 head ≡ hs ++ (cs ++ rest) =
    sym (take-append-drop m.headerlen (drop 256 head)) ∙ (λ i. p.headers_part_lem i ++ back i) in
    let contents : Laid (map entry_item k.contents) (cs ++ rest) =
    subst (λ (xs : List Item). Laid xs (cs ++ rest)) (append-nil (map entry_item k.contents)) (laid_entries k.contents [] rest tt) in
    rw whole (laid_headers k.headers (map entry_item k.contents) (cs ++ rest) contents)

-- The rows read from the store.
front_size : (x : Item) (s : Bytes) → Begins x s → front_in s ≡ item_size x
unfolding front_in item_size
front_size x s b = rw (b.name_number, b.value_number) refl

pub laid_fronted : (xs : List Item) (s : Bytes) → Laid xs s → fronted (length xs) s ≡ true
unfolding fronted
laid_fronted [] s l = refl
laid_fronted (x ∷ xs) s l =
    rw (front_size x s l.0) (simp tests (l.0.within, laid_fronted xs (drop (item_size x) s) l.1))

pub laid_rows : (xs : List Item) (at : ℕ) (s : Bytes) → Laid xs s → rows_in (length xs) at s ≡ rows_from at xs
unfolding rows_in rows_from
laid_rows [] at s l = refl
laid_rows (x ∷ xs) at s l =
    let b = l.0 in
    rw (front_size x s b, b.name_number, b.value_number, b.params_number, laid_rows xs (at + item_size x) (drop (item_size x) s) l.1) refl

-- The n-th row, and the bytes where it says.
pub record RowThere (rows : List ℕ) (s : Bytes) (n : ℕ) (x : Item) : Type 0 where
  pub start : ℕ
  pub row : take 4 (drop (4 * n) rows) ≡ start ∷ length x.name ∷ length x.value ∷ x.params ∷ []
  pub within : start + (length x.name + length x.value) ≤ length s
  pub name : take (length x.name) (drop start s) ≡ x.name
  pub value : take (length x.value) (drop (start + length x.name) s) ≡ x.value

abbrev pub ThereIf : List ℕ → Bytes → ℕ → Option Item → Type 0
ThereIf rows s n none = Unit {0}
ThereIf rows s n (some x) = RowThere rows s n x

pub rows_there : (n at : ℕ) (xs : List Item) (s : Bytes) → at ≤ length s → Laid xs (drop at s) → ThereIf (rows_from at xs) s n (nth n xs)
unfolding nth rows_from item_size
rows_there n at [] s h l = tt
rows_there zero at (x ∷ xs) s h l =
    let b = l.0 in
    record {
      start = at + 16;
      row = refl;
      within = omega (arith, b.within, length-drop at s);
      name = ap (take (length x.name)) (sym (drop-drop 16 at s)) ∙ b.name_part;
      value =
          let e : at + (16 + length x.name) ≡ at + 16 + length x.name = omega arith in
          ap (λ (k : ℕ). take (length x.value) (drop k s)) (sym e) ∙ ap (take (length x.value)) (sym (drop-drop (16 + length x.name) at s)) ∙ b.value_part_lem;
    }
rows_there (suc n) at (x ∷ xs) s h l =
    let next = at + (16 + (length x.name + length x.value)) in
    let rest = rows_from next xs in
    let e : 4 * suc n ≡ 4 + 4 * n = omega arith in
    let same : drop (4 * n) rest ≡ drop (4 * suc n) (row_of at x ++ rest) =
    sym (ap (λ (k : ℕ). drop k (row_of at x ++ rest)) e ∙ drop-append-add (row_of at x) rest (4 * n)) in
    by rest (row_of at x ++ rest) (nth n xs) same (rows_there n next xs s (omega (arith, l.0.within, length-drop at s)) (subst (Laid xs) (drop-drop (16 + (length x.name + length x.value)) at s) l.1))
  where
    by : (rows more : List ℕ) (o : Option Item) → drop (4 * n) rows ≡ drop (4 * suc n) more → ThereIf rows s n o → ThereIf more s (suc n) o
    by rows more none e t = tt
    by rows more (some y) e t =
        record {
          start = t.start;
          row = ap (take 4) (sym e) ∙ t.row;
          within = t.within;
          name = t.name;
          value = t.value;
        }

-- the n-th row of a message held
pub row_there : (m : CpimMessage) (head : Bytes) (k : Message) → Holds (head_lent m head) k → (n : ℕ) → ThereIf (rows_of k) head n (nth n (items_of k))
unfolding rows_of
row_there m head k held n =
    let p = held_parts (head_lent m head) k held in
    rows_there n 256 (items_of k) head (omega (arith, p.used, p.room)) (items_laid m head k held)

-- How many there are.
pub rows_length : (at : ℕ) (xs : List Item) → length (rows_from at xs) ≡ 4 * length xs
unfolding rows_from
rows_length at [] = refl
rows_length at (x ∷ xs) = omega (arith, rows_length (at + item_size x) xs)

pub laid_few : (xs : List Item) (s : Bytes) → Laid xs s → 16 * length xs ≤ length s
unfolding item_size
laid_few [] s l = omega arith
laid_few (x ∷ xs) s l =
    omega (arith, laid_few xs (drop (item_size x) s) l.1, l.0.within, length-drop (item_size x) s)

item_count : (hs : List Header) → length (header_items hs) ≡ length hs + total (λ h. length h.params) hs
unfolding header_items total
item_count [] = refl
item_count (h ∷ hs) = simp (length-append, length-map) (omega (arith, item_count hs))

pub items_count : (k : Message) → length (items_of k) ≡ length k.headers + total (λ h. length h.params) k.headers + length k.contents
unfolding items_of
items_count k = simp (length-append, length-map) (omega (arith, item_count k.headers))
