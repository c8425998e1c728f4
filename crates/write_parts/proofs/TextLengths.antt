-- How long the parts of a text are, by what the store says of them. Assumes nothing.
use Rattle.std.specs.Prelude.{if◌then◌else◌}
use Prim.Native.Nat.{ℕ, zero, suc, ◌+◌, ◌*◌, ◌≤◌, ◌<◌}
use mathlib.Core.Path.{◌≡◌, sym, ap, ◌∙◌}
use mathlib.Core.Bool.{Bool, true, false}
use mathlib.Core.List.{List, [], ◌∷◌, ◌++◌}
use native.Mathlib.Omega.{arith}
use lib.ListN.{length, take, drop, length-append, length-drop}
use lib.Seq.{length-take-le}
use Rattle.format.specs.Bytes.{Bytes, ascii, crlf_text, texts}
use Rattle.format.specs.Characters.{trailing, well_formed, replacement, or_replaced, replaced}
use Rattle.format.specs.Escaping.{value_text}
use Rattle.format.specs.Message.{Entry, Header, Message, need_entry}
use Rattle.format.specs.Layout.{layout_entry}
use Rattle.format.specs.Writing.{param_text, header_line, content_line, type_line, ended, write}
use Rattle.format.proofs.Messages.Layout.{layout_entry_length}
use Rattle.format.proofs.Characters.Chars.{trailing_le, chars_cons}
use Rattle.utf8.proofs.Replacing.{replaced_nil}
use Rattle.format.proofs.Messages.Checked.{value_checked}
use Rattle.store_entries.specs.Stored.{Stored, name_length, param_count, tail_length, value_in, stored_in, shaped}
use Rattle.store_entries.proofs.EntryShape.{shape}
use Rattle.store_entries.proofs.EntryRead.{name_length_lem, tail_length_lem}
use Rattle.store_entry_check.specs.Kinds.{value_check}
use Rattle.store_entry_check.specs.EntriesHold.{fits, entries_hold, tail_holds}
use Rattle.store_entry_check.specs.FromBytes.{entries_from, header_from}
use Rattle.store_entry_check.specs.declared.kinds.Kind.TheVariants as kind
use Rattle.store_entry_check.proofs.EntriesListed.{fits_parts, params_listed, contents_listed}

-- a parameter, and a content header's line
param_length : (e : Entry) → length (param_text e) + 14 ≡ length (layout_entry e)
unfolding param_text need_entry
param_length e = omega (arith, length-append e.name (ascii "=" ++ e.value), layout_entry_length e)

content_length : (e : Entry) → length (ended (content_line e)) + 12 ≡ length (layout_entry e)
unfolding content_line need_entry
content_length e =
    omega (arith, length-append (e.name ++ (ascii ": " ++ e.value)) crlf_text, length-append e.name (ascii ": " ++ e.value), layout_entry_length e)

-- many, each so much shorter than it is stored
saved : (text : Entry → Bytes) (k : ℕ) → ((e : Entry) → length (text e) + k ≡ length (layout_entry e))
    → (es : List Entry) → length (texts text es) + k * length es ≡ length (texts layout_entry es)
unfolding texts
saved text k each [] = omega arith
saved text k each (e ∷ es) =
    let t = length-append (text e) (texts text es) in
    let l = length-append (layout_entry e) (texts layout_entry es) in
    sums (length es) (length (text e)) (length (texts text es)) (length (layout_entry e)) (length (texts layout_entry es)) (each e) (saved text k each es) t l
  where
    sums : (n a b c d : ℕ) {x y : ℕ} → a + k ≡ c → b + k * n ≡ d → x ≡ a + b → y ≡ c + d → x + k * suc n ≡ y
    sums n a b c d p q u v = omega arith

-- the parameters of a header, and content headers, as they are stored
pub params_length : (e : Stored) → tail_holds e ≡ true → length (texts param_text (header_from e).params) + 14 * e.params ≡ length e.tail
unfolding tail_holds header_from
params_length e h =
    let l = params_listed e.params e.tail h in
    let es = entries_from e.params e.tail in
    ap (λ (n : ℕ). length (texts param_text es) + 14 * n) (sym l.count) ∙ saved param_text 14 param_length es ∙ ap length (sym l.bytes)

pub contents_length : (n : ℕ) (s : Bytes) → entries_hold kind.Content n [] s ≡ true → length (texts (λ e. ended (content_line e)) (entries_from n s)) + 12 * n ≡ length s
contents_length n s h =
    let l = contents_listed n s h in
    let es = entries_from n s in
    ap (λ (i : ℕ). length (texts (λ e. ended (content_line e)) es) + 12 * i) (sym l.count)
    ∙ saved (λ e. ended (content_line e)) 12 content_length es
    ∙ ap length (sym l.bytes)

-- a header's line
pub header_length : (h : Header)
    → length (ended (header_line h)) ≡ length h.name + length (texts param_text h.params) + length (value_text h.value) + 4
unfolding header_line
header_length h =
    let ps = texts param_text h.params in
    let v = value_text h.value in
    omega (
      arith,
      length-append (h.name ++ (ascii ":" ++ (ps ++ (ascii " " ++ v)))) crlf_text,
      length-append h.name (ascii ":" ++ (ps ++ (ascii " " ++ v))),
      length-append ps (ascii " " ++ v),
    )

-- The header that s begins with.
module _ (s : Bytes) (h : shaped s ≡ true) where
  pub params_at : tail_holds (stored_in s) ≡ true → length (texts param_text (header_from (stored_in s)).params) + 14 * param_count s ≡ tail_length s
  unfolding stored_in
  params_at t = params_length (stored_in s) t ∙ tail_length_lem s (shape s h)

  pub value_short : fits kind.Header (stored_in s) ≡ true → length (value_in s) ≤ 1024
  unfolding stored_in value_check
  value_short f = value_checked (value_in s) (fits_parts kind.Header (stored_in s) f).valued

  pub header_at : (n p v : ℕ) → n ≡ name_length s → p ≡ length (texts param_text (header_from (stored_in s)).params) → v ≡ length (value_text (value_in s))
      → n + p + v + 4 ≡ length (ended (header_line (header_from (stored_in s))))
  unfolding stored_in header_from
  header_at n p v a b c = omega (arith, header_length (header_from (stored_in s)), name_length_lem s (shape s h))

-- at most three bytes are written for one of a body
wide : (g : Bytes) → 0 < length g → length (or_replaced g) ≤ 3 * length g
wide g h = go (well_formed g)
  where
    go : (b : Bool) → length (if b then g else replacement) ≤ 3 * length g
    go true = omega arith
    go false = omega arith

-- the first character or ill-formed subpart of a text, and what is behind it
replaced_cons : (b : ℕ) (t : Bytes) → replaced (b ∷ t) ≡ or_replaced (b ∷ take (trailing b t) t) ++ replaced (drop (trailing b t) t)
unfolding replaced texts
replaced_cons b t = ap (texts or_replaced) (chars_cons b t)

-- (The count n is a device of the recursion.)
widest : (n : ℕ) (s : Bytes) → length s ≤ n → length (replaced s) ≤ 3 * length s
widest zero [] h = rw replaced_nil (omega arith)
widest zero (b ∷ t) h = absurd (omega arith)
widest (suc n) [] h = rw replaced_nil (omega arith)
widest (suc n) (b ∷ t) h =
    let k = trailing b t in
    let g = b ∷ take k t in
    let rest = widest n (drop k t) (omega (arith, length-drop k t)) in
    let first = wide g (omega arith) in
    omega (
      arith,
      ap length (replaced_cons b t) ∙ length-append (or_replaced g) (replaced (drop k t)),
      first,
      length-take-le k t (trailing_le b t),
      length-drop k t,
      trailing_le b t,
      rest,
    )

pub replaced_length : (s : Bytes) → length (replaced s) ≤ 3 * length s
replaced_length s = widest (length s) s (omega arith)

-- the whole
pub write_length : (m : Message) → length (write m)
    ≡ 50 + length m.type + length (texts (λ h. ended (header_line h)) m.headers) + length (texts (λ e. ended (content_line e)) m.contents) + length (replaced m.body)
unfolding write type_line
write_length m =
    let hs = texts (λ h. ended (header_line h)) m.headers in
    let es = texts (λ e. ended (content_line e)) m.contents in
    let t = ended (type_line m.type) in
    let b = replaced m.body in
    omega (
      arith,
      length-append hs (crlf_text ++ (t ++ (es ++ (crlf_text ++ b)))),
      length-append t (es ++ (crlf_text ++ b)),
      length-append m.type crlf_text,
      length-append es (crlf_text ++ b),
    )
