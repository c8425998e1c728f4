-- Record and head store pass `message_holds` exactly where they hold a message: what they hold passes, and what passes holds the message
-- read from it. Assumes nothing.
use Prim.Native.Nat.{ℕ, ◌+◌, ◌-◌, ◌≤◌}
use mathlib.Core.Path.{◌≡◌, refl, sym, ap, ◌∙◌}
use mathlib.Core.Bool.{true}
use mathlib.Core.List.{[], ◌++◌, append_assoc}
use mathlib.Core.Option.{Option}
use native.Mathlib.Omega.{arith}
use lib.Dec.{eqb}
use lib.ListN.{length, take, drop, replicate, length-drop, take-append-drop}
use lib.Seq.{take_at, drop_at, take-add, drop-drop, length-take-le}
use Rattle.format.specs.Bytes.{Bytes, all, total, texts}
use Rattle.format.specs.Characters.{is_utf8}
use Rattle.format.specs.Limits.{max_headers, max_contents, max_body}
use Rattle.format.specs.Refusals.{passes}
use Rattle.format.specs.Validators.{content_type}
use Rattle.format.specs.Message.{Message, need_entry, need_header, need, valid}
use Rattle.format.specs.Layout.{layout_entry, layout_header, layout, record_of, Lent, BodyAt, Holds}
use Rattle.format.specs.declared.CpimMessage.{CpimMessage}
use Rattle.format.proofs.Rulesets.{tests}
use Rattle.format.proofs.Messages.Layout.{entries_length, headers_length}
use Rattle.format.proofs.Messages.Parts.{message_parts, message_whole}
use Rattle.store_entries.proofs.Zeros.{all_zero, zero_all}
use Rattle.store_entry_check.specs.EntriesHold.{entries_hold, headers_hold}
use Rattle.store_check.specs.Holding.{type_holds, numbers_hold, type_part, headers_part, contents_part, message_holds}
use Rattle.store_entry_check.specs.FromBytes.{entries_from, headers_from}
use Rattle.store_check.specs.Decoding.{message_in}
use Rattle.store_entry_check.specs.declared.kinds.Kind.TheVariants.{Content}
use Rattle.store_entry_check.proofs.EntriesListed.{contents_listed, contents_hold}
use Rattle.store_entry_check.proofs.HeadersListed.{headers_listed, headers_hold_lem}
use Rattle.store_check.proofs.HeldParts.{padded, held_parts}

-- What the numbers say.
pub record Numbered (m : CpimMessage) (store : ℕ) : Type 0 where
  pub start : 256 ≤ store
  pub type_short : m.typelen ≤ 256
  pub used : 256 + m.headerlen + m.contentlen ≤ store
  pub headers : m.headers ≤ max_headers
  pub contents : m.contents ≤ max_contents
  pub body : m.bodylen ≤ max_body

pub numbers_parts : (m : CpimMessage) (store : ℕ) → numbers_hold m store ≡ true → Numbered m store
unfolding numbers_hold
numbers_parts m store h = omega (arith, simp tests at h)

-- the same for the search
pub numbers_start : (m : CpimMessage) (store : ℕ) → numbers_hold m store ≡ true → 256 ≤ store
numbers_start m store h = (numbers_parts m store h).start

pub numbers_type : (m : CpimMessage) (store : ℕ) → numbers_hold m store ≡ true → m.typelen ≤ 256
numbers_type m store h = (numbers_parts m store h).type_short

pub numbers_used : (m : CpimMessage) (store : ℕ) → numbers_hold m store ≡ true → 256 + m.headerlen + m.contentlen ≤ store
numbers_used m store h = (numbers_parts m store h).used

pub ruleset numbered = (numbers_start, numbers_type, numbers_used)

pub parts_numbers : (m : CpimMessage) (store : ℕ) → Numbered m store → numbers_hold m store ≡ true
unfolding numbers_hold
parts_numbers m store n = simp tests (omega arith)

-- the first 256 bytes of a message
type_holds_lem : (t : Bytes) → passes (content_type t) ≡ true → is_utf8 t ≡ true → type_holds (length t) (padded t) ≡ true
unfolding type_holds
type_holds_lem t h u =
    let zeros : Bytes = replicate (256 - length t) 0 in
    rw (take_at t zeros (length t) refl, drop_at t zeros (length t) refl) (simp tests (h, (u, zero_all (256 - length t))))

-- What is held passes.
pub holds_held : (l : Lent) (k : Message) → Holds l k → message_holds l.message l.head ≡ true
unfolding message_holds
holds_held l k h =
    let p = held_parts l k h in
    let w = message_parts k h.within in
    let m = l.message in
    let numbers : numbers_hold m (length l.head) ≡ true =
    parts_numbers m (length l.head)
    (record {
      start = omega (arith, p.room, p.used);
      type_short = omega (arith, p.typelen, p.type_short);
      used = omega (arith, p.room, p.used);
      headers = omega (arith, p.headers, w.headers.few);
      contents = omega (arith, p.contents, w.contents.few);
      body = omega (arith, p.bodylen, w.body);
    }) in
    let type : type_holds m.typelen (type_part l.head) ≡ true =
    ap (type_holds m.typelen) p.type_part_lem ∙ ap (λ (n : ℕ). type_holds n (padded k.type)) p.typelen ∙ type_holds_lem k.type w.type.passed w.type.utf8 in
    let headers : headers_hold m.headers (headers_part m l.head) ≡ true =
    ap (headers_hold m.headers) p.headers_part_lem
    ∙ ap (λ (n : ℕ). headers_hold n (texts layout_header k.headers)) p.headers
    ∙ headers_hold_lem k.headers w.headers.each w.headers.ordered in
    let contents : entries_hold Content m.contents [] (contents_part m l.head) ≡ true =
    ap (entries_hold Content m.contents []) p.contents_part_lem
    ∙ ap (λ (n : ℕ). entries_hold Content n [] (texts layout_entry k.contents)) p.contents
    ∙ contents_hold k.contents w.contents.each w.contents.ordered in
    simp tests (numbers, (type, (headers, contents)))

-- What passes is held.

type_laid : (n : ℕ) (s : Bytes) → length s ≡ 256 → n ≤ 256 → all (eqb 0) (drop n s) ≡ true → s ≡ padded (take n s)
type_laid n s e h z =
    let short : length (take n s) ≡ n = length-take-le n s (omega arith) in
    let left : length (drop n s) ≡ 256 - length (take n s) = omega (arith, length-drop n s) in
    sym (take-append-drop n s) ∙ ap (λ (x : Bytes). take n s ++ x) (all_zero (drop n s) z ∙ ap (λ (k : ℕ). replicate k 0) left)

-- the parts of the head store, one behind another
head_parts : (m : CpimMessage) (head : Bytes)
    → take (256 + (m.headerlen + m.contentlen)) head ≡ type_part head ++ (headers_part m head ++ contents_part m head)
head_parts m head =
    take-add 256 (m.headerlen + m.contentlen) head
    ∙ ap (λ (x : Bytes). type_part head ++ x)
    (take-add m.headerlen m.contentlen (drop 256 head)
    ∙ ap (λ (x : Bytes). headers_part m head ++ take m.contentlen x) (drop-drop m.headerlen 256 head))

-- What passes, part by part.
record Passed (m : CpimMessage) (head : Bytes) : Type 0 where
  numbers : Numbered m (length head)
  type : passes (content_type (take m.typelen (type_part head))) ≡ true
  type_utf8 : is_utf8 (take m.typelen (type_part head)) ≡ true
  zeros : all (eqb 0) (drop m.typelen (type_part head)) ≡ true
  headers : headers_hold m.headers (headers_part m head) ≡ true
  contents : entries_hold Content m.contents [] (contents_part m head) ≡ true

passed : (m : CpimMessage) (head : Bytes) → message_holds m head ≡ true → Passed m head
unfolding message_holds type_holds
passed m head h = search (numbers_parts, simp tests at h)

module _ (m : CpimMessage) (head : Bytes) (p : Passed m head) where
  type_length : length (type_part head) ≡ 256
  type_length = length-take-le 256 head p.numbers.start

  type_name : length (take m.typelen (type_part head)) ≡ m.typelen
  type_name = length-take-le m.typelen (type_part head) (omega (arith, type_length, p.numbers.type_short))

  headers_used : total need_header (headers_from m.headers (headers_part m head)) ≡ m.headerlen
  headers_used =
      sym (headers_length (headers_from m.headers (headers_part m head)))
      ∙ ap length (sym (headers_listed m.headers (headers_part m head) p.headers).bytes)
      ∙ length-take-le m.headerlen (drop 256 head) (simp length-drop (omega (arith, p.numbers.used)))

  contents_used : total need_entry (entries_from m.contents (contents_part m head)) ≡ m.contentlen
  contents_used =
      sym (entries_length (entries_from m.contents (contents_part m head)))
      ∙ ap length (sym (contents_listed m.contents (contents_part m head) p.contents).bytes)
      ∙ length-take-le m.contentlen (drop (256 + m.headerlen) head) (simp length-drop (omega (arith, p.numbers.used)))

  module _ (b : Bytes) (bodied : length b ≡ m.bodylen) where
    read_valid : valid (message_in m head b) ≡ true
    unfolding message_in
    read_valid =
        let n = p.numbers in
        let hs = headers_listed m.headers (headers_part m head) p.headers in
        let cs = contents_listed m.contents (contents_part m head) p.contents in
        message_whole _
        (record {
          headers = record { each = hs.each; ordered = hs.names; few = rw hs.count n.headers };
          type = record { passed = p.type; utf8 = p.type_utf8 };
          contents = record { each = cs.each; ordered = cs.names; few = rw cs.count n.contents };
          body = rw bodied n.body;
        })

    read_record : m ≡ record_of (message_in m head b)
    unfolding record_of message_in
    read_record =
        let hs = headers_listed m.headers (headers_part m head) p.headers in
        let cs = contents_listed m.contents (contents_part m head) p.contents in
        λ i. record {
          typelen = sym type_name i;
          headers = sym hs.count i;
          headerlen = sym headers_used i;
          contents = sym cs.count i;
          contentlen = sym contents_used i;
          bodylen = sym bodied i;
        }

    read_laid : take (need (message_in m head b)) head ≡ layout (message_in m head b)
    unfolding need layout message_in
    read_laid =
        let t = take m.typelen (type_part head) in
        let hs = headers_listed m.headers (headers_part m head) p.headers in
        let cs = contents_listed m.contents (contents_part m head) p.contents in
        rw (headers_used, contents_used)
        (head_parts m head
        ∙ (λ i. type_laid m.typelen (type_part head) type_length p.numbers.type_short p.zeros i ++ (hs.bytes i ++ cs.bytes i))
        ∙ append_assoc t (replicate (256 - length t) 0) (texts layout_header (headers_from m.headers (headers_part m head)) ++ texts layout_entry (entries_from m.contents (contents_part m head))))

pub held_holds : (m : CpimMessage) (head b : Bytes) (body : Option Bytes) → message_holds m head ≡ true → length b ≡ m.bodylen → BodyAt body b
    → Holds (record { message = m; head = head; body = body }) (message_in m head b)
unfolding message_in
held_holds m head b body h bodied at =
    let p = passed m head h in
    record {
      within = read_valid m head p b bodied;
      recorded = read_record m head p b bodied;
      laid = read_laid m head p b bodied;
      stored = at;
    }
