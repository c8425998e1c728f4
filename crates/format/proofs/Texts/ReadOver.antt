-- What the lines of T do to the message that is read, line by line and all together: a header line adds one header, a content line sets the
-- type or one content header, and neither adds more than the entry had. Each follows from what an accepted line answers, by induction over
-- the lines. Assumes nothing.
use Rattle.std.specs.Prelude.{if◌then◌else◌}
use Prim.Native.Nat.{ℕ, suc, ◌+◌, ◌≤◌}
use mathlib.Core.Path.{◌≡◌, refl, sym, ap, ◌∙◌}
use mathlib.Core.Bool.{Bool, true, false, ◌&&◌}
use mathlib.Core.Logic.{⊎_elim}
use mathlib.Core.List.{List, [], ◌∷◌, ◌++◌, map}
use native.Mathlib.Omega.{arith}
use lib.Dec.{ltb}
use borrow.Author.Tests.{not-true, ltb-true, ltb-false}
use Rattle.format.specs.Bytes.{is_empty, Bytes, ascii, colon, all, total, texts, has, up_to, past}
use Rattle.format.specs.Characters.{is_white, trim, clear_ends}
use Rattle.format.specs.Escaping.{value_text}
use Rattle.format.specs.Refusals.{Out, accepted, ◌>>=◌}
use Rattle.format.specs.Validators.{content_type}
use Rattle.format.specs.Message.{Entry, entry, Header, name_of, Message, insert, put, need_entry, valid_header, valid_content}
use Rattle.format.specs.Calls.{Stores, with_headers, with_contents, append}
use Rattle.format.specs.Reading.{each, blank, read_line, read_header_line, read_type, read_named, read_content_line}
use Rattle.format.specs.Writing.{param_text, header_line, content_line, type_line}
use Rattle.format.specs.Demand3.{not_type, clear_content}
use Rattle.format.proofs.Lists.{bcase, clash, and_left, and_right, all_head, all_tail}
use Rattle.format.proofs.Characters.Trim.{trim_clear}
use Rattle.format.proofs.Steps.{accepted_same, then_accepted, bind_accepted, each_keeps}
use Rattle.format.proofs.Messages.Accepted.{append_accepted, add_content_header_accepted}
use Rattle.format.proofs.Messages.Keyed.{total_insert, total_put}
use Rattle.format.proofs.Texts.Measure.{total_full, kept_entry, sets_type, kept_need}
use Rattle.format.proofs.Texts.ReadLine.{read_content_line_lem, read_type_line}

-- Steps over the texts of elements are steps over the elements.
pub each_map : {A L B : Type 0} (run : L → B → Out B) (f : A → L) (xs : List A) (b : B) → each run (map f xs) b ≡ each (λ x. run (f x)) xs b
unfolding each
each_map run f [] b = refl
each_map run f (x ∷ xs) b = λ i. ◌>>=◌ (run (f x) b) (λ c. each_map run f xs c i)

-- Where every accepted step adds to a size at most a number of its element, the whole adds at most their sum.
module _ {A B : Type 0} (size : B → ℕ) (adds : A → ℕ) (Q : A → Bool) (run : A → B → Out B)
    (step : (x : A) (b c : B) → Q x ≡ true → run x b ≡ accepted c → size c ≤ size b + adds x) where
  pub each_total : (xs : List A) (b c : B) → all Q xs ≡ true → each run xs b ≡ accepted c → size c ≤ size b + total adds xs
  unfolding each total
  each_total [] b c h e = omega (arith, ap size (accepted_same b c e))
  each_total (x ∷ xs) b c h e =
      let k = bind_accepted (run x b) (each run xs) c e in
      omega (arith, step x b k.0 (all_head Q x xs h) k.1, each_total xs k.0 c (all_tail Q x xs h) k.2)

-- an accepted type is set
pub type_gives : (v : Bytes) (a c : Message) → read_type v a ≡ accepted c
    → c ≡ record { headers = a.headers; type = v; contents = a.contents; body = a.body }
unfolding read_type
type_gives v a c e =
    let k : Message = record { headers = a.headers; type = v; contents = a.contents; body = a.body } in
    sym (accepted_same k c (then_accepted (content_type v) (accepted k) c e).0)

-- no header line of T is empty
header_filled : (n s : Bytes) → is_empty (n ++ (ascii ":" ++ s)) ≡ false
unfolding is_empty
header_filled [] s = refl
header_filled (b ∷ n) s = refl

header_line_filled : (h : Header) → is_empty (header_line h) ≡ false
unfolding header_line
header_line_filled h = header_filled h.name (texts param_text h.params ++ (ascii " " ++ value_text h.value))

-- The header lines of T, by any reader of a header line.
module _ (reader : Bytes → Out Header) where
  -- an accepted line of the header section: skipped where it is empty, else it adds a header
  pub empty_skipped : (st : Stores) (a c : Message) → read_header_line reader st [] a ≡ accepted c → c ≡ a
  unfolding read_header_line is_empty
  empty_skipped st a c e = sym (accepted_same a c e)

  pub header_added_lem : (st : Stores) (l : Bytes) (a c : Message) → is_empty l ≡ false → read_header_line reader st l a ≡ accepted c
      → (h : Header) × (reader l ≡ accepted h) × (c ≡ with_headers a (insert name_of h a.headers))
  unfolding read_header_line read_line
  header_added_lem st l a c n e =
      let k = bind_accepted (reader l) (λ h. append h st a) c (rw n at e) in
      (k.0, k.1, (append_accepted k.0 st a c k.2).0)

  abbrev header_step : Stores → Header → Message → Out Message
  header_step st h a = read_header_line reader st (header_line h) a

  -- they set no content header
  header_contents_step : (es : List Entry) (st : Stores) (h : Header) (a c : Message) → valid_header h ≡ true → a.contents ≡ es → header_step st h a ≡ accepted c
      → c.contents ≡ es
  header_contents_step es st h a c v p e = rw (header_added_lem st (header_line h) a c (header_line_filled h) e).2 p

  pub header_contents : (st : Stores) (hs : List Header) (a c : Message) → all valid_header hs ≡ true
      → each (read_header_line reader st) (map header_line hs) a ≡ accepted c → c.contents ≡ a.contents
  header_contents st hs a c v e =
      each_keeps (λ b. b.contents ≡ a.contents) valid_header (header_step st) (header_contents_step a.contents st) hs a c v refl
      (sym (each_map (read_header_line reader st) header_line hs a) ∙ e)

  -- What is read of a header's line is never larger than the header, and as large only where it meets a clause: so, if the headers read are
  -- the headers written, all of them meet the clause. Sizes are counted from 1, so that a header of size 0 can fail it.
  module _ (Q clause : Header → Bool) (size : Header → ℕ)
      (sized : (h k : Header) → Q h ≡ true → reader (header_line h) ≡ accepted k → (size k ≤ size h) × (size k ≡ size h → clause h ≡ true)) where
    abbrev counted : Header → ℕ
    counted h = suc (size h)

    -- what a header that is read adds at most
    adds : Header → ℕ
    adds h = if clause h then counted h else size h

    adds_below : (h : Header) → adds h ≤ counted h
    unfolding adds
    adds_below h = ⊎_elim (λ e. rw e (omega arith)) (λ e. rw e (omega arith)) (bcase (clause h))

    adds_full : (h : Header) → adds h ≡ counted h → clause h ≡ true
    unfolding adds
    adds_full h e = ⊎_elim (λ q. q) (λ q. absurd (omega (arith, rw q at e))) (bcase (clause h))

    read_adds : (h k : Header) → Q h ≡ true → reader (header_line h) ≡ accepted k → counted k ≤ adds h
    unfolding adds
    read_adds h k q e = ⊎_elim (λ c. rw c (omega (arith, (sized h k q e).0))) (λ c. rw c (smaller c)) (bcase (clause h))
      where
        smaller : clause h ≡ false → counted k ≤ size h
        smaller c =
            ⊎_elim (λ t. omega (arith, ltb-true (size k) (size h) t))
            (λ t. clash ((sized h k q e).1 (omega (arith, (sized h k q e).0, ltb-false (size k) (size h) t))) c)
            (bcase (ltb (size k) (size h)))

    size_step : (st : Stores) (h : Header) (a c : Message) → Q h ≡ true → header_step st h a ≡ accepted c
        → total counted c.headers ≤ total counted a.headers + adds h
    size_step st h a c q e =
        let k = header_added_lem st (header_line h) a c (header_line_filled h) e in
        rw k.2 (omega (arith, total_insert name_of counted k.0 a.headers, read_adds h k.0 q k.1))

    pub clause_met : (st : Stores) (hs : List Header) (a : Message) → all Q hs ≡ true → each (read_header_line reader st) (map header_line hs) blank ≡ accepted a
        → hs ≡ a.headers → all clause hs ≡ true
    unfolding total
    clause_met st hs a q e s =
        let n = each_total (λ b. total counted b.headers) adds Q (header_step st) (size_step st) hs blank a q
        (sym (each_map (read_header_line reader st) header_line hs blank) ∙ e) in
        total_full adds counted adds_below clause adds_full hs (omega (arith, n, ap (total counted) s))

-- The content lines of T.
abbrev content_step : Stores → Entry → Message → Out Message
content_step st e a = read_content_line st (content_line e) a

-- an accepted one sets the type or one content header
named_typed : (n v : Bytes) (st : Stores) (a c : Message) → sets_type n ≡ true → read_named n v st a ≡ accepted c
    → c ≡ record { headers = a.headers; type = v; contents = a.contents; body = a.body }
unfolding read_named
named_typed n v st a c h e = type_gives v a c (rw h at e)

named_other : (n v : Bytes) (st : Stores) (a c : Message) → sets_type n ≡ false → read_named n v st a ≡ accepted c
    → c ≡ with_contents a (put (entry n v) a.contents)
unfolding read_named
named_other n v st a c h e = (add_content_header_accepted n v st a c (rw h at e)).0

content_need_step : (st : Stores) (e : Entry) (a c : Message) → valid_content e ≡ true → content_step st e a ≡ accepted c
    → total need_entry c.contents ≤ total need_entry a.contents + kept_need e
unfolding kept_need
content_need_step st e a c v k = ⊎_elim typed other (bcase (sets_type n))
  where
    n : Bytes
    n = trim e.name

    r : read_named n (trim e.value) st a ≡ accepted c
    r = sym (read_content_line_lem e st a v) ∙ k

    typed : sets_type n ≡ true → total need_entry c.contents ≤ total need_entry a.contents + (if sets_type n then 0 else need_entry (kept_entry e))
    typed h = rw (h, named_typed n (trim e.value) st a c h r) (omega arith)

    other : sets_type n ≡ false → total need_entry c.contents ≤ total need_entry a.contents + (if sets_type n then 0 else need_entry (kept_entry e))
    other h = rw (h, named_other n (trim e.value) st a c h r) (omega (arith, total_put (kept_entry e) a.contents))

pub contents_need : (st : Stores) (es : List Entry) (a c : Message) → all valid_content es ≡ true → each (read_content_line st) (map content_line es) a ≡ accepted c
    → total need_entry c.contents ≤ total need_entry a.contents + total kept_need es
contents_need st es a c v e =
    each_total (λ b. total need_entry b.contents) kept_need valid_content (content_step st) (content_need_step st) es a c v
    (sym (each_map (read_content_line st) content_line es a) ∙ e)

-- a content header that is no Content-type and has no white space around its name leaves the type
content_type_step : (t : Bytes) (st : Stores) (e : Entry) (a c : Message) → (valid_content e && (not_type e && clear_content e)) ≡ true
    → a.type ≡ t → content_step st e a ≡ accepted c → c.type ≡ t
unfolding not_type clear_content
content_type_step t st e a c v p k =
    let w = and_right (valid_content e) (not_type e && clear_content e) v in
    let clear = and_left (clear_ends is_white e.name) (clear_ends is_white e.value) (and_right (not_type e) (clear_content e) w) in
    let n : sets_type (trim e.name) ≡ false = ap sets_type (trim_clear is_white e.name clear) ∙ not-true (sets_type e.name) (and_left (not_type e) (clear_content e) w) in
    let r = sym (read_content_line_lem e st a (and_left (valid_content e) (not_type e && clear_content e) v)) ∙ k in
    rw (named_other (trim e.name) (trim e.value) st a c n r) p

pub contents_type : (st : Stores) (es : List Entry) (a c : Message) → all (λ e. valid_content e && (not_type e && clear_content e)) es ≡ true
    → each (read_content_line st) (map content_line es) a ≡ accepted c → c.type ≡ a.type
contents_type st es a c v e =
    each_keeps (λ b. b.type ≡ a.type) (λ e. valid_content e && (not_type e && clear_content e)) (content_step st) (content_type_step a.type st) es a c v refl
    (sym (each_map (read_content_line st) content_line es a) ∙ e)

-- the type line sets the type
pub type_line_gives : (st : Stores) (t : Bytes) (a c : Message) → read_content_line st (type_line t) a ≡ accepted c
    → c ≡ record { headers = a.headers; type = trim t; contents = a.contents; body = a.body }
type_line_gives st t a c e = type_gives (trim t) a c (sym (read_type_line t st a) ∙ e)

-- Any lines of the content section leave the headers.
content_headers_step : (st : Stores) (l : Bytes) (a c : Message) → read_content_line st l a ≡ accepted c → c.headers ≡ a.headers
unfolding read_content_line
content_headers_step st l a c e = ⊎_elim there none (bcase (has colon l))
  where
    n : Bytes
    n = trim (up_to colon l)

    v : Bytes
    v = trim (past colon l)

    there : has colon l ≡ true → c.headers ≡ a.headers
    there h =
        let r : read_named n v st a ≡ accepted c = rw h at e in
        ⊎_elim (λ k. rw (named_typed n v st a c k r) refl) (λ k. rw (named_other n v st a c k r) refl) (bcase (sets_type n))

    none : has colon l ≡ false → c.headers ≡ a.headers
    none h = sym (ap (λ (m : Message). m.headers) (accepted_same a c (rw h at e)))

pub content_headers : (st : Stores) (ls : List Bytes) (a c : Message) → each (read_content_line st) ls a ≡ accepted c → c.headers ≡ a.headers
unfolding each
content_headers st [] a c e = sym (ap (λ (m : Message). m.headers) (accepted_same a c e))
content_headers st (l ∷ ls) a c e =
    let k = bind_accepted (read_content_line st l a) (each (read_content_line st) ls) c e in
    content_headers st ls k.0 c k.2 ∙ content_headers_step st l a k.0 k.1
