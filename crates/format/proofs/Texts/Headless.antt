-- The text of a message without a header: its second section begins with an empty line and goes on with the type line, so
-- what is read of it, if anything, has a header. Assumes nothing.
use Prim.Native.Nat.{ℕ}
use mathlib.Core.Path.{◌≡◌, refl, sym, ap, ◌∙◌}
use mathlib.Core.Bool.{true, false}
use mathlib.Core.Logic.{⊎_elim}
use mathlib.Core.List.{List, [], ◌∷◌, ◌++◌}
use lib.ListN.{drop}
use Rattle.format.specs.Bytes.{is_empty, Bytes, cr, lf, lf_text, crlf_text, crlf_crlf_text, any, texts, before, begins, split}
use Rattle.format.specs.Characters.{replaced}
use Rattle.format.specs.Refusals.{too_few_sections, Out, accepted}
use Rattle.format.specs.Message.{Header, name_of, Message, insert}
use Rattle.format.specs.Calls.{Stores}
use Rattle.format.specs.Reading.{each, separator, sections, line_end, lines, blank, read_header_line, Parts, parts_of, text_parts, read_parts, read_with}
use Rattle.format.specs.Writing.{content_line, type_line, first_line, ended, write}
use Rattle.format.specs.Demand3.{has_header}
use Rattle.format.proofs.Lists.{bcase}
use Rattle.format.proofs.Splitting.Split.{split_other, split_at, split_line, occurs_at}
use Rattle.format.proofs.Steps.{refused_accepted, accepted_same, then_accepted, bind_accepted}
use Rattle.format.proofs.Messages.Accepted.{set_body_accepted}
use Rattle.format.proofs.Texts.ReadOver.{empty_skipped, header_added_lem, content_headers}

-- `C`, the first byte of the type line
abbrev letter : ℕ
letter = 67

-- the sections of a text whose first line has two empty lines behind it, then the letter
headless_sections : (u : Bytes) → sections (first_line ++ (crlf_crlf_text ++ (crlf_text ++ (letter ∷ u))))
    ≡ first_line ∷ (crlf_text ++ (letter ∷ (split crlf_crlf_text u).first)) ∷ (split crlf_crlf_text u).rest
unfolding sections separator begins any
headless_sections u =
    let t = crlf_text ++ (letter ∷ u) in
    rw (
      occurs_at cr (lf ∷ crlf_text) first_line t,
      split_line cr (lf ∷ crlf_text) first_line t refl,
      split_other crlf_crlf_text cr (lf ∷ letter ∷ u) refl,
      split_other crlf_crlf_text lf (letter ∷ u) refl,
      split_other crlf_crlf_text letter u refl,
    ) refl

headless_lines : (s : Bytes) → lines (crlf_text ++ (letter ∷ s)) ≡ [] ∷ (letter ∷ (split crlf_text s).first) ∷ (split crlf_text s).rest
unfolding lines line_end begins
headless_lines s = rw (occurs_at cr lf_text [] (letter ∷ s), split_at cr lf_text (letter ∷ s), split_other crlf_text letter s refl) refl

-- T of a message without a header
headless_write : (m : Message) → m.headers ≡ [] → (u : Bytes) × (write m ≡ first_line ++ (crlf_crlf_text ++ (crlf_text ++ (letter ∷ u))))
unfolding write type_line texts
headless_write m e =
    let r = ended (type_line m.type) ++ (texts (λ e. ended (content_line e)) m.contents ++ (crlf_text ++ replaced m.body)) in
    (drop 1 r, rw e refl)

-- a header inserted is there
insert_has : (h : Header) (hs : List Header) → has_header (insert name_of h hs) ≡ true
unfolding insert has_header is_empty
insert_has h [] = refl
insert_has h (k ∷ hs) = ⊎_elim (λ e. rw e refl) (λ e. rw e refl) (bcase (before h.name k.name))

second : (a b : Bytes) (rest : List Bytes) (p : Parts) → parts_of (a ∷ b ∷ rest) ≡ accepted p → p.headers ≡ b
unfolding parts_of
second a b [] p e = refused_accepted too_few_sections p e
second a b (c ∷ []) p e = refused_accepted too_few_sections p e
second a b (c ∷ d ∷ rest) p e = ap (λ (x : Parts). x.headers) (sym (accepted_same _ p e))

-- By any reader of a header line.
module _ (reader : Bytes → Out Header) where
  -- an accepted line that is not empty leaves a header, and one that is there stays
  line_has : (st : Stores) (l : Bytes) (a c : Message) → is_empty l ≡ false → read_header_line reader st l a ≡ accepted c → has_header c.headers ≡ true
  line_has st l a c n e =
      let k = header_added_lem reader st l a c n e in
      rw k.2 (insert_has k.0 a.headers)

  has_step : (st : Stores) (l : Bytes) (a c : Message) → has_header a.headers ≡ true → read_header_line reader st l a ≡ accepted c → has_header c.headers ≡ true
  unfolding is_empty
  has_step st [] a c p e = rw (empty_skipped reader st a c e) p
  has_step st (b ∷ l) a c p e = line_has st (b ∷ l) a c refl e

  has_kept : (st : Stores) (ls : List Bytes) (a c : Message) → has_header a.headers ≡ true → each (read_header_line reader st) ls a ≡ accepted c
      → has_header c.headers ≡ true
  unfolding each
  has_kept st [] a c p e = rw (accepted_same a c e) at p
  has_kept st (l ∷ ls) a c p e =
      let k = bind_accepted (read_header_line reader st l a) (each (read_header_line reader st) ls) c e in
      has_kept st ls k.0 c (has_step st l a k.0 p k.1) k.2

  has_read : (st : Stores) (l : Bytes) (ls : List Bytes) (a c : Message) → each (read_header_line reader st) ([] ∷ (letter ∷ l) ∷ ls) a ≡ accepted c
      → has_header c.headers ≡ true
  unfolding each is_empty
  has_read st l ls a c e =
      let j = bind_accepted (read_header_line reader st [] a) (each (read_header_line reader st) ((letter ∷ l) ∷ ls)) c e in
      let k = bind_accepted (read_header_line reader st (letter ∷ l) j.0) (each (read_header_line reader st) ls) c j.2 in
      has_kept st ls k.0 c (line_has st (letter ∷ l) j.0 k.0 refl k.1) k.2

  -- neither the content section nor the body takes a header away
  parts_has : (p : Parts) (s : Bytes) (st : Stores) (k : Message) → p.headers ≡ crlf_text ++ (letter ∷ s) → read_parts reader p st ≡ accepted k
      → has_header k.headers ≡ true
  unfolding read_parts
  parts_has p s st k q e =
      let h1 = then_accepted _ _ _ e in
      let h2 = then_accepted _ _ _ h1.0 in
      let h3 = bind_accepted _ _ _ h2.0 in
      let h4 = bind_accepted _ _ _ h3.2 in
      let ls = sym (ap (λ (x : List Bytes). each (read_header_line reader st) x blank) (ap lines q ∙ headless_lines s)) ∙ h3.1 in
      let h = has_read st (split crlf_text s).first (split crlf_text s).rest blank h3.0 ls in
      rw ((set_body_accepted p.body st h4.0 k h4.2).0, content_headers st (lines p.contents) h3.0 h4.0 h4.1) h

  -- What is read of the text of a message without a header has one.
  pub headless_read : (m k : Message) (st : Stores) → m.headers ≡ [] → read_with reader (write m) st ≡ accepted k → has_header k.headers ≡ true
  unfolding read_with text_parts
  headless_read m k st n e =
      let a = bind_accepted _ _ _ e in
      let h1 = then_accepted _ _ _ a.1 in
      let h2 = then_accepted _ _ _ h1.0 in
      let w = headless_write m n in
      let s = sym (ap parts_of (ap sections w.1 ∙ headless_sections w.0)) ∙ h2.0 in
      parts_has a.0 (split crlf_crlf_text w.0).first st k (second first_line _ _ a.0 s) a.2
