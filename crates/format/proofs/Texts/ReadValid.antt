-- What reading accepts is within limits and validators and fits the stores; calls keep what fits. Every piece of a UTF-8 text that is
-- read is UTF-8, and every other test was made. Assumes nothing.
use Prim.Native.Nat.{ℕ, suc, ◌≤◌}
use mathlib.Core.Path.{◌≡◌, refl, ap}
use mathlib.Core.Bool.{true}
use mathlib.Core.Logic.{⊎_elim}
use mathlib.Core.List.{List, [], ◌∷◌}
use mathlib.Core.Option.{Option, none, some}
use native.Mathlib.Omega.{arith}
use lib.ListN.{length}
use Rattle.format.specs.Bytes.{is_empty, Bytes, ascii, all, any, colon, semicolon, equals, crlf_text, crlf_crlf_text, occurs, has, up_to, past, same_letters, Pieces, pieces, split}
use Rattle.format.specs.Characters.{is_utf8, is_ascii_control, is_white, trim}
use Rattle.format.specs.Escaping.{unescape_by}
use Rattle.format.specs.Refusals.{bad_escape, too_few_sections, Out, accepted, passes, refuse_if, at_most, ◌>>◌}
use Rattle.format.specs.Validators.{header_value, content_type, utf8}
use Rattle.format.specs.Message.{Entry, Header, Message, ascending, increasing, need, valid_header, valid}
use Rattle.format.specs.Calls.{Stores}
use Rattle.format.specs.Reading.{each, separator, sections, line_end, lines, read_param, checked_value, read_value, read_name_and_value, read_header, read_type, read_named, read_content_line, blank, read_line, read_header_line, Parts, parts_of, text_parts, read_parts, read_with}
use Rattle.format.specs.declared.Manner.{Manner}
use Rattle.format.specs.declared.Manner.TheVariants.{Source}
use Rattle.format.proofs.Lists.{bcase, all_head, all_tail}
use Rattle.format.proofs.Characters.Chars.{utf8_ascii_text}
use Rattle.format.proofs.Splitting.SplitUtf8.{split_utf8, up_to_utf8, past_utf8}
use Rattle.format.proofs.Characters.Trim.{trim_utf8}
use Rattle.format.proofs.Escaping.Unescape.{unescape_utf8}
use Rattle.format.proofs.Steps.{accepted_same, refused_accepted, then_accepted, bind_accepted, if_accepted, each_keeps}
use Rattle.format.proofs.Messages.Accepted.{room_passes, utf8_passes, set_body_accepted, append_accepted, add_content_header_accepted}
use Rattle.format.proofs.Messages.Parts.{Params, Within, header_parts, header_whole_lem, message_whole}
use Rattle.format.proofs.Messages.Valid.{no_params, set_param_within, set_body_within, append_within, add_content_header_within}

-- The pieces that a text is read in.

pub sections_utf8 : (t : Bytes) → is_utf8 t ≡ true → all is_utf8 (sections t) ≡ true
unfolding sections separator all
sections_utf8 t u =
    ⊎_elim (λ e. rw e (split_utf8 _ _ t refl u)) (λ e. rw e (split_utf8 _ _ t refl u)) (bcase (occurs crlf_crlf_text t))

pub lines_utf8 : (s : Bytes) → is_utf8 s ≡ true → all is_utf8 (lines s) ≡ true
unfolding lines line_end all
lines_utf8 s u = ⊎_elim (λ e. rw e (split_utf8 _ _ s refl u)) (λ e. rw e (split_utf8 _ _ s refl u)) (bcase (occurs crlf_text s))

-- what stands before and behind the first c, trimmed
front_utf8 : (c : ℕ) (l : Bytes) → suc c ≤ 128 → is_utf8 l ≡ true → is_utf8 (trim (up_to c l)) ≡ true
front_utf8 c l h u = trim_utf8 is_white (up_to c l) (up_to_utf8 c l h u)

back_utf8 : (c : ℕ) (l : Bytes) → suc c ≤ 128 → is_utf8 l ≡ true → is_utf8 (trim (past c l)) ≡ true
back_utf8 c l h u = trim_utf8 is_white (past c l) (past_utf8 c l h u)

-- A header line.

read_param_within : (part : Bytes) (ps qs : List Entry) → is_utf8 part ≡ true → Params ps → read_param part ps ≡ accepted qs → Params qs
unfolding read_param
read_param_within part ps qs u w h =
    if_accepted (has equals part) _ _ qs
    (λ e k. set_param_within _ _ ps qs (front_utf8 equals part (omega arith) u) (back_utf8 equals part (omega arith) u) w k)
    (λ e k. rw (accepted_same ps qs k) at w)
    h

checked_value_within : (o : Option Bytes) (v : Bytes) → checked_value o ≡ accepted v → (o ≡ some v) × (passes (header_value v) ≡ true)
unfolding checked_value
checked_value_within none v h = refused_accepted bad_escape v h
checked_value_within (some w) v h =
    let a = then_accepted _ _ _ h in
    let e = accepted_same w v a.0 in
    (ap some e, rw e at a.1)

-- by either manner
pub value_within : (r : Manner) (s v : Bytes) → is_utf8 s ≡ true → checked_value (unescape_by r s) ≡ accepted v → (is_utf8 v ≡ true) × (passes (header_value v) ≡ true)
value_within r s v u h =
    let a = checked_value_within (unescape_by r s) v h in
    (unescape_utf8 r s v u a.0, a.1)

read_parts_valid : (left : Pieces) (right : Bytes) (h : Header) → all is_utf8 (pieces left) ≡ true → is_utf8 right ≡ true
    → read_name_and_value left right ≡ accepted h → valid_header h ≡ true
unfolding read_name_and_value read_value
read_parts_valid left right h u x e =
    let a = then_accepted _ _ _ e in
    let b = bind_accepted _ _ _ a.0 in
    let c = bind_accepted _ _ _ b.2 in
    let v = value_within Source (trim right) c.0 (trim_utf8 is_white right x) c.1 in
    let ps = each_keeps Params is_utf8 read_param read_param_within left.rest [] b.0 (all_tail is_utf8 left.first left.rest u) no_params b.1 in
    rw (← accepted_same _ h c.2)
    (header_whole_lem _
    (record {
      named = a.1;
      name_utf8 = trim_utf8 is_white left.first (all_head is_utf8 left.first left.rest u);
      rest = record { valued = v.1; value_utf8 = v.0; params = ps };
    }))

pub read_header_valid : (l : Bytes) (h : Header) → is_utf8 l ≡ true → read_header l ≡ accepted h → valid_header h ≡ true
unfolding read_header all
read_header_valid l h u e =
    let a = then_accepted _ _ _ e in
    read_parts_valid (split (semicolon ∷ []) (up_to colon l)) (past colon l) h
    (split_utf8 semicolon [] (up_to colon l) refl (up_to_utf8 colon l (omega arith) u))
    (past_utf8 colon l (omega arith) u)
    a.0

-- A message within limits that fits a head store of a length.
record Fits (store : ℕ) (m : Message) : Type 0 where
  within : Within m
  roomy : need m ≤ store

-- the type that reading starts with, by computation
blank_type : passes (content_type (ascii "text/plain")) ≡ true
unfolding content_type passes refuse_if at_most ◌>>◌ is_empty any is_ascii_control
blank_type = refl

blank_within : Within blank
unfolding all ascending increasing
blank_within =
    record {
      headers = record { each = refl; ordered = refl; few = omega arith };
      type = record { passed = blank_type; utf8 = utf8_ascii_text (ascii "text/plain") refl };
      contents = record { each = refl; ordered = refl; few = omega arith };
      body = omega arith;
    }

-- a type does not count in the need
read_type_fits : (store : ℕ) (v : Bytes) (m k : Message) → is_utf8 v ≡ true → Fits store m → read_type v m ≡ accepted k → Fits store k
unfolding read_type need
read_type_fits store v m k u f h =
    let a = then_accepted _ _ _ h in
    let w = f.within in
    rw (← accepted_same _ k a.0)
    (record {
      within = record { headers = w.headers; type = record { passed = a.1; utf8 = u }; contents = w.contents; body = w.body };
      roomy = f.roomy;
    })

read_named_fits : (n v : Bytes) (st : Stores) (m k : Message) → is_utf8 n ≡ true → is_utf8 v ≡ true → Fits st.head m
    → read_named n v st m ≡ accepted k → Fits st.head k
unfolding read_named
read_named_fits n v st m k u x f h =
    if_accepted (same_letters (ascii "Content-type") n) _ _ k
    (λ e g. read_type_fits st.head v m k x f g)
    (λ e g. record { within = add_content_header_within st m k f.within n v u x g; roomy = (add_content_header_accepted n v st m k g).4 })
    h

read_content_line_fits : (st : Stores) (l : Bytes) (m k : Message) → is_utf8 l ≡ true → Fits st.head m → read_content_line st l m ≡ accepted k
    → Fits st.head k
unfolding read_content_line
read_content_line_fits st l m k u f h =
    if_accepted (has colon l) _ _ k
    (λ e g. read_named_fits _ _ st m k (front_utf8 colon l (omega arith) u) (back_utf8 colon l (omega arith) u) f g)
    (λ e g. rw (accepted_same m k g) at f)
    h

-- the parts of a UTF-8 text are UTF-8
parts_of_utf8 : (ss : List Bytes) (p : Parts) → all is_utf8 ss ≡ true → parts_of ss ≡ accepted p → (is_utf8 p.headers ≡ true) × (is_utf8 p.contents ≡ true)
unfolding parts_of
parts_of_utf8 [] p u h = refused_accepted too_few_sections p h
parts_of_utf8 (a ∷ []) p u h = refused_accepted too_few_sections p h
parts_of_utf8 (a ∷ b ∷ []) p u h = refused_accepted too_few_sections p h
parts_of_utf8 (a ∷ b ∷ c ∷ []) p u h = refused_accepted too_few_sections p h
parts_of_utf8 (a ∷ b ∷ c ∷ d ∷ rest) p u h =
    let u1 = all_tail is_utf8 a (b ∷ c ∷ d ∷ rest) u in
    let u2 = all_tail is_utf8 b (c ∷ d ∷ rest) u1 in
    let e = accepted_same _ p h in
    rw (← e) (all_head is_utf8 b (c ∷ d ∷ rest) u1, all_head is_utf8 c (d ∷ rest) u2)

text_parts_utf8 : (t : Bytes) (p : Parts) → text_parts t ≡ accepted p → (is_utf8 p.headers ≡ true) × (is_utf8 p.contents ≡ true)
unfolding text_parts
text_parts_utf8 t p h =
    let h1 = then_accepted _ _ _ h in
    let h2 = then_accepted _ _ _ h1.0 in
    parts_of_utf8 (sections t) p (sections_utf8 t (utf8_passes t h2.1)) h2.0

-- Above the reader of a header line: any reader that gives headers within limits.
module _ (r : Bytes → Out Header) (good : (l : Bytes) (h : Header) → is_utf8 l ≡ true → r l ≡ accepted h → valid_header h ≡ true) where
  read_line_fits : (st : Stores) (l : Bytes) (m k : Message) → is_utf8 l ≡ true → Fits st.head m → read_line r st l m ≡ accepted k → Fits st.head k
  unfolding read_line
  read_line_fits st l m k u f h =
      let a = bind_accepted _ _ _ h in
      record {
        within = append_within st m k f.within a.0 (header_parts a.0 (good l a.0 u a.1)) a.2;
        roomy = (append_accepted a.0 st m k a.2).2;
      }

  read_header_line_fits : (st : Stores) (l : Bytes) (m k : Message) → is_utf8 l ≡ true → Fits st.head m → read_header_line r st l m ≡ accepted k
      → Fits st.head k
  unfolding read_header_line
  read_header_line_fits st l m k u f h =
      if_accepted (is_empty l) _ _ k (λ e g. rw (accepted_same m k g) at f) (λ e g. read_line_fits st l m k u f g) h

  read_parts_fits : (p : Parts) (st : Stores) (m : Message) → is_utf8 p.headers ≡ true → is_utf8 p.contents ≡ true
      → read_parts r p st ≡ accepted m → (Fits st.head m) × (length m.body ≤ st.body)
  unfolding read_parts need
  read_parts_fits p st m u x h =
      let h1 = then_accepted _ _ _ h in
      let h2 = then_accepted _ _ _ h1.0 in
      let h3 = bind_accepted _ _ _ h2.0 in
      let h4 = bind_accepted _ _ _ h3.2 in
      let f : Fits st.head blank = record { within = blank_within; roomy = room_passes st.head (need blank) h2.1 } in
      let g = each_keeps (Fits st.head) is_utf8 (read_header_line r st) (read_header_line_fits st) (lines p.headers) blank h3.0 (lines_utf8 p.headers u) f h3.1 in
      let k =
      each_keeps (Fits st.head) is_utf8 (read_content_line st) (read_content_line_fits st) (lines p.contents) h3.0 h4.0 (lines_utf8 p.contents x) g
      h4.1
      in
      let b = set_body_accepted p.body st h4.0 m h4.2 in
      let w = set_body_within st h4.0 m k.within p.body h4.2 in
      (record { within = w; roomy = rw b.0 k.roomy }, rw b.0 b.2)

  read_with_fits : (t : Bytes) (st : Stores) (m : Message) → read_with r t st ≡ accepted m → (Fits st.head m) × (length m.body ≤ st.body)
  unfolding read_with
  read_with_fits t st m h =
      let a = bind_accepted _ _ _ h in
      let u = text_parts_utf8 t a.0 a.1 in
      read_parts_fits a.0 st m u.0 u.1 a.2

  pub read_with_valid : (t : Bytes) (st : Stores) (m : Message) → read_with r t st ≡ accepted m → valid m ≡ true
  read_with_valid t st m h = message_whole m (read_with_fits t st m h).0.within

  pub read_with_room : (t : Bytes) (st : Stores) (m : Message) → read_with r t st ≡ accepted m → (need m ≤ st.head) × (length m.body ≤ st.body)
  read_with_room t st m h =
      let f = read_with_fits t st m h in
      (f.0.roomy, f.1)
