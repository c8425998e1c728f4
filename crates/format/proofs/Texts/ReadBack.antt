-- Lines that read back: each gives its entry as it was, each entry goes to the end of the list read so far because the lists are in
-- order, and counts and needs of what is read stay below those of the whole. Assumes nothing.
use Prim.Native.Nat.{ℕ, suc, ◌+◌, ◌≤◌}
use mathlib.Core.Path.{◌≡◌, refl, sym, ◌∙◌}
use mathlib.Core.Bool.{Bool, true, false, not}
use mathlib.Core.List.{List, [], ◌∷◌, ◌++◌, map, append_assoc, append-nil}
use native.Mathlib.Omega.{arith}
use lib.Dec.{ltb}
use lib.ListN.{length, length-append}
use borrow.Author.Tests.{not-true, le-ltb}
use Rattle.format.specs.Bytes.{is_empty, Bytes, ascii, all, total, before, same_letters}
use Rattle.format.specs.Characters.{is_white, clear_ends}
use Rattle.format.specs.Limits.{max_body, max_headers, max_contents}
use Rattle.format.specs.Refusals.{too_many_headers, too_many_contents, body_too_long, no_room, too_short, Out, accepted, refuse_if, at_most}
use Rattle.format.specs.Validators.{header_name, content_value, content_type}
use Rattle.format.specs.Message.{Entry, entry_name, Header, name_of, Message, ascending, increasing, valid_header, valid_content, valid_type, need_entry, need_header, need}
use Rattle.format.specs.Calls.{Stores, room, body_length, header_count, content_count, if_room, append, content_header_added, body_set}
use Rattle.format.specs.Calls as Calls
use Rattle.format.specs.Writing.{header_line, content_line, type_line}
use Rattle.format.specs.Reading.{each, read_type, read_named, read_content_line, read_line, read_header_line}
use Rattle.format.specs.Demand3.{not_type, clear_content}
use Rattle.format.proofs.Lists.{and_left, and_right, all_head, all_tail, total_append}
use Rattle.format.proofs.Splitting.Lines.{line}
use Rattle.format.proofs.Texts.Last.{insert_last, ascending_last, increasing_last, put_last}
use Rattle.format.proofs.Characters.Trim.{trim_clear}
use Rattle.format.proofs.Steps.{then_passed, bind_passed, refuse_if_passed, at_most_passed}
use Rattle.format.proofs.Messages.Parts.{content_parts, type_parts}
use Rattle.format.proofs.Texts.WriteText.{header_line_is}
use Rattle.format.proofs.Texts.ReadLine.{read_content_line_lem, read_type_line}

-- One entry.

line_filled : (l : Bytes) → line l ≡ true → is_empty l ≡ false
unfolding line is_empty
line_filled [] h = sym h
line_filled (b ∷ l) h = refl

pub room_enough : (store : ℕ) (m : Message) → need m ≤ store → if_room store m ≡ accepted m
unfolding if_room room
room_enough store m h = then_passed (refuse_if (ltb store (need m)) (no_room (need m))) (accepted m) (refuse_if_passed (ltb store (need m)) (no_room (need m)) (le-ltb store (need m) h))

-- a message by its parts
abbrev pub parts : List Header → Bytes → List Entry → Bytes → Message
parts hs t es b = record { headers = hs; type = t; contents = es; body = b }

-- a header goes to the end
append_last : (st : Stores) (hs : List Header) (h : Header) (t b : Bytes) → all (λ x. not (before h.name x.name)) hs ≡ true
    → suc (length hs) ≤ 50 → need (parts (hs ++ (h ∷ [])) t [] b) ≤ st.head → append h st (parts hs t [] b) ≡ accepted (parts (hs ++ (h ∷ [])) t [] b)
unfolding append header_count
append_last st hs h t b o c r =
    then_passed (at_most max_headers too_many_headers (length hs + 1)) _ (at_most_passed max_headers too_many_headers (length hs + 1) (omega arith))
    ∙ rw (insert_last name_of h hs o) (room_enough st.head (parts (hs ++ (h ∷ [])) t [] b) r)

-- a content header goes to the end
set_last : (st : Stores) (hs : List Header) (es : List Entry) (e : Entry) (t b : Bytes) → valid_content e ≡ true → all (λ x. before x.name e.name) es ≡ true
    → suc (length es) ≤ 20 → need (parts hs t (es ++ (e ∷ [])) b) ≤ st.head
    → content_header_added e.name e.value st (parts hs t es b) ≡ accepted (parts hs t (es ++ (e ∷ [])) b)
unfolding content_header_added content_count
set_last st hs es e t b v o c r =
    let w = content_parts e v in
    then_passed (header_name e.name) _ w.named
    ∙ then_passed (content_value e.value) _ w.valued
    ∙ then_passed (at_most max_contents too_many_contents (length es + 1)) _ (at_most_passed max_contents too_many_contents (length es + 1) (omega arith))
    ∙ rw (put_last e es o) (room_enough st.head (parts hs t (es ++ (e ∷ [])) b) r)

-- Lists of lines.

-- The header lines, by any reader of a header line that gives back the headers that pass a test.
module _ (reader : Bytes → Out Header) (ok : Header → Bool)
    (back : (h : Header) → valid_header h ≡ true → ok h ≡ true → reader (header_line h) ≡ accepted h) where
  header_step_lem : (st : Stores) (hs : List Header) (h : Header) (t b : Bytes) → line (header_line h) ≡ true → reader (header_line h) ≡ accepted h
      → append h st (parts hs t [] b) ≡ accepted (parts (hs ++ (h ∷ [])) t [] b)
      → read_header_line reader st (header_line h) (parts hs t [] b) ≡ accepted (parts (hs ++ (h ∷ [])) t [] b)
  unfolding read_header_line read_line
  header_step_lem st hs h t b l r a =
      rw (line_filled (header_line h) l) (bind_passed (reader (header_line h)) (λ k. append k st (parts hs t [] b)) h r ∙ a)

  pub headers_back : (st : Stores) (hs ks : List Header) (t b : Bytes) → all valid_header ks ≡ true → all ok ks ≡ true
      → ascending name_of (hs ++ ks) ≡ true → length (hs ++ ks) ≤ 50 → 256 + total need_header (hs ++ ks) ≤ st.head
      → each (read_header_line reader st) (map header_line ks) (parts hs t [] b) ≡ accepted (parts (hs ++ ks) t [] b)
  unfolding each total need
  headers_back st hs [] t b v p o l r = rw (append-nil hs) refl
  headers_back st hs (k ∷ ks) t b v p o l r =
      let e = append_assoc hs (k ∷ []) ks in
      let v1 = all_head valid_header k ks v in
      let room : need (parts (hs ++ (k ∷ [])) t [] b) ≤ st.head = omega (arith, total_append need_header hs (k ∷ []), total_append need_header hs (k ∷ ks)) in
      let last = append_last st hs k t b (ascending_last name_of hs k ks o) (omega (arith, length-append hs (k ∷ ks))) room in
      let ih = headers_back st (hs ++ (k ∷ [])) ks t b (all_tail valid_header k ks v) (all_tail ok k ks p) (rw e o) (rw e l) (rw e r) in
      bind_passed (read_header_line reader st (header_line k) (parts hs t [] b)) _ (parts (hs ++ (k ∷ [])) t [] b)
      (header_step_lem st hs k t b (header_line_is k v1) (back k v1 (all_head ok k ks p)) last)
      ∙ ih
      ∙ rw e refl

content_step_lem : (st : Stores) (m k : Message) (e : Entry) → valid_content e ≡ true → not_type e ≡ true → clear_content e ≡ true
    → content_header_added e.name e.value st m ≡ accepted k → read_content_line st (content_line e) m ≡ accepted k
unfolding not_type clear_content read_named
content_step_lem st m k e v n c a =
    let x = clear_ends is_white e.name in
    let y = clear_ends is_white e.value in
    read_content_line_lem e st m v
    ∙ rw (
      trim_clear is_white e.name (and_left x y c),
      trim_clear is_white e.value (and_right x y c),
      not-true (same_letters (ascii "Content-type") e.name) n,
    ) a

pub contents_back : (st : Stores) (hs : List Header) (es ks : List Entry) (t b : Bytes) → all valid_content ks ≡ true → all not_type ks ≡ true → all clear_content ks ≡ true
    → increasing entry_name (es ++ ks) ≡ true → length (es ++ ks) ≤ 20 → 256 + (total need_header hs + total need_entry (es ++ ks)) ≤ st.head
    → each (read_content_line st) (map content_line ks) (parts hs t es b) ≡ accepted (parts hs t (es ++ ks) b)
unfolding each total need
contents_back st hs es [] t b v n c o l r = rw (append-nil es) refl
contents_back st hs es (k ∷ ks) t b v n c o l r =
    let e = append_assoc es (k ∷ []) ks in
    let v1 = all_head valid_content k ks v in
    let room : need (parts hs t (es ++ (k ∷ [])) b) ≤ st.head = omega (arith, total_append need_entry es (k ∷ []), total_append need_entry es (k ∷ ks)) in
    let last = set_last st hs es k t b v1 (increasing_last entry_name es k ks o) (omega (arith, length-append es (k ∷ ks))) room in
    let step = content_step_lem st (parts hs t es b) (parts hs t (es ++ (k ∷ [])) b) k v1 (all_head not_type k ks n) (all_head clear_content k ks c) last in
    let ih =
    contents_back st hs (es ++ (k ∷ [])) ks t b (all_tail valid_content k ks v) (all_tail not_type k ks n) (all_tail clear_content k ks c)
    (rw e o) (rw e l) (rw e r)
    in
    bind_passed (read_content_line st (content_line k) (parts hs t es b)) _ (parts hs t (es ++ (k ∷ [])) b) step ∙ ih ∙ rw e refl

pub type_step : (st : Stores) (m : Message) (t : Bytes) → valid_type t ≡ true → clear_ends is_white t ≡ true
    → read_content_line st (type_line t) m ≡ accepted (parts m.headers t m.contents m.body)
unfolding read_type
type_step st m t v c = read_type_line t st m ∙ rw (trim_clear is_white t c) (then_passed (content_type t) _ (type_parts t v).passed)

pub body_back : (st : Stores) (m : Message) (b : Bytes) → length b ≤ 10485760 → length b ≤ st.body
    → body_set b st m ≡ accepted (parts m.headers m.type m.contents b)
unfolding body_set body_length Calls.enough
body_back st m b l r =
    then_passed (at_most max_body body_too_long (length b)) _ (at_most_passed max_body body_too_long (length b) l)
    ∙ then_passed (refuse_if (ltb st.body (length b)) (too_short (length b))) _ (refuse_if_passed (ltb st.body (length b)) (too_short (length b)) (le-ltb st.body (length b) r))
