-- The `if` of both readings: T of a message that meets the condition is within the limit of reading, and reads back as that message where
-- there is room for it. The lines are read back in ReadBack.antt. Assumes nothing.
use Prim.Native.Nat.{◌+◌, ◌*◌, ◌≤◌}
use mathlib.Core.Path.{◌≡◌, refl, sym, ap, ◌∙◌}
use mathlib.Core.Bool.{Bool, true, false≢true}
use mathlib.Core.List.{List, [], ◌∷◌, ◌++◌, map}
use native.Mathlib.Omega.{arith}
use lib.Dec.{ltb}
use lib.ListN.{length, length-append}
use borrow.Author.Tests.{le-ltb}
use Rattle.format.specs.Bytes.{is_empty, Bytes, ascii, crlf_text, all, total, texts}
use Rattle.format.specs.Characters.{is_utf8, is_white, clear_ends, replaced}
use Rattle.format.specs.Limits.{max_text}
use Rattle.format.specs.Refusals.{text_too_long, no_room, Out, accepted, refuse_if, at_most, ◌>>◌, ◌>>=◌}
use Rattle.format.specs.Validators.{param_name, param_value}
use Rattle.format.specs.Message.{Entry, Header, Message, valid_param, valid_header, valid_content, valid, need}
use Rattle.format.specs.Calls.{Stores, room, body_set}
use Rattle.format.specs.Calls as Calls
use Rattle.format.specs.Writing.{param_text, header_line, content_line, type_line, first_line, ended, write}
use Rattle.format.specs.Reading.{each, blank, read_content_line, read_header_line, read_with}
use Rattle.format.specs.Demand3.{has_header, not_type, clear_content, RoomFor}
use Rattle.format.proofs.Lists.{all_head, all_tail}
use Rattle.format.proofs.Characters.Replaced.{replaced_same}
use Rattle.format.proofs.Escaping.ValueText.{value_length_lem}
use Rattle.format.proofs.Steps.{then_passed, bind_passed, refuse_if_passed, at_most_passed}
use Rattle.format.proofs.Rulesets.{checks}
use Rattle.format.proofs.Messages.Checked.{name_checked, type_checked, content_checked, value_checked}
use Rattle.format.proofs.Messages.Parts.{type_whole, Within, param_parts, header_parts, content_parts, message_parts}
use Rattle.format.proofs.Texts.WriteText.{read_written}
use Rattle.format.proofs.Texts.ReadBack.{parts, headers_back, contents_back, type_step, body_back}

-- Lengths.

param_length : (e : Entry) → valid_param e ≡ true → length (param_text e) ≤ 322
unfolding param_text param_name param_value
param_length e v =
    let w = param_parts e v in
    let a = (simp checks at w.named).1.0 in
    let b = (simp checks at w.valued).0 in
    simp length-append (omega arith)

params_length : (es : List Entry) → all valid_param es ≡ true → length (texts param_text es) ≤ 322 * length es
unfolding texts
params_length [] v = omega arith
params_length (e ∷ es) v =
    rw (length-append (param_text e) (texts param_text es))
    (omega (arith, param_length e (all_head valid_param e es v), params_length es (all_tail valid_param e es v)))

header_line_length : (h : Header) → valid_header h ≡ true → length (ended (header_line h)) ≤ 9496
unfolding header_line
header_line_length h v =
    let w = header_parts h v in
    let a = (name_checked h.name w.named).short in
    let b = value_checked h.value w.rest.valued in
    let p = w.rest.params in
    simp length-append (omega (arith, value_length_lem h.value, params_length h.params p.each, p.few))

content_line_length : (e : Entry) → valid_content e ≡ true → length (ended (content_line e)) ≤ 1156
unfolding content_line
content_line_length e v =
    let w = content_parts e v in
    let a = (name_checked e.name w.named).short in
    let b = (content_checked e.value w.valued).short in
    simp length-append (omega arith)

headers_length : (hs : List Header) → all valid_header hs ≡ true → length (texts (λ h. ended (header_line h)) hs) ≤ 9496 * length hs
unfolding texts
headers_length [] v = omega arith
headers_length (h ∷ hs) v =
    rw (length-append (ended (header_line h)) (texts (λ h. ended (header_line h)) hs))
    (omega (arith, header_line_length h (all_head valid_header h hs v), headers_length hs (all_tail valid_header h hs v)))

contents_length : (es : List Entry) → all valid_content es ≡ true → length (texts (λ e. ended (content_line e)) es) ≤ 1156 * length es
unfolding texts
contents_length [] v = omega arith
contents_length (e ∷ es) v =
    rw (length-append (ended (content_line e)) (texts (λ e. ended (content_line e)) es))
    (omega (arith, content_line_length e (all_head valid_content e es v), contents_length es (all_tail valid_content e es v)))

type_line_length : (t : Bytes) → length (ended (type_line t)) ≡ 16 + length t
unfolding type_line
type_line_length t = omega (arith, length-append t crlf_text)

text_length : (a b c d : Bytes)
    → length (ended first_line ++ (crlf_text ++ (a ++ (crlf_text ++ (b ++ (c ++ (crlf_text ++ d))))))) ≡ 34 + (length a + (length b + (length c + length d)))
text_length a b c d =
    omega (arith, length-append a (crlf_text ++ (b ++ (c ++ (crlf_text ++ d)))), length-append b (c ++ (crlf_text ++ d)), length-append c (crlf_text ++ d))

pub write_length : (m : Message) → valid m ≡ true → is_utf8 m.body ≡ true → length (write m) ≤ 20971520
unfolding write
write_length m v u =
    let w = message_parts m v in
    let t = (type_checked m.type w.type.passed).short in
    let hs = headers_length m.headers w.headers.each in
    let es = contents_length m.contents w.contents.each in
    rw (
      replaced_same m.body u,
      text_length (texts (λ h. ended (header_line h)) m.headers) (ended (type_line m.type)) (texts (λ e. ended (content_line e)) m.contents) m.body,
      type_line_length m.type,
    ) (omega arith)

-- The condition by its clauses; of each header it asks a test.
pub record Meets (ok : Header → Bool) (m : Message) : Type 0 where
  pub has_header_lem : has_header m.headers ≡ true
  pub headers_ok : all ok m.headers ≡ true
  pub body_utf8 : is_utf8 m.body ≡ true
  pub no_type : all not_type m.contents ≡ true
  pub clear_contents : all clear_content m.contents ≡ true
  pub clear_type : clear_ends is_white m.type ≡ true

-- Any reader of a header line that gives back the headers that pass the test.
module _ (reader : Bytes → Out Header) (ok : Header → Bool)
    (back : (h : Header) → valid_header h ≡ true → ok h ≡ true → reader (header_line h) ≡ accepted h) where
  -- all that is read from the lines of T
  lines_back : (m : Message) (ks : List Header) (st : Stores) → m.headers ≡ ks → Within m → Meets ok m → RoomFor m st
      → (do
        room st.head (need blank)
        a ← each (read_header_line reader st) (map header_line ks) blank
        b ← each (read_content_line st) (type_line m.type ∷ map content_line m.contents) a
        body_set (replaced m.body) st b)
      ≡ accepted m
  unfolding each room need total
  lines_back m ks st e w c r =
      let plain = ascii "text/plain" in
      let p = refuse_if_passed (ltb st.head (need blank)) (no_room (need blank)) (le-ltb st.head (need blank) (omega arith)) in
      let hs =
      headers_back reader ok back st [] m.headers plain [] w.headers.each c.headers_ok w.headers.ordered w.headers.few (omega arith)
      in
      let es =
      contents_back st m.headers [] m.contents m.type [] w.contents.each c.no_type c.clear_contents w.contents.ordered w.contents.few
      (omega arith)
      in
      let ts = type_step st (parts m.headers plain [] []) m.type (type_whole m.type w.type) c.clear_type in
      rw (← e)
      (then_passed (refuse_if (ltb st.head (need blank)) (no_room (need blank))) _ p
      ∙ bind_passed (each (read_header_line reader st) (map header_line m.headers) blank) _ (parts m.headers plain [] []) hs
      ∙ bind_passed (each (read_content_line st) (type_line m.type ∷ map content_line m.contents) (parts m.headers plain [] [])) _
      (parts m.headers m.type m.contents [])
      (bind_passed (read_content_line st (type_line m.type) (parts m.headers plain [] [])) _ (parts m.headers m.type [] []) ts ∙ es)
      ∙ rw (replaced_same m.body c.body_utf8) (body_back st (parts m.headers m.type m.contents []) m.body w.body r.1))

  pub reads_back_with : (m : Message) (st : Stores) → valid m ≡ true → Meets ok m → RoomFor m st → read_with reader (write m) st ≡ accepted m
  unfolding has_header is_empty
  reads_back_with m st v c r = go m.headers refl
    where
      w : Within m
      w = message_parts m v

      go : (ks : List Header) → m.headers ≡ ks → read_with reader (write m) st ≡ accepted m
      go [] e = absurd (false≢true (sym (ap has_header e) ∙ c.has_header_lem))
      go (h ∷ hs) e =
          read_written reader m h hs st v e
          ∙ then_passed (at_most max_text text_too_long (length (write m))) _ (at_most_passed max_text text_too_long (length (write m)) (write_length m v c.body_utf8))
          ∙ lines_back m (h ∷ hs) st e w c r
