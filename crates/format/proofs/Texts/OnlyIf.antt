-- The `only if` of both readings: a message within limits and validators whose text reads back as it meets every clause of the condition, on
-- stores of any length. A header there must be, since one is read of the text of a message without; the headers pass what their reader asks;
-- the body read is UTF-8; and the need of the content headers read is that of the message's only where nothing was stripped.
-- Assumes nothing.
use mathlib.Core.Path.{◌≡◌, refl, sym, ap, ◌∙◌}
use mathlib.Core.Bool.{Bool, true, ◌&&◌}
use mathlib.Core.List.{List, [], ◌∷◌, map}
use native.Mathlib.Omega.{arith}
use lib.ListN.{length}
use Rattle.format.specs.Bytes.{Bytes, is_empty, all, total}
use Rattle.format.specs.Characters.{replaced, is_utf8, is_white, trim, clear_ends}
use Rattle.format.specs.Refusals.{Out, accepted}
use Rattle.format.specs.Message.{Header, Message, need_entry, valid_header, valid_content, valid}
use Rattle.format.specs.Calls.{Stores, body_set}
use Rattle.format.specs.Reading.{each, blank, read_header_line, read_content_line, read_with}
use Rattle.format.specs.Writing.{header_line, content_line, type_line, write}
use Rattle.format.specs.Demand3.{has_header, not_type, clear_content}
use Rattle.format.proofs.Lists.{clash, and_left, and_right, and_intro, all_head, all_tail, all_cons, all_map}
use Rattle.format.proofs.Characters.Replaced.{replaced_only}
use Rattle.format.proofs.Characters.Trim.{trim_full}
use Rattle.format.proofs.Steps.{then_accepted, bind_accepted}
use Rattle.format.proofs.Messages.Accepted.{set_body_accepted}
use Rattle.format.proofs.Messages.Parts.{message_parts}
use Rattle.format.proofs.Texts.WriteText.{read_written}
use Rattle.format.proofs.Texts.Measure.{contents_full}
use Rattle.format.proofs.Texts.ReadOver.{header_contents, content_headers, contents_need, contents_type, type_line_gives}
use Rattle.format.proofs.Texts.RoundTrip.{Meets}
use Rattle.format.proofs.Texts.Headless.{headless_read}

-- two tests of all elements are one
pub all_both : {A : Type 0} (p q : A → Bool) (xs : List A) → all p xs ≡ true → all q xs ≡ true → all (λ x. p x && q x) xs ≡ true
unfolding all
all_both p q [] h k = refl
all_both p q (x ∷ xs) h k =
    all_cons (λ x. p x && q x) x xs (and_intro (p x) (q x) (all_head p x xs h) (all_head q x xs k)) (all_both p q xs (all_tail p x xs h) (all_tail q x xs k))

pub all_left : {A : Type 0} (p q : A → Bool) (xs : List A) → all (λ x. p x && q x) xs ≡ true → all p xs ≡ true
all_left p q xs h = all_map (λ x. p x && q x) p (λ x. and_left (p x) (q x)) xs h

pub all_right : {A : Type 0} (p q : A → Bool) (xs : List A) → all (λ x. p x && q x) xs ≡ true → all q xs ≡ true
all_right p q xs h = all_map (λ x. p x && q x) q (λ x. and_right (p x) (q x)) xs h

-- Any reader of a header line of which headers that are read as they were pass a test.
module _ (reader : Bytes → Out Header) (ok : Header → Bool)
    (passed : (st : Stores) (hs : List Header) (a : Message) → all valid_header hs ≡ true → each (read_header_line reader st) (map header_line hs) blank ≡ accepted a
    → hs ≡ a.headers → all ok hs ≡ true) where
  -- A message m whose text was read: its header lines gave a, its content lines b, its body m itself.
  module _ (m : Message) (st : Stores) (v : valid m ≡ true) (a b : Message)
      (heads : each (read_header_line reader st) (map header_line m.headers) blank ≡ accepted a)
      (contents : each (read_content_line st) (type_line m.type ∷ map content_line m.contents) a ≡ accepted b)
      (body : body_set (replaced m.body) st b ≡ accepted m) where
    same_rest : m ≡ record { headers = b.headers; type = b.type; contents = b.contents; body = replaced m.body }
    same_rest = (set_body_accepted (replaced m.body) st b m body).0

    same_headers : m.headers ≡ a.headers
    same_headers = ap (λ (k : Message). k.headers) same_rest ∙ content_headers st (type_line m.type ∷ map content_line m.contents) a b contents

    utf8_body : is_utf8 m.body ≡ true
    utf8_body = replaced_only m.body (sym (ap (λ (k : Message). k.body) same_rest))

    -- the type line's message, and the content headers from there
    typed : (c : Message) × (c ≡ record { headers = a.headers; type = trim m.type; contents = a.contents; body = a.body })
        × (each (read_content_line st) (map content_line m.contents) c ≡ accepted b)
    unfolding each
    typed =
        let k = bind_accepted (read_content_line st (type_line m.type) a) (each (read_content_line st) (map content_line m.contents)) b contents in
        (k.0, type_line_gives st m.type a k.0 k.1, k.2)

    clear_contents : all (λ e. not_type e && clear_content e) m.contents ≡ true
    unfolding total
    clear_contents =
        let w = message_parts m v in
        let n = contents_need st m.contents typed.0 b w.contents.each typed.2 in
        let none : typed.0.contents ≡ [] = ap (λ (k : Message). k.contents) typed.1 ∙ header_contents reader st m.headers blank a w.headers.each heads in
        contents_full m.contents (omega (arith, ap (λ (k : Message). total need_entry k.contents) same_rest, ap (total need_entry) none))

    clear_type : clear_ends is_white m.type ≡ true
    clear_type =
        let all_plain = all_both valid_content (λ e. not_type e && clear_content e) m.contents (message_parts m v).contents.each clear_contents in
        let read-type = contents_type st m.contents typed.0 b all_plain typed.2 ∙ ap (λ (k : Message). k.type) typed.1 in
        trim_full is_white m.type (sym (ap length (ap (λ (k : Message). k.type) same_rest ∙ read-type)))

    meets : has_header m.headers ≡ true → Meets ok m
    meets h =
        record {
          has_header_lem = h;
          headers_ok = passed st m.headers a (message_parts m v).headers.each heads same_headers;
          body_utf8 = utf8_body;
          no_type = all_left not_type clear_content m.contents clear_contents;
          clear_contents = all_right not_type clear_content m.contents clear_contents;
          clear_type = clear_type;
        }

  -- with no header, or with some
  by_headers : (m : Message) (st : Stores) (hs : List Header) → m.headers ≡ hs → valid m ≡ true → read_with reader (write m) st ≡ accepted m → Meets ok m
  unfolding has_header is_empty
  by_headers m st [] n v e = clash (headless_read reader m m st n e) (ap has_header n)
  by_headers m st (h ∷ hs) n v e =
      let r = sym (read_written reader m h hs st v n) ∙ e in
      let h1 = then_accepted _ _ _ r in
      let h2 = then_accepted _ _ _ h1.0 in
      let h3 = bind_accepted _ _ _ h2.0 in
      let h4 = bind_accepted _ _ _ h3.2 in
      let heads = ap (λ (x : List Header). each (read_header_line reader st) (map header_line x) blank) n ∙ h3.1 in
      meets m st v h3.0 h4.0 heads h4.1 h4.2 (ap has_header n)

  -- What reads back as it is meets the condition.
  pub back_only_with : (m : Message) (st : Stores) → valid m ≡ true → read_with reader (write m) st ≡ accepted m → Meets ok m
  back_only_with m st v e = by_headers m st m.headers refl v e
