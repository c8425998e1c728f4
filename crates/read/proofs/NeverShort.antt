use Rattle.std.specs.Prelude.{if◌then◌else◌}
-- 26 never comes of a reading with room for every body, by either reader of a header line: only the last check could refuse by it, and 23
-- comes before it. Assumes nothing.
use Prim.Native.Nat.{ℕ}
use mathlib.Core.Path.{◌≡◌, refl, sym, ap, ◌∙◌}
use mathlib.Core.Bool.{Bool, true, false, true≢false}
use mathlib.Core.List.{List, [], ◌∷◌}
use mathlib.Core.Option.{Option, none, some}
use lib.Dec.{eqb}
use lib.ListN.{length}
use borrow.Author.Tests.{eq-eqb}
use Rattle.format.specs.Bytes.{is_empty, Bytes, ascii, colon, equals, has, up_to, past, same_letters}
use Rattle.format.specs.Characters.{trim}
use Rattle.format.specs.Limits.{max_body}
use Rattle.format.specs.Refusals.{Refusal, text_too_long, no_message_cpim, lacks_colon, name_empty, name_too_long, name_control, name_reserved, value_too_long, content_control, param_name_empty, param_name_too_long, param_name_reserved, param_value_too_long, param_value_reserved, type_empty, type_too_long, type_control, too_many_headers, too_many_params, too_many_contents, body_too_long, not_utf8, no_room, param_lacks_equals, lacks_space, table, Out, accepted, refused, numbers, Check, refuse_if, at_most, passes, ◌>>◌, ◌>>=◌}
use Rattle.format.specs.Validators.{header_name, header_value, content_value, param_name, param_value, content_type, utf8}
use Rattle.format.specs.Message.{Entry, Header, Message}
use Rattle.format.specs.Calls.{Stores, room, enough, body_length, header_count, param_count, content_count, if_room, set_param, append, content_header_added, body_set}
use Rattle.format.specs.Reading.{each, read_param, checked_value, read_value, read_name_and_value, read_header, read_type, read_named, read_content_line, Parts, parts_of, text_parts, read_line, read_header_line, read_parts, read_with}
use Rattle.format.specs.ReadingRfc.{read_param_rfc, read_right, read_header_rfc, line_reader}
use Rattle.format.specs.declared.Manner.{Manner}
use Rattle.format.specs.declared.Manner.TheVariants.{Source, Rfc}
use Rattle.format.proofs.Steps.{then_passed}
use Rattle.format.proofs.Answers.{space_enough}
use Rattle.format.proofs.Rulesets.{checks}
use Rattle.read.specs.Heads.{any_body, read_head_with}

-- whether an answer is 26
unfoldable is_short : {A : Type 0} → Out A → Bool
is_short o = eqb (numbers o).number 26

-- Steps of which none answers 26, put together.
bind_long : {A B : Type 0} (x : Out A) (f : A → Out B) → is_short x ≡ false → ((a : A) → is_short (f a) ≡ false) → is_short (◌>>=◌ x f) ≡ false
unfolding is_short numbers ◌>>=◌
bind_long (accepted a) f h g = g a
bind_long (refused r) f h g = h

then_long : {B : Type 0} (x : Check) (y : Out B) → is_short x ≡ false → is_short y ≡ false → is_short (◌>>◌ x y) ≡ false
unfolding is_short numbers ◌>>◌
then_long (accepted u) y h g = g
then_long (refused r) y h g = h

if_long : {A : Type 0} (t : Bool) (x y : Out A) → is_short x ≡ false → is_short y ≡ false → is_short (if t then x else y) ≡ false
if_long true x y h g = h
if_long false x y h g = g

accepted_long : {A : Type 0} (a : A) → is_short (accepted a) ≡ false
unfolding is_short numbers
accepted_long a = refl

refuse_long : (t : Bool) (r : Refusal) → eqb (table r).number 26 ≡ false → is_short (refuse_if t r) ≡ false
unfolding is_short numbers refuse_if
refuse_long true r h = h
refuse_long false r h = refl

most_long : (limit : ℕ) (r : ℕ → Refusal) (n : ℕ) → eqb (table (r n)).number 26 ≡ false → is_short (at_most limit r n) ≡ false
unfolding at_most
most_long limit r n h = refuse_long _ (r n) h

each_long : {A B : Type 0} (step : A → B → Out B) → ((x : A) (b : B) → is_short (step x b) ≡ false) → (xs : List A) (b : B) → is_short (each step xs b) ≡ false
unfolding each
each_long step h [] b = accepted_long b
each_long step h (x ∷ xs) b = bind_long (step x b) (each step xs) (h x b) (each_long step h xs)

-- The validators, and the other checks of a line.
name_long : (s : Bytes) → is_short (header_name s) ≡ false
unfolding header_name table
name_long s =
    then_long _ _ (refuse_long _ name_empty refl)
    (then_long _ _ (most_long _ name_too_long _ refl) (then_long _ _ (refuse_long _ name_control refl) (refuse_long _ name_reserved refl)))

value_long : (s : Bytes) → is_short (header_value s) ≡ false
unfolding header_value table
value_long s = most_long _ value_too_long _ refl

content_long : (s : Bytes) → is_short (content_value s) ≡ false
unfolding content_value table
content_long s = then_long _ _ (most_long _ value_too_long _ refl) (refuse_long _ content_control refl)

param_name_long : (s : Bytes) → is_short (param_name s) ≡ false
unfolding param_name table
param_name_long s =
    then_long _ _ (refuse_long _ param_name_empty refl) (then_long _ _ (most_long _ param_name_too_long _ refl) (refuse_long _ param_name_reserved refl))

param_value_long : (s : Bytes) → is_short (param_value s) ≡ false
unfolding param_value table
param_value_long s = then_long _ _ (most_long _ param_value_too_long _ refl) (refuse_long _ param_value_reserved refl)

type_long : (s : Bytes) → is_short (content_type s) ≡ false
unfolding content_type table
type_long s = then_long _ _ (refuse_long _ type_empty refl) (then_long _ _ (most_long _ type_too_long _ refl) (refuse_long _ type_control refl))

room_long : (store n : ℕ) → is_short (room store n) ≡ false
unfolding room table
room_long store n = refuse_long _ (no_room n) refl

if_room_long : (store : ℕ) (m : Message) → is_short (if_room store m) ≡ false
unfolding if_room
if_room_long store m = then_long _ _ (room_long store _) (accepted_long m)

-- The lines.
set_param_long : (n v : Bytes) (ps : List Entry) → is_short (set_param n v ps) ≡ false
unfolding set_param param_count table
set_param_long n v ps =
    then_long _ _ (param_name_long n) (then_long _ _ (param_value_long v) (then_long _ _ (most_long _ too_many_params _ refl) (accepted_long _)))

param_long : (part : Bytes) (ps : List Entry) → is_short (read_param part ps) ≡ false
unfolding read_param
param_long part ps = if_long (has equals part) _ _ (set_param_long (trim (up_to equals part)) (trim (past equals part)) ps) (accepted_long ps)

checked_long : (o : Option Bytes) → is_short (checked_value o) ≡ false
unfolding checked_value is_short numbers table
checked_long none = refl
checked_long (some v) = then_long _ _ (value_long v) (accepted_long v)

header_long : (l : Bytes) → is_short (read_header l) ≡ false
unfolding read_header read_name_and_value read_value table
header_long l =
    then_long _ _ (refuse_long _ lacks_colon refl)
    (then_long _ _ (name_long _) (bind_long _ _ (each_long read_param param_long _ []) (λ ps. bind_long _ _ (checked_long _) (λ v. accepted_long _))))

param_rfc_long : (part : Bytes) (ps : List Entry) → is_short (read_param_rfc part ps) ≡ false
unfolding read_param_rfc table
param_rfc_long part ps = then_long _ _ (refuse_long _ param_lacks_equals refl) (set_param_long (up_to equals part) (past equals part) ps)

header_rfc_long : (l : Bytes) → is_short (read_header_rfc l) ≡ false
unfolding read_header_rfc read_right table
header_rfc_long l =
    then_long _ _ (refuse_long _ lacks_colon refl)
    (then_long _ _ (name_long _)
    (then_long _ _ (refuse_long _ lacks_space refl)
    (bind_long _ _ (each_long read_param_rfc param_rfc_long _ []) (λ ps. bind_long _ _ (checked_long _) (λ v. accepted_long _)))))

reader_long : (r : Manner) (l : Bytes) → is_short (line_reader r l) ≡ false
reader_long Source = header_long
reader_long Rfc = header_rfc_long

content_line_long : (st : Stores) (l : Bytes) (m : Message) → is_short (read_content_line st l m) ≡ false
unfolding read_content_line read_named read_type content_header_added content_count table
content_line_long st l m =
    if_long (has colon l) _ _
    (if_long (same_letters (ascii "Content-type") (trim (up_to colon l))) _ _ (then_long _ _ (type_long (trim (past colon l))) (accepted_long _))
    (then_long _ _ (name_long (trim (up_to colon l))) (then_long _ _ (content_long (trim (past colon l))) (then_long _ _ (most_long _ too_many_contents _ refl) (if_room_long _ _)))))
    (accepted_long m)

-- The body: where 23 lets it pass, there is room.
fitting_long : (x y : Check) (m : Message) → is_short x ≡ false → (passes x ≡ true → passes y ≡ true) → is_short (◌>>◌ x (◌>>◌ y (accepted m))) ≡ false
unfolding is_short numbers ◌>>◌ passes
fitting_long (accepted u) y m h f = ap is_short (then_passed y (accepted m) (f refl))
fitting_long (refused r) y m h f = h

body_long : (b : Bytes) (head : ℕ) (m : Message) → is_short (body_set b (any_body head) m) ≡ false
unfolding body_set any_body body_length table
body_long b head m =
    fitting_long (body_length b) (enough max_body (length b)) _ (most_long _ body_too_long _ refl) (λ h. space_enough max_body (length b) (simp checks at h))

parts_of_long : (ss : List Bytes) → is_short (parts_of ss) ≡ false
unfolding parts_of is_short numbers table
parts_of_long [] = refl
parts_of_long (a ∷ []) = refl
parts_of_long (a ∷ b ∷ []) = refl
parts_of_long (a ∷ b ∷ c ∷ []) = refl
parts_of_long (a ∷ b ∷ c ∷ d ∷ rest) = refl

text_long : (t : Bytes) → is_short (text_parts t) ≡ false
unfolding text_parts utf8 table
text_long t = then_long _ _ (most_long _ text_too_long _ refl) (then_long _ _ (refuse_long _ not_utf8 refl) (parts_of_long _))

-- The whole reading, by a reader that never answers 26.
module _ (reader : Bytes → Out Header) (long : (l : Bytes) → is_short (reader l) ≡ false) where
  header_line_long : (st : Stores) (l : Bytes) (m : Message) → is_short (read_header_line reader st l m) ≡ false
  unfolding read_header_line read_line append header_count table
  header_line_long st l m =
      if_long (is_empty l) _ _ (accepted_long m)
      (bind_long _ _ (long l) (λ h. then_long _ _ (most_long _ too_many_headers _ refl) (if_room_long _ _)))

  parts_long : (p : Parts) (head : ℕ) → is_short (read_parts reader p (any_body head)) ≡ false
  unfolding read_parts table
  parts_long p head =
      then_long _ _ (refuse_long _ no_message_cpim refl)
      (then_long _ _ (room_long _ _)
      (bind_long _ _ (each_long _ (header_line_long (any_body head)) _ _)
      (λ m. bind_long _ _ (each_long _ (content_line_long (any_body head)) _ m) (body_long p.body head))))

  reading_long : (t : Bytes) (head : ℕ) → is_short (read_head_with reader t head) ≡ false
  unfolding read_head_with read_with
  reading_long t head = bind_long (text_parts t) _ (text_long t) (λ p. parts_long p head)

pub never_short : (r : Manner) (t : Bytes) (head : ℕ) → (numbers (read_head_with (line_reader r) t head)).number ≡ 26 → ⊥
unfolding is_short
never_short r t head e = absurd (true≢false (sym (eq-eqb _ 26 e) ∙ reading_long (line_reader r) (reader_long r) t head))
