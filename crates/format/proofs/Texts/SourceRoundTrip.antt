-- Demand 3, both directions: the facts of the source's reader of a header line. A header without parameters whose name has clear ends is read
-- back from its line. Of any other less is read: no parameter, or a shorter name. Assumes nothing.
use Prim.Native.Nat.{◌≤◌}
use mathlib.Core.Path.{◌≡◌, refl, sym, ap, ◌∙◌}
use mathlib.Core.Bool.{Bool, true, ◌&&◌}
use mathlib.Core.List.{List, [], ◌∷◌, map}
use native.Mathlib.Omega.{arith}
use lib.ListN.{length}
use Rattle.format.specs.Bytes.{is_empty, all}
use Rattle.format.specs.Characters.{is_white, trim}
use Rattle.format.specs.Refusals.{accepted}
use Rattle.format.specs.Validators.{header_name}
use Rattle.format.specs.Message.{Entry, Header, Message, need_header, valid_header, valid}
use Rattle.format.specs.Calls.{Stores}
use Rattle.format.specs.Writing.{header_line, write}
use Rattle.format.specs.Reading.{each, blank, read_header, read_header_line, read}
use Rattle.format.specs.Demand3.{no_param, clear_name, comes_back, RoomFor}
use Rattle.format.proofs.Lists.{clash, and_left, and_right, and_intro}
use Rattle.format.proofs.Rulesets.{tests}
use Rattle.format.proofs.Steps.{accepted_same, then_accepted, then_passed}
use Rattle.format.proofs.Characters.Trim.{trim_clear}
use Rattle.format.proofs.Messages.Parts.{header_parts}
use Rattle.format.proofs.Texts.Measure.{kept_header, header_below, header_full}
use Rattle.format.proofs.Texts.ReadLine.{read_header_no_params, read_header_plain}
use Rattle.format.proofs.Texts.ReadOver.{clause_met}
use Rattle.format.proofs.Texts.RoundTrip.{reads_back_with}
use Rattle.format.proofs.Texts.OnlyIf.{all_both, all_left, all_right, back_only_with}

-- what it asks of a header
unfoldable plain_header : Header → Bool
plain_header h = no_param h && clear_name h

no_entries : (es : List Entry) → is_empty es ≡ true → es ≡ []
unfolding is_empty
no_entries [] h = refl
no_entries (e ∷ es) h = clash h refl

no_params : (h : Header) → no_param h ≡ true → h.params ≡ []
unfolding no_param
no_params h k = no_entries h.params k

plain_back : (h : Header) → valid_header h ≡ true → plain_header h ≡ true → read_header (header_line h) ≡ accepted h
unfolding plain_header clear_name
plain_back h v k =
    let p = no_params h (and_left (no_param h) (clear_name h) k) in
    read_header_plain h v p
    ∙ rw (trim_clear is_white h.name (and_right (no_param h) (clear_name h) k), ← p) (then_passed (header_name h.name) (accepted h) (header_parts h v).named)

-- no parameter is read, so there was none
none_counted : (es : List Entry) → 0 ≡ length es → is_empty es ≡ true
unfolding is_empty
none_counted [] h = refl
none_counted (e ∷ es) h = absurd (omega arith)

fewer_params : (h k : Header) → valid_header h ≡ true → read_header (header_line h) ≡ accepted k
    → (length k.params ≤ length h.params) × (length k.params ≡ length h.params → no_param h ≡ true)
unfolding no_param
fewer_params h k v e =
    let none : length k.params ≡ 0 = ap length (read_header_no_params h v k e) in
    (omega (arith, none), λ q. none_counted h.params (sym none ∙ q))

-- then what is read needs less, unless nothing was stripped from the name
less_need : (h k : Header) → (valid_header h && no_param h) ≡ true → read_header (header_line h) ≡ accepted k
    → (need_header k ≤ need_header h) × (need_header k ≡ need_header h → clear_name h ≡ true)
less_need h k v e =
    let none = no_params h (and_right (valid_header h) (no_param h) v) in
    let r = sym (read_header_plain h (and_left (valid_header h) (no_param h) v) none) ∙ e in
    let same : need_header (kept_header h) ≡ need_header k = ap need_header (accepted_same (kept_header h) k (then_accepted (header_name (trim h.name)) (accepted (kept_header h)) k r).0) in
    (omega (arith, same, header_below h), λ q. header_full h (same ∙ q))

plain_passed : (st : Stores) (hs : List Header) (a : Message) → all valid_header hs ≡ true → each (read_header_line read_header st) (map header_line hs) blank ≡ accepted a
    → hs ≡ a.headers → all plain_header hs ≡ true
unfolding plain_header
plain_passed st hs a v e s =
    let bare = clause_met read_header valid_header no_param (λ h. length h.params) fewer_params st hs a v e s in
    all_both no_param clear_name hs bare
    (clause_met read_header (λ h. valid_header h && no_param h) clear_name need_header less_need st hs a (all_both valid_header no_param hs v bare) e s)

-- Where a message meets the condition its text reads back as it.
pub reads_back : (m : Message) (st : Stores) → valid m ≡ true → comes_back m ≡ true → RoomFor m st → read (write m) st ≡ accepted m
unfolding comes_back plain_header
reads_back m st v b r =
    let c = simp tests at b in
    reads_back_with read_header plain_header plain_back m st v
    (record {
      has_header_lem = c.0;
      headers_ok = all_both no_param clear_name m.headers c.1.0 c.1.1.1.1.0;
      body_utf8 = c.1.1.0;
      no_type = c.1.1.1.0;
      clear_contents = c.1.1.1.1.1.0;
      clear_type = c.1.1.1.1.1.1;
    })
    r

-- What reads back as it is meets the condition.
pub back_only : (m : Message) (st : Stores) → valid m ≡ true → read (write m) st ≡ accepted m → comes_back m ≡ true
unfolding comes_back plain_header
back_only m st v e =
    let c = back_only_with read_header plain_header plain_passed m st v e in
    and_intro _ _ c.has_header_lem
    (and_intro _ _ (all_left no_param clear_name m.headers c.headers_ok)
    (and_intro _ _ c.body_utf8
    (and_intro _ _ c.no_type
    (and_intro _ _ (all_right no_param clear_name m.headers c.headers_ok)
    (and_intro _ _ c.clear_contents c.clear_type)))))
