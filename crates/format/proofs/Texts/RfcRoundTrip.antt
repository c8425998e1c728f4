-- Document 02, T-01, both directions: the second reading of T gives M exactly where M meets the condition. Assumes nothing.
use Prim.Native.Nat.{ℕ, ◌≤◌}
use mathlib.Core.Path.{◌≡◌, sym, ap, ◌∙◌}
use mathlib.Core.Bool.{true}
use mathlib.Core.Logic.{⊎_elim}
use mathlib.Core.List.{List, map}
use native.Mathlib.Omega.{arith}
use Rattle.format.specs.Bytes.{all, total}
use Rattle.format.specs.Refusals.{accepted}
use Rattle.format.specs.Message.{Header, Message, need_entry, valid_header, valid}
use Rattle.format.specs.Calls.{Stores}
use Rattle.format.specs.Writing.{header_line, write}
use Rattle.format.specs.Reading.{each, blank, read_header_line}
use Rattle.format.specs.ReadingRfc.{read_header_rfc, read_rfc}
use Rattle.format.specs.Demand3.{RoomFor}
use Rattle.format.specs.SecondReading.{spaceless, comes_back_rfc}
use Rattle.format.proofs.Lists.{bcase, and_intro}
use Rattle.format.proofs.Rulesets.{tests}
use Rattle.format.proofs.Steps.{accepted_same}
use Rattle.format.proofs.Texts.ReadOver.{clause_met}
use Rattle.format.proofs.Texts.RoundTrip.{reads_back_with}
use Rattle.format.proofs.Texts.OnlyIf.{back_only_with}
use Rattle.format.proofs.Texts.RfcLine.{rfc_back, rfc_less}

-- what a header's parameters need
params_need : Header → ℕ
params_need h = total need_entry h.params

params_sized : (h k : Header) → valid_header h ≡ true → read_header_rfc (header_line h) ≡ accepted k
    → (params_need k ≤ params_need h) × (params_need k ≡ params_need h → spaceless h ≡ true)
unfolding params_need
params_sized h k v e =
    ⊎_elim
    (λ q. (omega (arith, ap params_need (accepted_same h k (sym (rfc_back h v q) ∙ e))), λ n. q))
    (λ q. (omega (arith, rfc_less h k v q e), λ n. absurd (omega (arith, rfc_less h k v q e))))
    (bcase (spaceless h))

spaceless_passed : (st : Stores) (hs : List Header) (a : Message) → all valid_header hs ≡ true → each (read_header_line read_header_rfc st) (map header_line hs) blank ≡ accepted a
    → hs ≡ a.headers → all spaceless hs ≡ true
spaceless_passed = clause_met read_header_rfc valid_header spaceless params_need params_sized

-- Where a message meets the condition its text reads back as it.
pub reads_back_rfc : (m : Message) (st : Stores) → valid m ≡ true → comes_back_rfc m ≡ true → RoomFor m st → read_rfc (write m) st ≡ accepted m
unfolding comes_back_rfc
reads_back_rfc m st v b r =
    let c = simp tests at b in
    reads_back_with read_header_rfc spaceless rfc_back m st v
    (record {
      has_header_lem = c.0;
      headers_ok = c.1.0;
      body_utf8 = c.1.1.0;
      no_type = c.1.1.1.0;
      clear_contents = c.1.1.1.1.0;
      clear_type = c.1.1.1.1.1;
    })
    r

-- What reads back as it is meets the condition.
pub back_only_rfc : (m : Message) (st : Stores) → valid m ≡ true → read_rfc (write m) st ≡ accepted m → comes_back_rfc m ≡ true
unfolding comes_back_rfc
back_only_rfc m st v e =
    let c = back_only_with read_header_rfc spaceless spaceless_passed m st v e in
    and_intro _ _ c.has_header_lem
    (and_intro _ _ c.headers_ok
    (and_intro _ _ c.body_utf8
    (and_intro _ _ c.no_type (and_intro _ _ c.clear_contents c.clear_type))))
