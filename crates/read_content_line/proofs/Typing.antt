-- A type laid over another in the head store. Assumes nothing.
use Prim.Native.Nat.{ℕ, ◌-◌, ◌≤◌}
use mathlib.Core.Path.{◌≡◌, sym, ap, ◌∙◌}
use mathlib.Core.Bool.{true}
use mathlib.Core.List.{◌++◌, append_assoc}
use mathlib.Core.Option.{none}
use native.Mathlib.Omega.{arith}
use native.Mathlib.Nat.{zero-add}
use lib.ListN.{length, take, drop, replicate, length-append, length-replicate, take-append-drop}
use lib.Seq.{drop_at}
use Rattle.format.specs.Bytes.{Bytes, texts, pasted, over}
use Rattle.format.specs.Message.{Message, need, valid}
use Rattle.format.specs.Calls.{with_type}
use Rattle.format.specs.Layout.{Holds, layout, layout_entry, layout_header, record_of}
use Rattle.format.specs.Lending.{head_lent, laid_in}
use Rattle.format.specs.declared.CpimMessage.{CpimMessage}
use Rattle.format.proofs.Messages.Layout.{layout_length, content_type_length}
use Rattle.format.proofs.Messages.Parts.{message_parts}
use Rattle.octets.proofs.Paste.{pasted_start, pasted_pasted}
use Rattle.read_content_line.specs.Types.{type_bytes}

-- the type, and zeros behind it
pub type_put : (t head : Bytes) → length t ≤ 256 → 256 ≤ length head
    → pasted (length t) (replicate (256 - length t) 0) (pasted 0 t head) ≡ pasted 0 (type_bytes t) head
unfolding type_bytes
type_put t head h e =
    ap (λ (i : ℕ). pasted i (replicate (256 - length t) 0) (pasted 0 t head)) (sym (zero-add (length t)))
    ∙ pasted_pasted 0 t (replicate (256 - length t) 0) head (omega arith)

pub type_long : (t : Bytes) → length t ≤ 256 → length (type_bytes t) ≡ 256
unfolding type_bytes
type_long t h = simp (length-append, length-replicate) (omega arith)

-- the entries of a message, one behind another
abbrev behind : Message → Bytes
behind k = texts layout_header k.headers ++ texts layout_entry k.contents

pub layout_type : (k : Message) → layout k ≡ type_bytes k.type ++ behind k
unfolding layout type_bytes
layout_type k = sym (append_assoc k.type (replicate (256 - length k.type) 0) (behind k))

-- what stands behind the type is as it was
pub type_over : (k : Message) (t head : Bytes) → valid k ≡ true → take (need k) head ≡ layout k → length t ≤ 256
    → pasted 0 (type_bytes t) head ≡ over (layout (with_type k t)) head
type_over k t head v laid h =
    let old = content_type_length k.type (message_parts k v).type.passed in
    let whole : head ≡ type_bytes k.type ++ (behind k ++ drop (need k) head) =
    sym (take-append-drop (need k) head)
    ∙ ap (λ (s : Bytes). s ++ drop (need k) head) (laid ∙ layout_type k)
    ∙ append_assoc (type_bytes k.type) (behind k) (drop (need k) head) in
    let rest : drop 256 head ≡ behind k ++ drop (need k) head =
    ap (drop 256) whole ∙ drop_at (type_bytes k.type) (behind k ++ drop (need k) head) 256 (type_long k.type old) in
    let long : length (type_bytes t ++ behind k) ≡ need k =
    omega (arith, length-append (type_bytes t) (behind k), length-append (type_bytes k.type) (behind k), ap length (layout_type k), layout_length k v, type_long t h, type_long k.type old) in
    pasted_start (type_bytes t) head
    ∙ ap (λ (i : ℕ). type_bytes t ++ drop i head) (type_long t h)
    ∙ ap (λ (s : Bytes). type_bytes t ++ s) rest
    ∙ sym (append_assoc (type_bytes t) (behind k) (drop (need k) head))
    ∙ ap (λ (i : ℕ). (type_bytes t ++ behind k) ++ drop i head) (sym long)
    ∙ ap (λ (s : Bytes). over s head) (sym (layout_type (with_type k t)))

-- the record and the store with another type
pub type_laid : (m : CpimMessage) (head t after : Bytes) (k : Message) → Holds (head_lent m head) k → length t ≤ 256
    → after ≡ pasted 0 (type_bytes t) head
    → head_lent (record m { typelen = length t }) after
    ≡ laid_in (head_lent m head) (with_type k t)
unfolding laid_in record_of
type_laid m head t after k held h e =
    let same = e ∙ type_over k t head held.within held.laid h in
    λ i. record {
      message = record { typelen = length t; headers = (held.recorded i).headers; headerlen = (held.recorded i).headerlen; contents = (held.recorded i).contents; contentlen = (held.recorded i).contentlen; bodylen = (held.recorded i).bodylen };
      head = same i;
      body = none;
    }
