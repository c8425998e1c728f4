-- A wrapper is the call that it makes: a name of ASCII letters is UTF-8, so the same checks decide. Assumes nothing.
use Rattle.std.specs.Prelude.{Result, Err}
use Rattle.std.specs.Result.{result_unwrap_or, IsErrAnd}
use Prim.Native.Nat.{ℕ, ◌+◌, ◌-◌, ◌^◌, ◌<◌, min}
use mathlib.Core.Path.{◌≡◌, refl, sym, ap, ◌∙◌, subst}
use mathlib.Core.Bool.{true}
use mathlib.Core.List.{[], ◌∷◌, ◌++◌, append_assoc, append-nil}
use mathlib.Core.Option.{Option, none, some}
use native.Mathlib.Omega.{arith}
use lib.Dec.{ltb}
use borrow.Author.Tests.{ltb-true}
use lib.ListN.{length, take, drop, length-append}
use lib.Seq.{take_at}
use Rattle.format.specs.Bytes.{Bytes, ascii, all, texts, pasted, over}
use Rattle.format.specs.Characters.{is_utf8}
use Rattle.format.specs.Limits.{max_value}
use Rattle.format.specs.Refusals.{Out, numbers, table, passes, refuse_if, value_too_long, ◌>>◌}
use Rattle.format.specs.Told.{checked, told}
use Rattle.format.specs.Validators.{header_name, header_value, param_name}
use Rattle.format.specs.Message.{Message, entry, put, insert, without}
use Rattle.format.specs.Calls.{Stores, Call, arguments, handed_in, change, answer, header_added, ns_value}
use Rattle.format.specs.Layout.{Lent, entry_bytes, layout_entry}
use Rattle.format.specs.Lending.{head_lent, lengths, leaves, Changed}
use Rattle.format.specs.declared.Numbers.{Numbers}
use Rattle.format.specs.declared.CpimMessage.{CpimMessage}
use Rattle.format.specs.declared.refusal.Refusal.{Refusal}
use Rattle.format.proofs.Characters.Chars.{utf8_ascii_text}
use Rattle.format.proofs.Computing.{computing}
use Rattle.octets.proofs.Paste.{pasted_start, pasted_pasted}
use Rattle.validate.proofs.Chains.{stopped, told_by, handed_on}
use Rattle.store_splice.proofs.Splicing.{entry_length}
use Rattle.message_edit.specs.Edits.{Does}
use Rattle.message_rules.proofs.MessageChecks.{does_over}

module _ (c d : Call) (handed : handed_in c ≡ handed_in d) (texts : all is_utf8 (arguments c) ≡ all is_utf8 (arguments d))
    (same : (st : Stores) (m : Message) → change c st m ≡ change d st m) where
  answer_same : (st : Stores) (o : Option Message) → answer c st o ≡ answer d st o
  unfolding answer
  answer_same st none = refl
  answer_same st (some m) = rw (handed, texts, same st m) refl

  pub wrapped : (l k : Lent) (n : Numbers) → Changed d l k n → Changed c l k n
  wrapped l k n h =
      record {
        answered = λ o held. h.answered o held ∙ ap numbers (sym (answer_same (lengths l) o));
        left = λ o held. h.left o held ∙ ap (leaves l) (sym (answer_same (lengths l) o));
      }

-- a value, and a name of ASCII letters with it
pub named_texts : (name value : Bytes) → all (λ b. ltb b 128) name ≡ true → all is_utf8 (value ∷ []) ≡ all is_utf8 (name ∷ value ∷ [])
unfolding all
named_texts name value h = rw (utf8_ascii_text name h) refl

-- The value of NS, part by part.
pasted_on : (p s d : Bytes) (i : ℕ) → i ≡ length p → pasted i s (pasted 0 p d) ≡ pasted 0 (p ++ s) d
pasted_on p s d i e =
    let z : i ≡ 0 + length p = omega arith in
    ap (λ (j : ℕ). pasted j s (pasted 0 p d)) z ∙ pasted_pasted 0 p s d (omega arith)

pub ns_pasted : (p u d : Bytes)
    → pasted (length p + 2 + length u) (ascii ">") (pasted (length p + 2) u (pasted (length p) (ascii " <") (pasted 0 p d))) ≡ over (ns_value p u) d
unfolding ns_value
ns_pasted p u d =
    let a = p ++ ascii " <" in
    let long : length p + 2 ≡ length a = sym (length-append p (ascii " <")) in
    let more : length p + 2 + length u ≡ length (a ++ u) = omega (arith, long, length-append a u) in
    ap (λ (x : Bytes). pasted (length p + 2 + length u) (ascii ">") (pasted (length p + 2) u x)) (pasted_on p (ascii " <") d (length p) refl)
    ∙ ap (pasted (length p + 2 + length u) (ascii ">")) (pasted_on a u d (length p + 2) long)
    ∙ pasted_on (a ++ u) (ascii ">") d (length p + 2 + length u) more
    ∙ ap (λ (x : Bytes). pasted 0 x d) (append_assoc a u (ascii ">") ∙ append_assoc p (ascii " <") (u ++ ascii ">"))
    ∙ pasted_start (p ++ (ascii " <" ++ (u ++ ascii ">"))) d

pub ns_length : (p u : Bytes) → length (ns_value p u) ≡ length p + length u + 3
unfolding ns_value
ns_length p u = simp length-append (omega arith)

-- a value of NS that is too long
pub ns_over : (l : Lent) (p u : Bytes) (n : ℕ) (o : Out Message) → 1021 < length p + length u → n ≡ min (length p + length u + 3) (2 ^ 64 - 1)
    → Does l l (table (value_too_long n)) (◌>>◌ (header_value (ns_value p u)) o)
unfolding header_value table
ns_over l p u n o h e =
    let w : min n (2 ^ 64 - 1) ≡ min (length (ns_value p u)) (2 ^ 64 - 1) = omega (arith, ns_length p u) in
    does_over l l _ max_value value_too_long (length (ns_value p u)) o (omega (arith, ns_length p u)) (λ i. record { number = 10; carried = w i }) refl

pub ns_refused : (m : CpimMessage) (head p u : Bytes) (n : ℕ) (o : Out Message) (e : Refusal) (q : Result CpimMessage Refusal)
    → checked {A = Unit {0}} (Err e) ≡ refuse_if (ltb 1021 (length p + length u)) (value_too_long n) → n ≡ min (length p + length u + 3) (2 ^ 64 - 1) → IsErrAnd q (λ d. d ≡ e)
    → Does (head_lent m head) (head_lent (result_unwrap_or q m) head) (told q) (◌>>◌ (header_value (ns_value p u)) o)
ns_refused m head p u n o e q r h s =
    let over = ltb-true 1021 (length p + length u) (stopped e _ _ r) in
    let does : Does (head_lent m head) (head_lent m head) (told {A = CpimMessage} (Err e)) (◌>>◌ (header_value (ns_value p u)) o) =
    subst (λ (i : Numbers). Does (head_lent m head) (head_lent m head) i (◌>>◌ (header_value (ns_value p u)) o)) (sym (told_by CpimMessage e _ _ r))
    (ns_over (head_lent m head) p u n o over h) in
    subst (λ (x : Result CpimMessage Refusal). Does (head_lent m head) (head_lent (result_unwrap_or x m) head) (told x) (◌>>◌ (header_value (ns_value p u)) o))
    (sym (handed_on q s)) does

-- one parameter
pub lang_put : (l : Bytes) → put (entry (ascii "lang") l) [] ≡ entry (ascii "lang") l ∷ []
unfolding put insert without
lang_put l = refl

pub lang_name : passes (param_name (ascii "lang")) ≡ true
unfolding computing passes
lang_name = refl

pub subject_name : passes (header_name (ascii "Subject")) ≡ true
unfolding computing passes
subject_name = refl

-- the value of NS, read from the room that it was put into
pub ns_taken : (p u d after : Bytes) (n : ℕ) → after ≡ over (ns_value p u) d → n ≡ length p + length u + 3 → take n after ≡ ns_value p u
ns_taken p u d after n e h =
    ap (take n) e ∙ take_at (ns_value p u) (drop (length (ns_value p u)) d) n (ns_length p u ∙ sym h)

-- the bytes of the parameter lang
pub lang_taken : (l d after : Bytes) (n : ℕ) → after ≡ pasted 0 (entry_bytes (ascii "lang") l 0 []) d → n ≡ 20 + length l
    → take n after ≡ texts layout_entry (entry (ascii "lang") l ∷ [])
unfolding texts layout_entry
lang_taken l d after n e h =
    let s = entry_bytes (ascii "lang") l 0 [] in
    ap (take n) e
    ∙ ap (take n) (pasted_start s d)
    ∙ take_at s (drop (length s) d) n (entry_length (ascii "lang") l 0 [] ∙ omega (arith, h))
    ∙ sym (append-nil s)

-- what was done with a value was done with its equal
pub added_same : (l k : Lent) (n : Numbers) (name v w : Bytes) (st : Stores) (q : Message) → v ≡ w
    → Does l k n (header_added name v st q) → Does l k n (header_added name w st q)
added_same l k n name v w st q e d = subst (λ (x : Bytes). Does l k n (header_added name x st q)) e d
