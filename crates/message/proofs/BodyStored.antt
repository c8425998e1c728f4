-- A new message laid into its stores, and a body put in the place of another. Assumes nothing.
use Rattle.std.specs.Prelude.{Result, Ok, Err}
use Rattle.std.specs.Result.{result_unwrap_or, IsErrAnd}
use Prim.Native.Nat.{ℕ, zero, suc, ◌-◌, ◌≤◌}
use mathlib.Core.Path.{◌≡◌, refl, sym, ap, ◌∙◌}
use mathlib.Core.Bool.{Bool, true, not, ◌&&◌}
use mathlib.Core.List.{◌++◌, append-nil, append_assoc}
use mathlib.Core.Option.{some}
use native.Mathlib.Omega.{arith}
use lib.Dec.{leb}
use borrow.Author.Tests.{not-false}
use lib.ListN.{length, take, drop, replicate, length-append, length-replicate, length-take}
use lib.Seq.{drop-append-le, length-take-le}
use Rattle.format.specs.Bytes.{Bytes, all, texts, total, pasted, over}
use Rattle.format.specs.Refusals.{Out, accepted, refused, nothing_held, refuse_if}
use Rattle.format.specs.Told.{checked, told}
use Rattle.format.specs.Message.{Message, need}
use Rattle.format.specs.Calls.{fresh, new, body_set, with_body, set_body, arguments, lends, header_held, change}
use Rattle.format.specs.Layout.{Lent, Holds, layout, record_of, empty_message}
use Rattle.format.specs.Lending.{both_lent, lengths, laid_in, leaves, makes, Made, Changed}
use Rattle.format.specs.declared.Numbers.{Numbers}
use Rattle.format.specs.declared.CpimMessage.{CpimMessage}
use Rattle.format.specs.declared.refusal.Refusal.{Refusal}
use Rattle.format.proofs.Rulesets.{tests}
use Rattle.format.proofs.Messages.Layout.{over_same, layout_length}
use Rattle.octets.proofs.Paste.{pasted_start}
use Rattle.validate.proofs.Chains.{let_by, handed_on}
use Rattle.store_check.specs.Holding.{message_holds}
use Rattle.store_check.specs.Decoding.{message_in}
use Rattle.store_check.proofs.MessageHeld.{holds_held, held_holds}
use Rattle.store_check.proofs.HeldParts.{held_parts}
use Rattle.message_edit.specs.Edits.{Does}
use Rattle.message_rules.proofs.CallExits.{Judged, held_alone, refused_early, done_held}

-- a call that makes a message is one that finds the empty record
pub made : (t b head store : Bytes) (k : Lent) (n : Numbers)
    → Does (both_lent empty_message head store) k n (new t b (lengths (both_lent empty_message head store)))
    → Made t b (both_lent empty_message head store) k n
unfolding leaves makes
made t b head store k n d =
    record { answered = d.answered; left = d.left ∙ same (new t b (lengths (both_lent empty_message head store))) }
  where
    same : (o : Out Message) → leaves (both_lent empty_message head store) o ≡ makes (both_lent empty_message head store) o
    same (accepted m) = refl
    same (refused r) = refl

-- the type over zeros
drop_zeros : (n w : ℕ) → drop {A = ℕ} n (replicate w 0) ≡ replicate (w - n) 0
drop_zeros zero w =
    let e : w ≡ w - 0 = omega arith in
    ap (λ (i : ℕ). replicate i 0) e
drop_zeros (suc n) zero =
    let e : zero ≡ zero - suc n = omega arith in
    ap (λ (i : ℕ). replicate i 0) e
drop_zeros (suc n) (suc w) =
    let e : w - n ≡ suc w - suc n = omega arith in
    drop_zeros n w ∙ ap (λ (i : ℕ). replicate i 0) e

over_zeros : (w : ℕ) (t head : Bytes) → length t ≤ w → pasted 0 t (pasted 0 (replicate w 0) head) ≡ over (t ++ replicate (w - length t) 0) head
over_zeros w t head h =
    let z : Bytes = replicate w 0 in
    let r : Bytes = replicate (w - length t) 0 in
    let wide : length z ≡ w = length-replicate w 0 in
    let ending : length r ≡ w - length t = length-replicate (w - length t) 0 in
    let long : length (t ++ r) ≡ length z = omega (arith, length-append t r, ending, wide) in
    pasted_start t (pasted 0 z head)
    ∙ ap (λ (x : Bytes). t ++ drop (length t) x) (pasted_start z head)
    ∙ ap (λ (x : Bytes). t ++ x) (drop-append-le (length t) z (drop (length z) head) (omega (arith, wide)))
    ∙ ap (λ (x : Bytes). t ++ (x ++ drop (length z) head)) (drop_zeros (length t) w)
    ∙ sym (append_assoc t r (drop (length z) head))
    ∙ ap (λ (i : ℕ). (t ++ r) ++ drop i head) (sym long)

pub type_laid : (w : ℕ) (t b head : Bytes) → w ≡ 256 → length t ≤ w → pasted 0 t (pasted 0 (replicate w 0) head) ≡ over (layout (fresh t b)) head
unfolding layout texts
type_laid w t b head e h =
    over_zeros w t head h
    ∙ ap (λ (i : ℕ). over (t ++ replicate (i - length t) 0) head) e
    ∙ ap (λ (x : Bytes). over (t ++ x) head) (sym (append-nil (replicate (256 - length t) 0)))

pub new_recorded : (t b : Bytes)
    → record { typelen = length t; headers = 0; headerlen = 0; contents = 0; contentlen = 0; bodylen = length b } ≡ record_of (fresh t b)
unfolding record_of total
new_recorded t b = refl

pub new_need : (t b : Bytes) → need (fresh t b) ≡ 256
unfolding need total
new_need t b = refl

-- record and both stores are judged by the head store and the length of the body store
pub judged_both : (m : CpimMessage) (head store : Bytes) → Judged (both_lent m head store) (message_holds m head && leb m.bodylen (length store))
judged_both m head store =
    record {
      some_held = λ h.
          let p = simp tests at h in
          let long = length-take-le m.bodylen store p.1 in (
            message_in m head (take m.bodylen store),
            held_holds m head (take m.bodylen store) (some store) p.0 long (ap (λ (i : ℕ). take i store) long),
          );
      none_held = λ k h.
          simp tests (holds_held (both_lent m head store) k h, omega (arith, (held_parts (both_lent m head store) k h).bodylen, ap length h.stored, length-take (length k.body) store));
    }

-- another body changes nothing in the head store
pub body_laid : (m : CpimMessage) (head store b after : Bytes) (k : Message) → Holds (both_lent m head store) k → after ≡ over b store
    → both_lent (record { typelen = m.typelen; headers = m.headers; headerlen = m.headerlen; contents = m.contents; contentlen = m.contentlen; bodylen = length b }) head after
    ≡ laid_in (both_lent m head store) (with_body k b)
unfolding laid_in record_of layout
body_laid m head store b after k held e =
    let same : head ≡ over (layout (with_body k b)) head =
    sym (over_same (layout k) head (ap (λ (i : ℕ). take i head) (layout_length k held.within) ∙ held.laid)) in
    λ i. record {
      message = record { typelen = (held.recorded i).typelen; headers = (held.recorded i).headers; headerlen = (held.recorded i).headerlen; contents = (held.recorded i).contents; contentlen = (held.recorded i).contentlen; bodylen = length b };
      head = same i;
      body = some (e i);
    }

pub new_laid : (t b head store after kept : Bytes) → after ≡ over (layout (fresh t b)) head → kept ≡ over b store
    → both_lent (record { typelen = length t; headers = 0; headerlen = 0; contents = 0; contentlen = 0; bodylen = length b }) after kept
    ≡ laid_in (both_lent empty_message head store) (fresh t b)
unfolding laid_in
new_laid t b head store after kept e f = λ i. record { message = new_recorded t b i; head = e i; body = some (f i) }

-- The two ways out of `set_body`.
module _ (m : CpimMessage) (head store b : Bytes) where
  abbrev held : Bool
  held = message_holds m head && leb m.bodylen (length store)

  pub body_unheld : (e : Refusal) (q : Result CpimMessage Refusal) → checked {A = Unit {0}} (Err e) ≡ refuse_if (not held) nothing_held → IsErrAnd q (λ d. d ≡ e)
      → Changed (set_body b) (both_lent m head store) (both_lent (result_unwrap_or q m) head store) (told q)
  unfolding arguments all lends header_held
  body_unheld e q r s =
      let same = handed_on q s in
      refused_early (set_body b) (both_lent m head store) (both_lent (result_unwrap_or q m) head store) (told q) held true (judged_both m head store) refl refl e
      (r ∙ held_alone held) (ap told same) (ap (λ (x : Result CpimMessage Refusal). both_lent (result_unwrap_or x m) head store) same)

  pub body_done : {u : Unit {0}} (k : Lent) (n : Numbers) → checked (Ok u) ≡ refuse_if (not held) nothing_held
      → ((q : Message) → Holds (both_lent m head store) q → Does (both_lent m head store) k n (body_set b (lengths (both_lent m head store)) q))
      → Changed (set_body b) (both_lent m head store) k n
  unfolding arguments all lends header_held change
  body_done k n r does =
      done_held (set_body b) (both_lent m head store) k n held true (judged_both m head store) refl refl (not-false held (let_by (not held) nothing_held r)) refl does
