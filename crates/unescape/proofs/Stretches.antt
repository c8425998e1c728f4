-- One turn of the loops: a stretch without a backslash is read as it is, and then the escape behind it. Assumes nothing.
use Rattle.std.specs.Prelude.{if◌then◌else◌}
use Rattle.std.specs.Prelude.{Some}
use Rattle.std.specs.Option.{is_some}
use Prim.Native.Nat.{ℕ, suc, ◌+◌, ◌-◌, ◌≤◌, ◌<◌}
use mathlib.Core.Path.{◌≡◌, refl, sym, ap, ◌∙◌}
use mathlib.Core.Bool.{Bool, true, false, false≢true}
use mathlib.Core.List.{[], ◌∷◌, ◌++◌, append-nil}
use mathlib.Core.Option.{Option, none, some}
use native.Mathlib.Omega.{arith}
use lib.Dec.{eqb}
use lib.ListN.{length, take, drop, length-append, length-drop, take-append-drop, drop_of_length-le}
use lib.Seq.{drop-drop, take_all}
use borrow.Author.Tests.{eqb-true, eqb-false, ne_eqb}
use Rattle.format.specs.Bytes.{Bytes, all, up_to, pasted}
use Rattle.format.specs.Escaping.{Escape, escape_at, takes_of, in_front, escaped, unescape_from, unescape_by}
use Rattle.format.specs.declared.Manner.{Manner}
use Rattle.format.proofs.Escaping.Unescape.{unescape_skip, behind_nil, behind_behind, plain, plain_read, sound}
use Rattle.octets.proofs.Paste.{pasted_nil, pasted_pasted, length_pasted}
use Rattle.octets.proofs.Find.{found_up_to}
use Rattle.unescape.specs.Reads.{measured, value_of}

-- what stands before the first backslash has none
plain_up_to : (s : Bytes) → plain (up_to 92 s) ≡ true
unfolding up_to all
plain_up_to [] = refl
plain_up_to (b ∷ s) = go (eqb 92 b) refl (plain_up_to s)
  where
    go : (x : Bool) → eqb 92 b ≡ x → plain (up_to 92 s) ≡ true → plain (if x then [] else b ∷ up_to 92 s) ≡ true
    go true e h = refl
    go false e h = rw (ne_eqb b 92 (λ q. eqb-false 92 b e (sym q))) h

-- and at its place stands a backslash
up_to_at : (s : Bytes) → length (up_to 92 s) < length s → drop (length (up_to 92 s)) s ≡ 92 ∷ drop (suc (length (up_to 92 s))) s
unfolding up_to
up_to_at [] h = absurd (omega arith)
up_to_at (b ∷ s) h = go (eqb 92 b) refl (up_to_at s) h
  where
    go :
        (x : Bool)
        → eqb 92 b ≡ x
        → (length (up_to 92 s) < length s → drop (length (up_to 92 s)) s ≡ 92 ∷ drop (suc (length (up_to 92 s))) s)
        → length (if x then [] else b ∷ up_to 92 s) < length (b ∷ s)
        → drop (length (if x then [] else b ∷ up_to 92 s)) (b ∷ s) ≡ 92 ∷ drop (suc (length (if x then [] else b ∷ up_to 92 s))) (b ∷ s)
    go true e f l = ap (λ (n : ℕ). n ∷ s) (sym (eqb-true 92 b e))
    go false e f l = f (omega arith)

-- What the text s reads as is what has been read, n bytes, in front of what is left, t, reads as.
pub record Read (r : Manner) (s : Bytes) (n : ℕ) (t : Bytes) : Type 0 where
  pub bytes : Bytes
  pub so : unescape_by r s ≡ in_front bytes (unescape_by r t)
  pub long : length bytes ≡ n

pub nothing_read : (r : Manner) (s : Bytes) → Read r s 0 s
nothing_read r s = record { bytes = []; so = sym (behind_nil (unescape_by r s)); long = refl }

-- what stands from the place m on
pub tail_all : (m : ℕ) (b : Bytes) → take (length b - m) (drop m b) ≡ drop m b
tail_all m b = take_all (length b - m) (drop m b) (simp length-drop (omega arith))

-- what is read from the escape behind a backslash, and where it ends
read_some : (r : Manner) (o : Option Escape) (e : Escape) (t : Bytes) → o ≡ some e → escaped o (unescape_by r (drop (takes_of o) t)) ≡ in_front e.stands (unescape_by r (drop e.takes t))
read_some r none e t h = absurd (let z : ◌≡◌ {A = ℕ} 0 1 = cc in omega arith)
read_some r (some d) e t h = let z : d ≡ e = cc in rw z refl

read_none : (o : Option Escape) (t : Option Bytes) → o ≡ none → escaped o t ≡ none
read_none none t h = refl
read_none (some d) t h = absurd (let z : ◌≡◌ {A = ℕ} 0 1 = cc in omega arith)

-- an escape lies within the text, and what it stands for is no longer than it
pub escape_within : (r : Manner) (b : Bytes) (e : Escape) → escape_at r b ≡ some e → (e.takes ≤ length b) × (length e.stands ≤ 1 + e.takes)
escape_within r b e h = let o = sound r b e h in (o.fits, omega (arith, o.small))

-- One turn of a loop: of the text t that is left, p stands up to the next backslash, at k, and q from it on.
pub record Turn (t p q : Bytes) : Type 0 where
  pub k : ℕ
  pub found : k ≡ length (up_to 92 t)
  pub front : p ≡ take k t
  pub back : q ≡ drop k t

pub stretch_taken : {r : Manner} {s t p q : Bytes} {n : ℕ} → Read r s n t → Turn t p q → Read r s (n + length p) q
stretch_taken {r} {s} {t} {p} {q} so at = record {
  bytes = so.bytes ++ p;
  so = so.so ∙ ap (in_front so.bytes) stretch ∙ behind_behind so.bytes p (unescape_by r q);
  long = length-append so.bytes p ∙ ap (λ (m : ℕ). m + length p) so.long;
}
  where
    stretch : unescape_by r t ≡ in_front p (unescape_by r q)
    stretch =
        let k = at.k in
        ap (unescape_by r) (sym (take-append-drop k t))
        ∙ plain_read r (take k t) (drop k t) (ap plain (sym (found_up_to 92 t k at.found)) ∙ plain_up_to t)
        ∙ ap (λ (l : Bytes). in_front l (unescape_by r (drop k t))) (sym at.front)
        ∙ ap (λ (l : Bytes). in_front p (unescape_by r l)) (sym at.back)

-- no backslash is left
pub read_end : {r : Manner} {s q : Bytes} {n : ℕ} (so : Read r s n q) → length q < 1 → unescape_by r s ≡ some so.bytes
unfolding unescape_from
read_end {r} {s} {q} so h = so.so ∙ ap (λ (l : Bytes). in_front so.bytes (unescape_by r l)) (empty q h) ∙ ap some (append-nil so.bytes)
  where
    empty : (l : Bytes) → length l < 1 → l ≡ []
    empty [] h = refl
    empty (b ∷ l) h = absurd (omega arith)

-- Behind the backslash stands b.
module _ {r : Manner} {s t p q : Bytes} {n : ℕ} (so : Read r s n q) (at : Turn t p q) (more : 1 ≤ length q) (b : Bytes) (behind : b ≡ take (length q - 1) (drop 1 q)) where
  escaped_so : unescape_by r q ≡ escaped (escape_at r b) (unescape_by r (drop (takes_of (escape_at r b)) b))
  unfolding unescape_from
  escaped_so =
      let found = at.found in
      let k = length (up_to 92 t) in
      let back : q ≡ drop k t = at.back ∙ ap (λ (m : ℕ). drop m t) found in
      let short : k < length t = omega (arith, ap length back, length-drop k t) in
      let e : q ≡ 92 ∷ drop (suc k) t = back ∙ up_to_at t short in
      let e : q ≡ 92 ∷ b = e ∙ ap (λ (l : Bytes). 92 ∷ l) (sym (behind ∙ tail_all 1 q ∙ ap (drop 1) e)) in
      ap (unescape_by r) e ∙ ap (escaped (escape_at r b)) (unescape_skip r (takes_of (escape_at r b)) b)

  pub read_refused : escape_at r b ≡ none → unescape_by r s ≡ none
  read_refused h =
      so.so ∙ ap (in_front so.bytes) (escaped_so ∙ read_none (escape_at r b) (unescape_by r (drop (takes_of (escape_at r b)) b)) h)

  pub escape_taken : (e : Escape) → escape_at r b ≡ some e → (m : ℕ) → m ≡ length e.stands → Read r s (n + m) (take (length b - e.takes) (drop e.takes b))
  escape_taken e h m l = record {
    bytes = so.bytes ++ e.stands;
    so =
        so.so
        ∙ ap (in_front so.bytes) (escaped_so ∙ read_some r (escape_at r b) e b h)
        ∙ behind_behind so.bytes e.stands (unescape_by r (drop e.takes b))
        ∙ ap (λ (l : Bytes). in_front (so.bytes ++ e.stands) (unescape_by r l)) (sym (tail_all e.takes b));
    long = omega (arith, length-append so.bytes e.stands, so.long);
  }

-- The same of the bytes themselves, by places: w has been read from the first i bytes, and k more stand before the next backslash.
module _ (r : Manner) (s : Bytes) (i k : ℕ) (found : k ≡ length (up_to 92 (drop i s))) (w : Bytes) (so : unescape_by r s ≡ in_front w (unescape_by r (drop i s))) where
  abbrev so_far : Read r s (length w) (drop i s)
  so_far = record { bytes = w; so = so; long = refl }

  abbrev turn_there : Turn (drop i s) (take k (drop i s)) (drop (i + k) s)
  turn_there = record { k = k; found = found; front = refl; back = sym (drop-drop k i s) }

  pub read_stretch : unescape_by r s ≡ in_front (w ++ take k (drop i s)) (unescape_by r (drop (i + k) s))
  unfolding stretch_taken
  read_stretch = (stretch_taken so_far turn_there).so

  pub read_escape : i + k < length s → (e : Escape) → escape_at r (drop (i + k + 1) s) ≡ some e
      → unescape_by r s ≡ in_front ((w ++ take k (drop i s)) ++ e.stands) (unescape_by r (drop (i + k + 1 + e.takes) s))
  unfolding stretch_taken escape_taken
  read_escape h e q =
      let left = drop (i + k) s in
      let b = drop (i + k + 1) s in
      let behind : b ≡ take (length left - 1) (drop 1 left) = sym (tail_all 1 left ∙ drop-drop 1 (i + k) s) in
      let more : 1 ≤ length left = omega (arith, length-drop (i + k) s) in
      (escape_taken (stretch_taken so_far turn_there) turn_there more b behind e q (length e.stands) refl).so
      ∙ ap (λ (l : Bytes). in_front ((w ++ take k (drop i s)) ++ e.stands) (unescape_by r l)) (tail_all e.takes b ∙ drop-drop e.takes (i + k + 1) s)

-- how long what a text reads as is, and its bytes
pub measured_some : {o : Option Bytes} {v : Bytes} {m : ℕ} → o ≡ some v → length v ≡ m → Some m ≡ measured o
measured_some e l = rw (e, ← l) refl

-- a text that reads is not refused
pub not_refused : {A : Type 0} (o : Option Bytes) → is_some (measured o) ≡ true → o ≡ none → A
not_refused o h e = absurd (false≢true (sym (ap (λ (p : Option Bytes). is_some (measured p)) e) ∙ h))

-- a text that reads has room for what has been read of it
front_room : (o q : Option Bytes) (x : Bytes) → o ≡ in_front x q → is_some (measured o) ≡ true → length x ≤ length (value_of o)
front_room o none x e h = not_refused o h e
front_room o (some u) x e h = rw e (omega (arith, length-append x u))

pub room : {r : Manner} {s t : Bytes} {n : ℕ} → Read r s n t → is_some (measured (unescape_by r s)) ≡ true → n ≤ length (value_of (unescape_by r s))
room so h = omega (arith, front_room _ _ so.bytes so.so h, so.long)

-- What has been read is written over the bytes d from the place at on, and ends at the place to.
pub record Written (r : Manner) (s t : Bytes) (at to : ℕ) (d out : Bytes) : Type 0 where
  pub n : ℕ
  pub read : Read r s n t
  pub place : to ≡ at + n
  pub wrote : out ≡ pasted at read.bytes d

pub nothing_written : (r : Manner) (s : Bytes) (at : ℕ) (d : Bytes) → Written r s s at at d d
unfolding nothing_read
nothing_written r s at d = record { n = 0; read = nothing_read r s; place = omega arith; wrote = sym (pasted_nil at d) }

-- what is written behind what was written
behind_written : (at to : ℕ) (w x d out new : Bytes) → at ≤ length d → to ≡ at + length w → out ≡ pasted at w d → new ≡ pasted to x out → new ≡ pasted at (w ++ x) d
behind_written at to w x d out new h e o n =
    n ∙ ap (pasted to x) o ∙ ap (λ (k : ℕ). pasted k x (pasted at w d)) e ∙ pasted_pasted at w x d h

pub written_kept : {r : Manner} {s t : Bytes} {at to : ℕ} {d out : Bytes} → Written r s t at to d out → to ≤ length d → length out ≡ length d
written_kept {r} {s} {t} {at} {to} {d} w h = ap length w.wrote ∙ length_pasted at w.read.bytes d (omega (arith, w.place, w.read.long))

pub stretch_written : {r : Manner} {s t p q : Bytes} {at to : ℕ} {d out new : Bytes} (w : Written r s t at to d out) → Turn t p q → at ≤ length d → new ≡ pasted to p out
    → Written r s q at (to + length p) d new
unfolding stretch_taken
stretch_written {r} {s} {t} {p} {q} {at} {to} {d} {out} {new} w turn h e = record {
  n = w.n + length p;
  read = stretch_taken w.read turn;
  place = omega (arith, w.place);
  wrote = behind_written at to w.read.bytes p d out new h (omega (arith, w.place, w.read.long)) w.wrote e;
}

pub escape_written :
    {r : Manner} {s t p q : Bytes} {at to : ℕ} {d out new : Bytes}
    (w : Written r s q at to d out)
    → Turn t p q
    → 1 ≤ length q
    → (e : Escape)
    → escape_at r (take (length q - 1) (drop 1 q)) ≡ some e
    → at ≤ length d
    → new ≡ pasted to e.stands out
    → (m : ℕ)
    → m ≡ length e.stands
    → Written r s (take (length (take (length q - 1) (drop 1 q)) - e.takes) (drop e.takes (take (length q - 1) (drop 1 q)))) at (to + m) d new
unfolding escape_taken
escape_written {r} {s} {t} {p} {q} {at} {to} {d} {out} {new} w turn more e x h o m l = record {
  n = w.n + m;
  read = escape_taken w.read turn more _ refl e x m l;
  place = omega (arith, w.place);
  wrote = behind_written at to w.read.bytes e.stands d out new h (omega (arith, w.place, w.read.long)) w.wrote o;
}

-- all of it is written
pub written_all : {r : Manner} {s q : Bytes} {at to : ℕ} {d out : Bytes} → Written r s q at to d out → length q < 1
    → (to ≡ at + length (value_of (unescape_by r s))) × (out ≡ pasted at (value_of (unescape_by r s)) d)
written_all {r} {s} w h = rw (read_end w.read h) (omega (arith, w.place, w.read.long), w.wrote)

-- a text without a backslash reads as it is
pub plain_reads : (r : Manner) (s : Bytes) → length (up_to 92 s) ≡ length s → unescape_by r s ≡ some s
unfolding stretch_taken nothing_read
plain_reads r s e =
    read_end (stretch_taken (nothing_read r s) (record { k = length s; found = sym e; front = sym (take_all (length s) s (omega arith)); back = sym (drop_of_length-le s {i = length s} (omega arith)) })) (omega arith)
