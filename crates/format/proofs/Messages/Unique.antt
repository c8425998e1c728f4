-- One record and store hold at most one message: the record gives the lengths and counts, the 16 bytes of an entry give its own, and
-- parts of known lengths are cut off one after another. Assumes nothing.
use Prim.Native.Nat.{ℕ, ◌-◌, ◌/◌, ◌%◌}
use mathlib.Core.Path.{◌≡◌, refl, sym, ap, ◌∙◌, subst}
use mathlib.Core.Bool.{true}
use mathlib.Core.List.{List, [], ◌∷◌, ◌++◌, append_assoc}
use mathlib.Core.Option.{Option, some}
use native.Mathlib.Omega.{arith}
use lib.ListN.{length, take, drop, replicate}
use lib.Seq.{take_at, drop_at, take-append_seam, drop-append_seam}
use Rattle.format.specs.Bytes.{is_empty, Bytes, total, texts}
use Rattle.format.specs.Refusals.{passes}
use Rattle.format.specs.Validators.{content_type}
use Rattle.format.specs.Message.{Entry, LoneHeader, Header, Message, need_entry, need_alone, need_header, need}
use Rattle.format.specs.Layout.{fixed, entry_bytes, layout_entry, layout_header, layout_alone, layout, record_of, header_of, empty_message, empty_header, Lent, BodyAt, Holds, HoldsAlone}
use Rattle.format.specs.declared.CpimHeader.{CpimHeader}
use Rattle.format.proofs.Steps.{then_passes, refuse_if_passes}
use Rattle.format.proofs.Lists.{clash}
use Rattle.format.proofs.Messages.Parts.{message_parts}
use Rattle.format.proofs.Messages.Layout.{headers_length}

-- two lists in two parts each, the first ones of one length
pub cut : {A : Type 0} (s t r q : List A) → length s ≡ length t → s ++ r ≡ t ++ q → (s ≡ t) × (r ≡ q)
cut s t r q n e = (
  sym (take-append_seam s r) ∙ (ap (take (length s)) e ∙ take_at t q (length s) (sym n)),
  sym (drop-append_seam s r) ∙ (ap (drop (length s)) e ∙ drop_at t q (length s) (sym n)),
)

-- Lists of elements laid out one behind another: where each can be cut off, a list of known length can be read.
module _ {A : Type 0} (f : A → Bytes) (one : (x y : A) (r q : Bytes) → f x ++ r ≡ f y ++ q → (x ≡ y) × (r ≡ q)) where
  pub texts_same : (xs ys : List A) → length xs ≡ length ys → texts f xs ≡ texts f ys → xs ≡ ys
  unfolding texts
  texts_same [] [] n e = refl
  texts_same [] (y ∷ ys) n e = absurd (omega arith)
  texts_same (x ∷ xs) [] n e = absurd (omega arith)
  texts_same (x ∷ xs) (y ∷ ys) n e =
      let a = one x y (texts f xs) (texts f ys) e in
      rw (a.0, texts_same xs ys (omega arith) a.1) refl

-- What two entries that begin the same bytes have in common.
record Alike (n p v w : Bytes) (k l : ℕ) (t u r q : Bytes) : Type 0 where
  names : n ≡ p
  values : v ≡ w
  counts : k ≡ l
  tails : t ≡ u
  rests : r ≡ q

entry_alike : (n p v w : Bytes) (k l : ℕ) (t u r q : Bytes) → entry_bytes n v k t ++ r ≡ entry_bytes p w l u ++ q → Alike n p v w k l t u r q
unfolding entry_bytes fixed
entry_alike n p v w k l t u r q e =
    let ln : length n ≡ length p = cc in
    let low : length v % 256 ≡ length w % 256 = cc in
    let high : length v / 256 ≡ length w / 256 = cc in
    let lv : length v ≡ length w = omega arith in
    let count : k ≡ l = cc in
    let tlow : length t % 256 ≡ length u % 256 = cc in
    let thigh : length t / 256 ≡ length u / 256 = cc in
    let lt : length t ≡ length u = omega arith in
    let rest : (n ++ (v ++ t)) ++ r ≡ (p ++ (w ++ u)) ++ q = cc in
    let whole : n ++ (v ++ (t ++ r)) ≡ p ++ (w ++ (u ++ q)) = simp append_assoc at rest in
    let a = cut n p (v ++ (t ++ r)) (w ++ (u ++ q)) ln whole in
    let b = cut v w (t ++ r) (u ++ q) lv a.1 in
    let c = cut t u r q lt b.1 in
    record { names = a.0; values = b.0; counts = count; tails = c.0; rests = c.1 }

entry_same : (d e : Entry) (r q : Bytes) → layout_entry d ++ r ≡ layout_entry e ++ q → (d ≡ e) × (r ≡ q)
unfolding layout_entry
entry_same d e r q h =
    let a = entry_alike d.name e.name d.value e.value 0 0 [] [] r q h in
    (λ i. record { name = a.names i; value = a.values i }, a.rests)

pub entries_same : (ds es : List Entry) → length ds ≡ length es → texts layout_entry ds ≡ texts layout_entry es → ds ≡ es
entries_same ds es n h = texts_same layout_entry entry_same ds es n h

header_same : (g h : Header) (r q : Bytes) → layout_header g ++ r ≡ layout_header h ++ q → (g ≡ h) × (r ≡ q)
unfolding layout_header
header_same g h r q e =
    let tg = texts layout_entry g.params in
    let th = texts layout_entry h.params in
    let a = entry_alike g.name h.name g.value h.value (length g.params) (length h.params) tg th r q e in
    let ps = entries_same g.params h.params a.counts a.tails in
    (λ i. record { name = a.names i; value = a.values i; params = ps i }, a.rests)

pub headers_same : (gs hs : List Header) → length gs ≡ length hs → texts layout_header gs ≡ texts layout_header hs → gs ≡ hs
headers_same gs hs n h = texts_same layout_header header_same gs hs n h

-- What two messages with one record and one head store have in common: all but the bytes of the body.
pub record SameHead (m k : Message) : Type 0 where
  pub headers : m.headers ≡ k.headers
  pub type : m.type ≡ k.type
  pub contents : m.contents ≡ k.contents
  pub body_length_lem : length m.body ≡ length k.body

-- the zeros behind a type of n bytes
abbrev padding : ℕ → Bytes
padding n = replicate (256 - n) 0

layout_same : (m k : Message) → record_of m ≡ record_of k → layout m ≡ layout k → SameHead m k
unfolding record_of layout
layout_same m k e h =
    let lt : length m.type ≡ length k.type = ap (λ r. r.typelen) e in
    let lh : total need_header m.headers ≡ total need_header k.headers = ap (λ r. r.headerlen) e in
    let hm = texts layout_header m.headers in
    let hk = texts layout_header k.headers in
    let heads : length hm ≡ length hk = omega (arith, headers_length m.headers, headers_length k.headers) in
    let cm = texts layout_entry m.contents in
    let ck = texts layout_entry k.contents in
    let pm = padding (length m.type) in
    let pk = padding (length k.type) in
    let a = cut m.type k.type (pm ++ (hm ++ cm)) (pk ++ (hk ++ ck)) lt h in
    let b = cut pm pk (hm ++ cm) (hk ++ ck) (ap (λ n. length (padding n)) lt) a.1 in
    let c = cut hm hk cm ck heads b.1 in
    record {
      headers = headers_same m.headers k.headers (ap (λ r. r.headers) e) c.0;
      type = a.0;
      contents = entries_same m.contents k.contents (ap (λ r. r.contents) e) c.1;
      body_length_lem = ap (λ r. r.bodylen) e;
    }

record_need : (m k : Message) → record_of m ≡ record_of k → need m ≡ need k
unfolding record_of need
record_need m k e =
    let lh : total need_header m.headers ≡ total need_header k.headers = ap (λ r. r.headerlen) e in
    let lc : total need_entry m.contents ≡ total need_entry k.contents = ap (λ r. r.contentlen) e in
    omega arith

pub holds_head_unique : (l : Lent) (m k : Message) → Holds l m → Holds l k → SameHead m k
holds_head_unique l m k g h =
    let e = sym g.recorded ∙ h.recorded in
    layout_same m k e (sym g.laid ∙ (ap (λ n. take n l.head) (record_need m k e) ∙ h.laid))

pub holds_unique : (l : Lent) (store : Bytes) (m k : Message) → l.body ≡ some store → Holds l m → Holds l k → m ≡ k
holds_unique l store m k s g h =
    let a = holds_head_unique l m k g h in
    let bm : take (length m.body) store ≡ m.body = subst (λ o. BodyAt o m.body) s g.stored in
    let bk : take (length k.body) store ≡ k.body = subst (λ o. BodyAt o k.body) s h.stored in
    let b : m.body ≡ k.body = sym bm ∙ (ap (λ n. take n store) a.body_length_lem ∙ bk) in
    λ i. record { headers = a.headers i; type = a.type i; contents = a.contents i; body = b i }

pub holds_alone_unique : (r : CpimHeader) (store : Bytes) (g h : LoneHeader) → HoldsAlone r store g → HoldsAlone r store h → g ≡ h
unfolding header_of layout_alone
holds_alone_unique r store g h p q =
    let e = sym p.recorded ∙ q.recorded in
    let lv : length g.value ≡ length h.value = ap (λ r. r.valuelen) e in
    let a : layout_alone g ≡ layout_alone h = sym p.laid ∙ (ap (λ n. take n store) (ap (λ r. r.size) e) ∙ q.laid) in
    let b = cut (replicate 16 0) (replicate 16 0) _ _ refl a in
    let c = cut g.value h.value _ _ lv b.1 in
    let ps = entries_same g.params h.params (ap (λ r. r.params) e) c.1 in
    λ i. record { value = c.0 i; params = ps i }

-- The empty records hold nothing: a message has a type, and a header alone needs 16 bytes.

type_stands : (t : Bytes) → passes (content_type t) ≡ true → length t ≡ 0 → ⊥
unfolding content_type is_empty
type_stands [] h n = clash refl (refuse_if_passes true _ (then_passes _ _ h).0)
type_stands (b ∷ t) h n = omega arith

pub empty_holds : (head : Bytes) (body : Option Bytes) (m : Message) → Holds (record { message = empty_message; head = head; body = body }) m → ⊥
unfolding record_of
empty_holds head body m h =
    type_stands m.type (message_parts m h.within).type.passed (ap (λ r. r.typelen) (sym h.recorded))

pub empty_holds_alone : (store : Bytes) (h : LoneHeader) → HoldsAlone empty_header store h → ⊥
unfolding header_of need_alone
empty_holds_alone store h p =
    let n : 0 ≡ need_alone h = ap (λ r. r.size) p.recorded in
    omega arith
