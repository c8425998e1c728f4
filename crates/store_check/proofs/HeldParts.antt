-- What a caller knows of stores that hold a message, or a header alone: where its parts stand, the numbers of the record, and the
-- room. Assumes nothing.
use Prim.Native.Nat.{ℕ, ◌+◌, ◌-◌, ◌≤◌}
use mathlib.Core.Path.{◌≡◌, refl, sym, ap, ◌∙◌}
use mathlib.Core.Bool.{true}
use mathlib.Core.List.{◌++◌, map, append_assoc}
use native.Mathlib.Omega.{arith}
use lib.ListN.{length, take, drop, replicate, length-append, length-drop, length-replicate, take-append-drop}
use lib.Seq.{take_at, take_all, drop_at, drop-drop}
use Rattle.format.specs.Bytes.{Bytes, total, texts}
use Rattle.format.specs.Message.{LoneHeader, Message, need_entry, need_header, need_alone, need}
use Rattle.format.specs.Layout.{layout_entry, layout_header, layout, layout_alone, record_of, header_of, Lent, Holds, HoldsAlone}
use Rattle.format.specs.declared.CpimHeader.{CpimHeader}
use Rattle.format.proofs.Messages.Layout.{entries_length, headers_length, content_type_length, layout_length, layout_alone_length, taken}
use Rattle.format.proofs.Messages.Parts.{message_parts}
use Rattle.store_entries.specs.Stored.{stored_entry, stored_header, shaped_all, entries_in}
use Rattle.store_entries.proofs.Layouts.{contents_shaped, contents_read, headers_shaped, headers_read}
use Rattle.store_check.specs.Holding.{type_part, headers_part, contents_part, value_part, params_part}

-- a part from a place on, of so many bytes
pub part_of : (at n : ℕ) (s : Bytes) → take (at + n - at) (drop at s) ≡ take n (drop at s)
part_of at n s =
    let e : at + n - at ≡ n = omega arith in
    ap (λ (k : ℕ). take k (drop at s)) e

-- the bytes from a place on
pub rest_of : (at : ℕ) (s : Bytes) → take (length s - at) (drop at s) ≡ drop at s
rest_of at s = take_all (length s - at) (drop at s) (simp length-drop (omega arith))

-- Bytes in three parts and a rest: each stands behind those before it.
pub record Cut (a b c : Bytes) (n m k : ℕ) (s : Bytes) : Type 0 where
  pub first : take n s ≡ a
  pub second : take m (drop n s) ≡ b
  pub third : take k (drop (n + m) s) ≡ c

pub cut : (a b c r s : Bytes) (n m k : ℕ) → s ≡ a ++ (b ++ (c ++ r)) → length a ≡ n → length b ≡ m → length c ≡ k → Cut a b c n m k s
cut a b c r s n m k e f g h =
    let behind : drop n s ≡ b ++ (c ++ r) = ap (drop n) e ∙ drop_at a (b ++ (c ++ r)) n f in
    let last : drop (n + m) s ≡ c ++ r = sym (drop-drop m n s) ∙ ap (drop m) behind ∙ drop_at b (c ++ r) m g in
    record {
      first = ap (take n) e ∙ take_at a (b ++ (c ++ r)) n f;
      second = ap (take m) behind ∙ take_at b (c ++ r) m g;
      third = ap (take k) last ∙ take_at c r k h;
    }

-- the type, and the zeros behind it
abbrev pub padded : Bytes → Bytes
padded t = t ++ replicate (256 - length t) 0

-- A message k, in the record and the head store that hold it.
pub record HeldParts (l : Lent) (k : Message) : Type 0 where
  pub typelen : l.message.typelen ≡ length k.type
  pub headers : l.message.headers ≡ length k.headers
  pub headerlen : l.message.headerlen ≡ total need_header k.headers
  pub contents : l.message.contents ≡ length k.contents
  pub contentlen : l.message.contentlen ≡ total need_entry k.contents
  pub bodylen : l.message.bodylen ≡ length k.body
  pub type_short : length k.type ≤ 256
  pub used : 256 + l.message.headerlen + l.message.contentlen ≡ need k
  pub room : need k ≤ length l.head
  pub type_part_lem : type_part l.head ≡ padded k.type
  pub headers_part_lem : headers_part l.message l.head ≡ texts layout_header k.headers
  pub contents_part_lem : contents_part l.message l.head ≡ texts layout_entry k.contents
  pub headers_shaped : shaped_all l.message.headers (headers_part l.message l.head) ≡ true
  pub headers_in : entries_in l.message.headers (headers_part l.message l.head) ≡ map stored_header k.headers
  pub contents_shaped : shaped_all l.message.contents (contents_part l.message l.head) ≡ true
  pub contents_in : entries_in l.message.contents (contents_part l.message l.head) ≡ map stored_entry k.contents

pub held_parts : (l : Lent) (k : Message) → Holds l k → HeldParts l k
unfolding record_of layout need
held_parts l k h =
    let e = h.recorded in
    let m = l.message in
    let hs = texts layout_header k.headers in
    let cs = texts layout_entry k.contents in
    let rest = drop (need k) l.head in
    let short = content_type_length k.type (message_parts k h.within).type.passed in
    let full = layout_length k h.within in
    let hl : m.headerlen ≡ total need_header k.headers = ap (λ r. r.headerlen) e in
    let cl : m.contentlen ≡ total need_entry k.contents = ap (λ r. r.contentlen) e in
    let whole : l.head ≡ padded k.type ++ (hs ++ (cs ++ rest)) =
    sym (take-append-drop (need k) l.head) ∙ ap (λ (x : Bytes). x ++ rest) h.laid ∙ simp append_assoc in
    let cuts =
    cut (padded k.type) hs cs rest l.head 256 m.headerlen m.contentlen whole
    (simp (length-append, length-replicate) (omega arith)) (headers_length k.headers ∙ sym hl) (entries_length k.contents ∙ sym cl) in
    let hn : m.headers ≡ length k.headers = ap (λ r. r.headers) e in
    let cn : m.contents ≡ length k.contents = ap (λ r. r.contents) e in
    record {
      typelen = ap (λ r. r.typelen) e;
      headers = hn;
      headerlen = hl;
      contents = cn;
      contentlen = cl;
      bodylen = ap (λ r. r.bodylen) e;
      type_short = short;
      used = omega (arith, hl, cl);
      room = taken (need k) (layout k) l.head h.laid full;
      type_part_lem = cuts.first;
      headers_part_lem = cuts.second;
      contents_part_lem = cuts.third;
      headers_shaped = ap (shaped_all m.headers) cuts.second ∙ ap (λ (n : ℕ). shaped_all n hs) hn ∙ headers_shaped k.headers;
      headers_in = ap (entries_in m.headers) cuts.second ∙ ap (λ (n : ℕ). entries_in n hs) hn ∙ headers_read k.headers;
      contents_shaped = ap (shaped_all m.contents) cuts.third ∙ ap (λ (n : ℕ). shaped_all n cs) cn ∙ contents_shaped k.contents;
      contents_in = ap (entries_in m.contents) cuts.third ∙ ap (λ (n : ℕ). entries_in n cs) cn ∙ contents_read k.contents;
    }

-- A header h alone, in the record and the store that hold it.
pub record AloneParts (r : CpimHeader) (store : Bytes) (h : LoneHeader) : Type 0 where
  pub valuelen : r.valuelen ≡ length h.value
  pub params : r.params ≡ length h.params
  pub size : r.size ≡ need_alone h
  pub used : 16 + r.valuelen + total need_entry h.params ≡ r.size
  pub room : r.size ≤ length store
  pub zeros : take 16 store ≡ replicate 16 0
  pub value_part_lem : value_part r store ≡ h.value
  pub params_part_lem : params_part r store ≡ texts layout_entry h.params
  pub params_shaped : shaped_all r.params (params_part r store) ≡ true
  pub params_in_lem : entries_in r.params (params_part r store) ≡ map stored_entry h.params

pub alone_parts : (r : CpimHeader) (store : Bytes) (h : LoneHeader) → HoldsAlone r store h → AloneParts r store h
unfolding header_of layout_alone need_alone
alone_parts r store h w =
    let e = w.recorded in
    let ps = texts layout_entry h.params in
    let rest = drop (need_alone h) store in
    let vl : r.valuelen ≡ length h.value = ap (λ x. x.valuelen) e in
    let sl : r.size ≡ need_alone h = ap (λ x. x.size) e in
    let pn : r.params ≡ length h.params = ap (λ x. x.params) e in
    let long = entries_length h.params in
    let whole : store ≡ replicate 16 0 ++ (h.value ++ (ps ++ rest)) =
    sym (take-append-drop (need_alone h) store) ∙ ap (λ (x : Bytes). x ++ rest) w.laid ∙ simp append_assoc in
    let cuts =
    cut (replicate 16 0) h.value ps rest store 16 r.valuelen (r.size - (16 + r.valuelen)) whole
    refl (sym vl) (omega (arith, long, vl, sl)) in
    record {
      valuelen = vl;
      params = pn;
      size = sl;
      used = omega (arith, vl, sl);
      room = rw sl (taken (need_alone h) (layout_alone h) store w.laid (layout_alone_length h));
      zeros = cuts.first;
      value_part_lem = cuts.second;
      params_part_lem = cuts.third;
      params_shaped = ap (shaped_all r.params) cuts.third ∙ ap (λ (n : ℕ). shaped_all n ps) pn ∙ contents_shaped h.params;
      params_in_lem = ap (entries_in r.params) cuts.third ∙ ap (λ (n : ℕ). entries_in n ps) pn ∙ contents_read h.params;
    }
