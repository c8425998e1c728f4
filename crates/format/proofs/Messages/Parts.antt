-- Within limits and validators, part by part: each test of specs/Message.antt taken apart into its parts and put together again.
-- Assumes nothing.
use Prim.Native.Nat.{◌≤◌}
use mathlib.Core.Path.{◌≡◌}
use mathlib.Core.Bool.{Bool, true, ◌&&◌}
use mathlib.Core.List.{List}
use lib.ListN.{length}
use borrow.Author.Tests.{leb-true, le-leb}
use Rattle.format.specs.Bytes.{Bytes, all}
use Rattle.format.specs.Characters.{is_utf8}
use Rattle.format.specs.Limits.{max_headers, max_params, max_contents, max_body}
use Rattle.format.specs.Refusals.{passes}
use Rattle.format.specs.Validators.{header_name, header_value, content_value, param_name, param_value, content_type}
use Rattle.format.specs.Message.{Entry, entry_name, LoneHeader, Header, name_of, alone, Message, ascending, increasing, valid_param, valid_alone, valid_header, valid_content, valid_headers, valid_type, valid_contents, valid}
use Rattle.format.proofs.Lists.{and_left, and_right, and_intro}

-- two tests at once, taken apart and put together
both : (a b : Bool) → (a && b) ≡ true → (a ≡ true) × (b ≡ true)
both a b h = (and_left a b h, and_right a b h)

-- Each record says what one of the tests says.
pub record Param (e : Entry) : Type 0 where
  pub named : passes (param_name e.name) ≡ true
  pub valued : passes (param_value e.value) ≡ true
  pub name_utf8 : is_utf8 e.name ≡ true
  pub value_utf8 : is_utf8 e.value ≡ true

pub record Content (e : Entry) : Type 0 where
  pub named : passes (header_name e.name) ≡ true
  pub valued : passes (content_value e.value) ≡ true
  pub name_utf8 : is_utf8 e.name ≡ true
  pub value_utf8 : is_utf8 e.value ≡ true

pub record Params (ps : List Entry) : Type 0 where
  pub each : all valid_param ps ≡ true
  pub ordered : increasing entry_name ps ≡ true
  pub few : length ps ≤ max_params

pub record ByItself (a : LoneHeader) : Type 0 where
  pub valued : passes (header_value a.value) ≡ true
  pub value_utf8 : is_utf8 a.value ≡ true
  pub params : Params a.params

pub record Head (h : Header) : Type 0 where
  pub named : passes (header_name h.name) ≡ true
  pub name_utf8 : is_utf8 h.name ≡ true
  pub rest : ByItself (alone h)

pub record Heads (hs : List Header) : Type 0 where
  pub each : all valid_header hs ≡ true
  pub ordered : ascending name_of hs ≡ true
  pub few : length hs ≤ max_headers

pub record Typed (t : Bytes) : Type 0 where
  pub passed : passes (content_type t) ≡ true
  pub utf8 : is_utf8 t ≡ true

pub record Contents (es : List Entry) : Type 0 where
  pub each : all valid_content es ≡ true
  pub ordered : increasing entry_name es ≡ true
  pub few : length es ≤ max_contents

pub record Within (m : Message) : Type 0 where
  pub headers : Heads m.headers
  pub type : Typed m.type
  pub contents : Contents m.contents
  pub body : length m.body ≤ max_body

pub param_parts : (e : Entry) → valid_param e ≡ true → Param e
unfolding valid_param
param_parts e h =
    let a = both _ _ h in
    let b = both _ _ a.1 in
    let c = both _ _ b.1 in
    record { named = a.0; valued = b.0; name_utf8 = c.0; value_utf8 = c.1 }

pub param_whole : (e : Entry) → Param e → valid_param e ≡ true
unfolding valid_param
param_whole e w = and_intro _ _ w.named (and_intro _ _ w.valued (and_intro _ _ w.name_utf8 w.value_utf8))

pub content_parts : (e : Entry) → valid_content e ≡ true → Content e
unfolding valid_content
content_parts e h =
    let a = both _ _ h in
    let b = both _ _ a.1 in
    let c = both _ _ b.1 in
    record { named = a.0; valued = b.0; name_utf8 = c.0; value_utf8 = c.1 }

pub content_whole : (e : Entry) → Content e → valid_content e ≡ true
unfolding valid_content
content_whole e w = and_intro _ _ w.named (and_intro _ _ w.valued (and_intro _ _ w.name_utf8 w.value_utf8))

pub alone_parts : (a : LoneHeader) → valid_alone a ≡ true → ByItself a
unfolding valid_alone
alone_parts a h =
    let p = both _ _ h in
    let q = both _ _ p.1 in
    let r = both _ _ q.1 in
    let s = both _ _ r.1 in
    record {
      valued = p.0;
      value_utf8 = q.0;
      params = record { each = r.0; ordered = s.0; few = leb-true (length a.params) max_params s.1 };
    }

pub alone_whole : (a : LoneHeader) → ByItself a → valid_alone a ≡ true
unfolding valid_alone
alone_whole a w =
    let ps = w.params in
    and_intro _ _ w.valued
    (and_intro _ _ w.value_utf8 (and_intro _ _ ps.each (and_intro _ _ ps.ordered (le-leb (length a.params) max_params ps.few))))

pub header_parts : (h : Header) → valid_header h ≡ true → Head h
unfolding valid_header
header_parts h e =
    let p = both _ _ e in
    let q = both _ _ p.1 in
    record { named = p.0; name_utf8 = q.0; rest = alone_parts (alone h) q.1 }

pub header_whole_lem : (h : Header) → Head h → valid_header h ≡ true
unfolding valid_header
header_whole_lem h w = and_intro _ _ w.named (and_intro _ _ w.name_utf8 (alone_whole (alone h) w.rest))

pub headers_parts : (hs : List Header) → valid_headers hs ≡ true → Heads hs
unfolding valid_headers
headers_parts hs h =
    let p = both _ _ h in
    let q = both _ _ p.1 in
    record { each = p.0; ordered = q.0; few = leb-true (length hs) max_headers q.1 }

pub headers_whole : (hs : List Header) → Heads hs → valid_headers hs ≡ true
unfolding valid_headers
headers_whole hs w = and_intro _ _ w.each (and_intro _ _ w.ordered (le-leb (length hs) max_headers w.few))

pub type_parts : (t : Bytes) → valid_type t ≡ true → Typed t
unfolding valid_type
type_parts t h =
    let p = both _ _ h in
    record { passed = p.0; utf8 = p.1 }

pub type_whole : (t : Bytes) → Typed t → valid_type t ≡ true
unfolding valid_type
type_whole t w = and_intro _ _ w.passed w.utf8

pub contents_parts : (es : List Entry) → valid_contents es ≡ true → Contents es
unfolding valid_contents
contents_parts es h =
    let p = both _ _ h in
    let q = both _ _ p.1 in
    record { each = p.0; ordered = q.0; few = leb-true (length es) max_contents q.1 }

pub contents_whole : (es : List Entry) → Contents es → valid_contents es ≡ true
unfolding valid_contents
contents_whole es w = and_intro _ _ w.each (and_intro _ _ w.ordered (le-leb (length es) max_contents w.few))

pub message_parts : (m : Message) → valid m ≡ true → Within m
unfolding valid
message_parts m h =
    let p = both _ _ h in
    let q = both _ _ p.1 in
    let r = both _ _ q.1 in
    record {
      headers = headers_parts m.headers p.0;
      type = type_parts m.type q.0;
      contents = contents_parts m.contents r.0;
      body = leb-true (length m.body) max_body r.1;
    }

pub message_whole : (m : Message) → Within m → valid m ≡ true
unfolding valid
message_whole m w =
    and_intro _ _ (headers_whole m.headers w.headers)
    (and_intro _ _ (type_whole m.type w.type)
    (and_intro _ _ (contents_whole m.contents w.contents) (le-leb (length m.body) max_body w.body)))
