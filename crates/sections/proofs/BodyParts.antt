-- The parts of a body: they stand one behind another and make it up, and a store that has room for them holds it once they are laid over
-- it. Assumes nothing.
use Rattle.std.specs.Prelude.{if◌then◌else◌}
use Prim.Native.Nat.{ℕ, ◌+◌, ◌≤◌, ◌<◌}
use mathlib.Core.Path.{◌≡◌, refl, sym, ap, ◌∙◌}
use mathlib.Core.Bool.{Bool, true, false}
use mathlib.Core.List.{List, [], ◌∷◌, ◌++◌}
use native.Mathlib.Omega.{arith}
use lib.ListN.{length, take, drop, length-append}
use lib.Seq.{take-append_seam, drop-append_seam}
use borrow.Author.Tests.{le-leb, lt-leb}
use Rattle.format.specs.Bytes.{Bytes, Pieces, crlf_crlf_text, pieces, join, total, texts, pasted, over}
use Rattle.format.specs.Characters.{flat}
use Rattle.format.specs.Limits.{max_text}
use Rattle.format.specs.Refusals.{text_too_long, accepted, at_most}
use Rattle.format.specs.Validators.{utf8}
use Rattle.format.specs.Reading.{sections, body_of, Parts, parts_of, text_parts}
use Rattle.format.proofs.Lists.{texts_append, length_texts}
use Rattle.format.proofs.Steps.{accepted_same, refused_accepted, then_accepted}
use Rattle.octets.proofs.Paste.{pasted_nil, length_pasted, pasted_pasted, pasted_start, pasted_all}
use Rattle.sections.specs.Body.{led, parts_from, body_parts, filled}

-- the length of a part
pub led_length : (ahead : Bool) (s : Bytes) → length (led ahead s) ≡ (if ahead then 4 else 0) + length s
unfolding led
led_length true s = length-append crlf_crlf_text s
led_length false s = omega arith

-- the parts of a body make it up
parts_led : (ss : List Bytes) → flat (parts_from true ss) ≡ texts (λ s. crlf_crlf_text ++ s) ss
unfolding texts parts_from led
parts_led [] = refl
parts_led (s ∷ ss) = ap (λ (x : Bytes). (crlf_crlf_text ++ s) ++ x) (parts_led ss)

pub parts_make_body : (ss : List Bytes) → flat (body_parts ss) ≡ body_of ss
unfolding texts parts_from led body_of join
parts_make_body [] = refl
parts_make_body (s ∷ ss) = ap (λ (x : Bytes). s ++ x) (parts_led ss)

-- their lengths add up to its length, CRLFCRLF ahead of it being four more
pub parts_total : (ahead : Bool) (q : Pieces) → total length (parts_from ahead (pieces q)) ≡ (if ahead then 4 else 0) + length (body_of (pieces q))
unfolding total parts_from body_of join
parts_total ahead q =
    omega (
      arith,
      led_length ahead q.first,
      sym (length_texts (λ p. p) (parts_from true q.rest)) ∙ ap length (parts_led q.rest),
      length-append q.first (texts (λ s. crlf_crlf_text ++ s) q.rest),
    )

-- each stands in it behind those before it, for exactly its length
pub part_place : (ss before after : List Bytes) (p : Bytes) → body_parts ss ≡ before ++ (p ∷ after)
    → take (length p) (drop (total length before) (body_of ss)) ≡ p
unfolding texts
part_place ss before after p e =
    let whole : body_of ss ≡ flat before ++ (p ++ flat after) = sym (parts_make_body ss) ∙ ap flat e ∙ texts_append (λ q. q) before (p ∷ after) in
    ap (λ (b : Bytes). take (length p) (drop (total length before) b)) whole
    ∙ ap (λ (n : ℕ). take (length p) (drop n (flat before ++ (p ++ flat after)))) (sym (length_texts (λ q. q) before))
    ∙ ap (take (length p)) (drop-append_seam (flat before) (p ++ flat after))
    ∙ take-append_seam p (flat after)

-- T-05 of a text that has a body, under either separator: the sections from the fourth on have parts, one for each, which stand one behind
-- another and make it up. (That a step is lent its part and fills it is the contract of `bodies::fill_section`.)
pub record PartsOfBody (t b : Bytes) (ss : List Bytes) : Type 0 where
  pub fourth : (first : Bytes) × (second : Bytes) × (third : Bytes) × (sections t ≡ first ∷ second ∷ third ∷ ss)
  pub make_up : flat (body_parts ss) ≡ b
  pub stand : (before after : List Bytes) (p : Bytes) → body_parts ss ≡ before ++ (p ∷ after) → take (length p) (drop (total length before) b) ≡ p

by_sections : (t : Bytes) (cut : List Bytes) (p : Parts) → sections t ≡ cut → parts_of cut ≡ accepted p → (ss : List Bytes) × PartsOfBody t p.body ss
unfolding parts_of
by_sections t [] p e h = refused_accepted _ p h
by_sections t (a ∷ []) p e h = refused_accepted _ p h
by_sections t (a ∷ b ∷ []) p e h = refused_accepted _ p h
by_sections t (a ∷ b ∷ c ∷ []) p e h = refused_accepted _ p h
by_sections t (a ∷ b ∷ c ∷ d ∷ rest) p e h =
    let body : body_of (d ∷ rest) ≡ p.body = ap (λ (q : Parts). q.body) (accepted_same _ p h) in (
      d ∷ rest,
      record {
        fourth = (a, b, c, e);
        make_up = parts_make_body (d ∷ rest) ∙ body;
        stand = λ before after q k. ap (λ (x : Bytes). take (length q) (drop (total length before) x)) (sym body) ∙ part_place (d ∷ rest) before after q k;
      },
    )

pub parts_of_body : (t : Bytes) (p : Parts) → text_parts t ≡ accepted p → (ss : List Bytes) × PartsOfBody t p.body ss
unfolding text_parts
parts_of_body t p h =
    by_sections t (sections t) p refl (then_accepted (utf8 t) _ p (then_accepted (at_most max_text text_too_long (length t)) _ p h).0).0

-- one part more, or none
module _ (at : ℕ) (p : Bytes) (ps : List Bytes) (d : Bytes) where
  pub filled_next : at + length p ≤ length d → filled at (p ∷ ps) d ≡ filled (at + length p) ps (pasted at p d)
  unfolding filled
  filled_next h = rw (le-leb (at + length p) (length d) h) refl

  pub filled_short : length d < at + length p → filled at (p ∷ ps) d ≡ d
  unfolding filled
  filled_short h = rw (lt-leb (at + length p) (length d) h) refl

-- a store with room for all holds all of them
filled_all : (ps : List Bytes) (at : ℕ) (d : Bytes) → at + total length ps ≤ length d → filled at ps d ≡ pasted at (flat ps) d
unfolding filled total texts
filled_all [] at d h = sym (pasted_nil at d)
filled_all (p ∷ ps) at d h =
    filled_next at p ps d (omega arith)
    ∙ filled_all ps (at + length p) (pasted at p d) (omega (arith, length_pasted at p d (omega arith)))
    ∙ pasted_pasted at p (flat ps) d (omega arith)

pub filled_body : (ss : List Bytes) (d : Bytes) → length (body_of ss) ≤ length d → filled 0 (body_parts ss) d ≡ over (body_of ss) d
filled_body ss d h =
    filled_all (body_parts ss) 0 d (omega (arith, sym (length_texts (λ p. p) (body_parts ss)) ∙ ap length (parts_make_body ss)))
    ∙ ap (λ (s : Bytes). pasted 0 s d) (parts_make_body ss)
    ∙ pasted_start (body_of ss) d

-- A part that is as long as what is copied into it, in one piece or behind CRLFCRLF.
pub fill_first : (s part : Bytes) → length part ≡ length (led false s) → pasted 0 s part ≡ led false s
unfolding led
fill_first s part e = pasted_all s part (sym e)

pub fill_led : (s part : Bytes) → length part ≡ length (led true s) → pasted 4 s (pasted 0 crlf_crlf_text part) ≡ led true s
unfolding led
fill_led s part e =
    pasted_pasted 0 crlf_crlf_text s part (omega arith) ∙ pasted_all (crlf_crlf_text ++ s) part (sym e)

-- no bytes behind the lead
pub fill_lead : (s part : Bytes) → length s ≡ 0 → length part ≡ length (led true s) → pasted 0 crlf_crlf_text part ≡ led true s
fill_lead [] part n e = sym (pasted_nil 4 (pasted 0 crlf_crlf_text part)) ∙ fill_led [] part e
fill_lead (b ∷ s) part n e = absurd (omega arith)
