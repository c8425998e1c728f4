-- Document 02, T-01: parameters as they are written, `;` before each, are read back part by part. Weighed by its length and 14 for each `;`, the
-- text of parameters weighs their need, and what is read of any text needs at most what the text weighs. Assumes nothing.
use Rattle.std.specs.Prelude.{if◌then◌else◌}
use Prim.Native.Nat.{ℕ, suc, ◌+◌, ◌≤◌, ◌<◌}
use mathlib.Core.Path.{◌≡◌, refl, sym, ap, ◌∙◌}
use mathlib.Core.Bool.{true, false}
use mathlib.Core.Logic.{⊎_elim}
use mathlib.Core.List.{List, [], ◌∷◌, ◌++◌, map, append_assoc, append-nil}
use native.Mathlib.Omega.{arith}
use lib.Dec.{eqb}
use lib.ListN.{length, length-append}
use Rattle.format.specs.Bytes.{Bytes, ascii, all, any, total, texts, semicolon, equals, space, has, up_to, past, Pieces, split, split_from, begins, before}
use Rattle.format.specs.Characters.{is_ascii_control}
use Rattle.format.specs.Limits.{max_params}
use Rattle.format.specs.Refusals.{param_lacks_equals, too_many_params, accepted}
use Rattle.format.specs.Validators.{reserved_in_param_name, reserved_in_param_value}
use Rattle.format.specs.Message.{Entry, entry, entry_name, increasing, need_entry, valid_param}
use Rattle.format.specs.Calls.{set_param, param_count}
use Rattle.format.specs.Reading.{each}
use Rattle.format.specs.ReadingRfc.{read_param_rfc}
use Rattle.format.specs.Writing.{param_text}
use Rattle.format.specs.SecondReading.{spaceless_param}
use Rattle.format.proofs.Lists.{bcase, clash, or_false_left, or_false_right, all_head, all_tail}
use Rattle.format.proofs.Rulesets.{tests}
use Rattle.format.proofs.Splitting.Split.{split_none, split_at, split_line, occurs_clear, has_append, has_at, up_to_at, past_at, up_to_past}
use Rattle.format.proofs.Steps.{then_accepted, then_passed, bind_passed, refuse_unless_passes, refuse_unless_passed, at_most_passed}
use Rattle.format.proofs.Messages.Accepted.{set_param_accepted}
use Rattle.format.proofs.Messages.Checked.{param_name_checked, param_value_checked, free_of}
use Rattle.format.proofs.Messages.Keyed.{total_put}
use Rattle.format.proofs.Messages.Parts.{param_parts}
use Rattle.format.proofs.Texts.Last.{put_last, increasing_last}
use Rattle.format.proofs.Texts.ReadOver.{each_total}

-- a parameter without its `;`
abbrev part : Entry → Bytes
part e = e.name ++ (ascii "=" ++ e.value)

-- bytes that stand in no parameter name, and in no parameter value
name_semicolon : (e : Entry) → valid_param e ≡ true → has semicolon e.name ≡ false
unfolding reserved_in_param_name is_ascii_control any
name_semicolon e v = free_of reserved_in_param_name semicolon refl e.name (param_name_checked e.name (param_parts e v).named)

name_equals : (e : Entry) → valid_param e ≡ true → has equals e.name ≡ false
unfolding reserved_in_param_name is_ascii_control any
name_equals e v = free_of reserved_in_param_name equals refl e.name (param_name_checked e.name (param_parts e v).named)

value_semicolon : (e : Entry) → valid_param e ≡ true → has semicolon e.value ≡ false
unfolding reserved_in_param_value is_ascii_control any
value_semicolon e v = free_of reserved_in_param_value semicolon refl e.value (param_value_checked e.value (param_parts e v).valued)

part_semicolon : (e : Entry) → valid_param e ≡ true → has semicolon (part e) ≡ false
unfolding any
part_semicolon e v = has_append semicolon e.name (equals ∷ e.value) ∙ rw (name_semicolon e v, value_semicolon e v) refl

-- the parts between `;`
parts_split : (e : Entry) (es : List Entry) → all valid_param (e ∷ es) ≡ true
    → split (semicolon ∷ []) (part e ++ texts param_text es) ≡ record { first = part e; rest = map part es }
unfolding texts param_text
parts_split e [] v =
    ap (split (semicolon ∷ [])) (append-nil (part e))
    ∙ split_none (semicolon ∷ []) (part e) (occurs_clear semicolon [] (part e) (part_semicolon e (all_head valid_param e [] v)))
parts_split e (f ∷ es) v =
    split_line semicolon [] (part e) (part f ++ texts param_text es) (part_semicolon e (all_head valid_param e (f ∷ es) v))
    ∙ rw (parts_split f es (all_tail valid_param e (f ∷ es) v)) refl

-- what stands before the first `;` is empty, so the parts are those behind it
pub rest_split : (es : List Entry) → all valid_param es ≡ true → (split (semicolon ∷ []) (texts param_text es)).rest ≡ map part es
unfolding texts param_text split_from
rest_split [] v = refl
rest_split (e ∷ es) v = ap (λ (p : Pieces). p.rest) (split_at semicolon [] (part e ++ texts param_text es)) ∙ rw (parts_split e es v) refl

-- Back: one parameter more behind those that come before it.
param_last : (e : Entry) (es : List Entry) → valid_param e ≡ true → all (λ x. before x.name e.name) es ≡ true → suc (length es) ≤ max_params
    → read_param_rfc (part e) es ≡ accepted (es ++ (e ∷ []))
unfolding read_param_rfc set_param param_count
param_last e es v o c =
    let w = param_parts e v in
    let n = name_equals e v in
    then_passed _ _ (refuse_unless_passed (has equals (e.name ++ (equals ∷ e.value))) param_lacks_equals (has_at equals e.name e.value))
    ∙ rw (up_to_at equals e.name e.value n, past_at equals e.name e.value n)
    (then_passed _ _ w.named
    ∙ then_passed _ _ w.valued
    ∙ then_passed _ _ (at_most_passed max_params too_many_params (length es + 1) (omega arith))
    ∙ ap accepted (put_last e es o))

pub params_back : (es ks : List Entry) → all valid_param ks ≡ true → increasing entry_name (es ++ ks) ≡ true → length (es ++ ks) ≤ max_params
    → each read_param_rfc (map part ks) es ≡ accepted (es ++ ks)
unfolding each
params_back es [] v o l = ap accepted (sym (append-nil es))
params_back es (k ∷ ks) v o l =
    let a = append_assoc es (k ∷ []) ks in
    bind_passed (read_param_rfc (part k) es) _ (es ++ (k ∷ []))
    (param_last k es (all_head valid_param k ks v) (increasing_last entry_name es k ks o) (omega (arith, length-append es (k ∷ ks))))
    ∙ params_back (es ++ (k ∷ [])) ks (all_tail valid_param k ks v) (rw a o) (rw a l)
    ∙ ap accepted a

-- Spaces: none stands in the text exactly where none stands in a parameter.
param_spaces : (e : Entry) → has space (param_text e) ≡ false → spaceless_param e ≡ true
unfolding param_text spaceless_param any
param_spaces e h =
    let c = sym (has_append space e.name (equals ∷ e.value)) ∙ h in
    rw (or_false_left (has space e.name) (has space e.value) c, or_false_right (has space e.name) (has space e.value) c) refl

param_spaceless : (e : Entry) → spaceless_param e ≡ true → has space (param_text e) ≡ false
unfolding param_text spaceless_param any
param_spaceless e h =
    let c = simp tests at h in
    has_append space e.name (equals ∷ e.value) ∙ rw (c.0, c.1) refl

pub spaceless_text : (es : List Entry) → all spaceless_param es ≡ true → has space (texts param_text es) ≡ false
unfolding texts any
spaceless_text [] h = refl
spaceless_text (e ∷ es) h =
    has_append space (param_text e) (texts param_text es)
    ∙ rw (param_spaceless e (all_head spaceless_param e es h), spaceless_text es (all_tail spaceless_param e es h)) refl

text_spaceless : (es : List Entry) → has space (texts param_text es) ≡ false → all spaceless_param es ≡ true
unfolding texts all
text_spaceless [] h = refl
text_spaceless (e ∷ es) h =
    let a = sym (has_append space (param_text e) (texts param_text es)) ∙ h in
    rw (param_spaces e (or_false_left (has space (param_text e)) (has space (texts param_text es)) a))
    (text_spaceless es (or_false_right (has space (param_text e)) (has space (texts param_text es)) a))

pub space_text : (es : List Entry) → all spaceless_param es ≡ false → has space (texts param_text es) ≡ true
space_text es h = ⊎_elim (λ e. e) (λ e. clash (text_spaceless es e) h) (bcase (has space (texts param_text es)))

-- Weights.
unfoldable pub weight : Bytes → ℕ
weight [] = 0
weight (b ∷ s) = (if eqb semicolon b then 15 else 1) + weight s

weight_append : (s t : Bytes) → weight (s ++ t) ≡ weight s + weight t
unfolding weight
weight_append [] t = omega arith
weight_append (b ∷ s) t = omega (arith, weight_append s t)

weight_clear : (s : Bytes) → has semicolon s ≡ false → weight s ≡ length s
unfolding weight any
weight_clear [] h = refl
weight_clear (b ∷ s) h =
    rw (or_false_left (eqb semicolon b) (has semicolon s) h) (omega (arith, weight_clear s (or_false_right (eqb semicolon b) (has semicolon s) h)))

-- a text up to its first space is lighter than the whole
pub lighter : (s : Bytes) → has space s ≡ true → weight (up_to space s) < weight s
unfolding weight
lighter s h = omega (arith, ap weight (up_to_past space s h) ∙ weight_append (up_to space s) (space ∷ past space s))

-- the parameters written weigh their need
param_weighs : (e : Entry) → valid_param e ≡ true → weight (param_text e) ≡ need_entry e
unfolding param_text need_entry weight
param_weighs e v =
    omega (arith, weight_append e.name (equals ∷ e.value), weight_clear e.name (name_semicolon e v), weight_clear e.value (value_semicolon e v))

pub params_weigh : (es : List Entry) → all valid_param es ≡ true → weight (texts param_text es) ≡ total need_entry es
unfolding texts weight total
params_weigh [] v = refl
params_weigh (e ∷ es) v =
    weight_append (param_text e) (texts param_text es)
    ∙ omega (arith, param_weighs e (all_head valid_param e es v), params_weigh es (all_tail valid_param e es v))

-- each part behind a `;` weighs 15 and its length, and those of a text all that follows its first `;`
abbrev behind : Bytes → ℕ
behind l = 15 + length l

parts_step : (b : ℕ) (s : Bytes) → length (split (semicolon ∷ []) s).first + total behind (split (semicolon ∷ []) s).rest ≡ weight s
    → length (split (semicolon ∷ []) (b ∷ s)).first + total behind (split (semicolon ∷ []) (b ∷ s)).rest ≡ weight (b ∷ s)
unfolding split_from weight total begins
parts_step b s h = ⊎_elim (λ e. rw e (omega (arith, h))) (λ e. rw e (omega (arith, h))) (bcase (eqb semicolon b))

parts_weigh : (s : Bytes) → length (split (semicolon ∷ []) s).first + total behind (split (semicolon ∷ []) s).rest ≡ weight s
unfolding split_from weight total
parts_weigh [] = refl
parts_weigh (b ∷ s) = parts_step b s (parts_weigh s)

-- a parameter that is read needs at most what its part weighs
param_step : (l : Bytes) (es fs : List Entry) → true ≡ true → read_param_rfc l es ≡ accepted fs → total need_entry fs ≤ total need_entry es + behind l
unfolding read_param_rfc need_entry
param_step l es fs q h =
    let a = then_accepted _ _ _ h in
    let there = refuse_unless_passes (has equals l) param_lacks_equals a.1 in
    let e = (set_param_accepted (up_to equals l) (past equals l) es fs a.0).0 in
    let long : length l ≡ length (up_to equals l) + suc (length (past equals l)) =
    ap length (up_to_past equals l there) ∙ length-append (up_to equals l) (equals ∷ past equals l) in
    rw e (omega (arith, total_put (entry (up_to equals l) (past equals l)) es, long))

-- so what is read of a text needs at most what it weighs
pub params_read : (s : Bytes) (fs : List Entry) → each read_param_rfc (split (semicolon ∷ []) s).rest [] ≡ accepted fs → total need_entry fs ≤ weight s
unfolding total all
params_read s fs h =
    let ls = (split (semicolon ∷ []) s).rest in
    omega (arith, each_total (total need_entry) behind (λ l. true) read_param_rfc param_step ls [] fs (every ls) h, parts_weigh s)
  where
    every : (ls : List Bytes) → all (λ l. true) ls ≡ true
    every [] = refl
    every (l ∷ ls) = every ls
