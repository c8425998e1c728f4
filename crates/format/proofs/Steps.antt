-- Laws of checks and steps: what an accepted chain of steps says of each, and that a passing check computes away.
-- Assumes nothing.
use Rattle.std.specs.Prelude.{if◌then◌else◌}
use Prim.Native.Nat.{ℕ, ◌≤◌}
use mathlib.Core.Path.{◌≡◌, refl, ap}
use mathlib.Core.Bool.{Bool, true, false, not, false≢true}
use mathlib.Core.List.{List, [], ◌∷◌}
use native.Mathlib.Omega.{arith}
use lib.Dec.{leb, eqb}
use borrow.Author.Tests.{leb-true, le-leb, ne_eqb, not-false}
use Rattle.format.specs.Bytes.{all}
use Rattle.format.specs.Refusals.{Refusal, text_too_long, too_few_sections, no_message_cpim, lacks_colon, bad_escape, name_empty, name_too_long, name_control, name_reserved, value_too_long, content_control, param_name_empty, param_name_too_long, param_name_reserved, param_value_too_long, param_value_reserved, type_empty, type_too_long, type_control, too_many_headers, too_many_params, too_many_contents, body_too_long, not_utf8, no_room, too_short, param_lacks_equals, lacks_space, table, Out, accepted, refused, numbers, Check, refuse_if, at_most, passes, ◌>>◌, ◌>>=◌}
use Rattle.format.specs.Reading.{each}
use Rattle.format.proofs.Lists.{all_head, all_tail}

-- a refusal is no acceptance
pub refused_accepted : {A P : Type 0} (r : Refusal) (a : A) → refused r ≡ accepted a → P
refused_accepted r a h =
    let z : ◌≡◌ {A = ℕ} 0 1 = cc in
    absurd (omega arith)

pub accepted_same : {A : Type 0} (a b : A) → accepted a ≡ accepted b → a ≡ b
accepted_same a b h = cc

-- a check in front of an accepted rest has passed
pub then_accepted : {B : Type 0} (x : Check) (k : Out B) (b : B) → ◌>>◌ x k ≡ accepted b → (k ≡ accepted b) × (passes x ≡ true)
unfolding ◌>>◌ passes
then_accepted (accepted a) k b h = (h, refl)
then_accepted (refused r) k b h = refused_accepted r b h

-- so has a check in front of a check
pub then_passes : (x y : Check) → passes (◌>>◌ x y) ≡ true → (passes x ≡ true) × (passes y ≡ true)
unfolding ◌>>◌ passes
then_passes (accepted a) y h = (refl, h)
then_passes (refused r) y h = absurd (false≢true h)

-- a passing check computes away
pub then_passed : {B : Type 0} (x : Check) (k : Out B) → passes x ≡ true → ◌>>◌ x k ≡ k
unfolding ◌>>◌ passes
then_passed (accepted a) k h = refl
then_passed (refused r) k h = absurd (false≢true h)

pub bind_accepted : {A B : Type 0} (x : Out A) (f : A → Out B) (b : B) → ◌>>=◌ x f ≡ accepted b → (a : A) × (x ≡ accepted a) × (f a ≡ accepted b)
unfolding ◌>>=◌
bind_accepted (accepted a) f b h = (a, refl, h)
bind_accepted (refused r) f b h = refused_accepted r b h

-- an accepted step hands on what it gives
pub bind_passed : {A B : Type 0} (x : Out A) (f : A → Out B) (a : A) → x ≡ accepted a → ◌>>=◌ x f ≡ f a
unfolding ◌>>=◌
bind_passed x f a h = rw h refl

-- a check, and a step, before two others
pub then_on : {A B : Type 0} (x : Check) (y : Out A) (f : A → Out B) → ◌>>◌ x (◌>>=◌ y f) ≡ ◌>>=◌ (◌>>◌ x y) f
unfolding ◌>>◌ ◌>>=◌
then_on (accepted u) y f = refl
then_on (refused r) y f = refl

pub bind_on : {A B C : Type 0} (x : Out A) (f : A → Out B) (g : B → Out C) → ◌>>=◌ x (λ a. ◌>>=◌ (f a) g) ≡ ◌>>=◌ (◌>>=◌ x f) g
unfolding ◌>>=◌
bind_on (accepted a) f g = refl
bind_on (refused r) f g = refl

-- a check in front of what is handed on
pub then_bind : {A B : Type 0} (x : Check) (a : A) (f : A → Out B) → ◌>>=◌ (◌>>◌ x (accepted a)) f ≡ ◌>>◌ x (f a)
unfolding ◌>>=◌ ◌>>◌
then_bind (accepted u) a f = refl
then_bind (refused r) a f = refl

pub refuse_if_passes : (t : Bool) (r : Refusal) → passes (refuse_if t r) ≡ true → t ≡ false
unfolding refuse_if passes
refuse_if_passes true r h = absurd (false≢true h)
refuse_if_passes false r h = refl

pub refuse_if_passed : (t : Bool) (r : Refusal) → t ≡ false → passes (refuse_if t r) ≡ true
unfolding refuse_if passes
refuse_if_passed t r h = rw h refl

-- a test that has to hold
pub refuse_unless_passes : (t : Bool) (r : Refusal) → passes (refuse_if (not t) r) ≡ true → t ≡ true
refuse_unless_passes t r h = not-false t (refuse_if_passes (not t) r h)

pub refuse_unless_passed : (t : Bool) (r : Refusal) → t ≡ true → passes (refuse_if (not t) r) ≡ true
refuse_unless_passed t r h = refuse_if_passed (not t) r (ap not h)

pub at_most_passes : (limit : ℕ) (r : ℕ → Refusal) (n : ℕ) → passes (at_most limit r n) ≡ true → n ≤ limit
unfolding at_most
at_most_passes limit r n h = leb-true n limit (refuse_unless_passes (leb n limit) (r n) h)

pub at_most_passed : (limit : ℕ) (r : ℕ → Refusal) (n : ℕ) → n ≤ limit → passes (at_most limit r n) ≡ true
unfolding at_most
at_most_passed limit r n h = refuse_unless_passed (leb n limit) (r n) (le-leb n limit h)

-- no refusal has the number 0
pub refused_number : (r : Refusal) → (table r).number ≡ 0 → ⊥
unfolding table
refused_number (text_too_long n) h = omega arith
refused_number too_few_sections h = omega arith
refused_number no_message_cpim h = omega arith
refused_number lacks_colon h = omega arith
refused_number bad_escape h = omega arith
refused_number name_empty h = omega arith
refused_number (name_too_long n) h = omega arith
refused_number name_control h = omega arith
refused_number name_reserved h = omega arith
refused_number (value_too_long n) h = omega arith
refused_number content_control h = omega arith
refused_number param_name_empty h = omega arith
refused_number (param_name_too_long n) h = omega arith
refused_number param_name_reserved h = omega arith
refused_number (param_value_too_long n) h = omega arith
refused_number param_value_reserved h = omega arith
refused_number type_empty h = omega arith
refused_number (type_too_long n) h = omega arith
refused_number type_control h = omega arith
refused_number (too_many_headers n) h = omega arith
refused_number (too_many_params n) h = omega arith
refused_number (too_many_contents n) h = omega arith
refused_number (body_too_long n) h = omega arith
refused_number not_utf8 h = omega arith
refused_number (no_room n) h = omega arith
refused_number (too_short n) h = omega arith
refused_number param_lacks_equals h = omega arith
refused_number lacks_space h = omega arith

-- a check passes where its number is 0
pub passes_number : (c : Check) → eqb (numbers c).number 0 ≡ passes c
unfolding numbers passes
passes_number (accepted a) = refl
passes_number (refused r) = ne_eqb (table r).number 0 (refused_number r)

-- What every accepted step keeps, the whole keeps; Q is what is known of the elements.
module _ {A B : Type 0} (P : B → Type 0) (Q : A → Bool) (run : A → B → Out B)
    (keeps : (x : A) (b c : B) → Q x ≡ true → P b → run x b ≡ accepted c → P c) where
  pub each_keeps : (xs : List A) (b c : B) → all Q xs ≡ true → P b → each run xs b ≡ accepted c → P c
  unfolding each
  each_keeps [] b c h p e = rw (accepted_same b c e) at p
  each_keeps (x ∷ xs) b c h p e =
      let k = bind_accepted (run x b) (each run xs) c e in
      each_keeps xs k.0 c (all_tail Q x xs h) (keeps x b k.0 (all_head Q x xs h) p k.1) k.2

-- an accepted choice is one of its two
pub if_accepted : {A P : Type 0} (t : Bool) (x y : Out A) (a : A) → (t ≡ true → x ≡ accepted a → P) → (t ≡ false → y ≡ accepted a → P)
    → (if t then x else y) ≡ accepted a → P
if_accepted true x y a f g h = f refl h
if_accepted false x y a f g h = g refl h
