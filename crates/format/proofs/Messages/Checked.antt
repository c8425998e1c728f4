-- What a text is that has passed its validator: the checks of a `do` block pass one by one. Assumes nothing.
use Prim.Native.Nat.{ℕ, ◌≤◌}
use mathlib.Core.Path.{◌≡◌, refl, sym, ap, ◌∙◌}
use mathlib.Core.Bool.{Bool, true, false}
use mathlib.Core.List.{List, [], ◌∷◌}
use lib.Dec.{leb, ltb, eqb}
use lib.ListN.{length}
use borrow.Author.Tests.{le-leb, ltb-false, ne_eqb}
use Rattle.format.specs.Bytes.{is_empty, Bytes, all, any, has}
use Rattle.format.specs.Characters.{is_ascii_control}
use Rattle.format.specs.Limits.{max_name, max_value, max_param_name, max_param_value, max_type}
use Rattle.format.specs.Refusals.{name_empty, name_too_long, name_control, name_reserved, value_too_long, content_control, param_name_empty, param_name_too_long, param_name_reserved, param_value_too_long, param_value_reserved, type_empty, type_too_long, type_control, refuse_if, at_most, passes, ◌>>◌}
use Rattle.format.specs.Validators.{reserved_in_name, reserved_in_param_name, reserved_in_param_value, header_name, header_value, content_value, param_name, param_value, content_type}
use Rattle.format.proofs.Lists.{clash, or_false_left, or_false_right, all_cons}
use Rattle.format.proofs.Steps.{then_passes, refuse_if_passes, at_most_passes}

-- a header name
pub record Name (s : Bytes) : Type 0 where
  pub filled : is_empty s ≡ false
  pub short : length s ≤ 128
  pub clear : any is_ascii_control s ≡ false
  pub free : any reserved_in_name s ≡ false

pub name_checked : (s : Bytes) → passes (header_name s) ≡ true → Name s
unfolding header_name
name_checked s h =
    let a = refuse_if (is_empty s) name_empty in
    let b = at_most max_name name_too_long (length s) in
    let c = refuse_if (any is_ascii_control s) name_control in
    let d = refuse_if (any reserved_in_name s) name_reserved in
    let k = then_passes a (◌>>◌ b (◌>>◌ c d)) h in
    let l = then_passes b (◌>>◌ c d) k.1 in
    let m = then_passes c d l.1 in
    record {
      filled = refuse_if_passes (is_empty s) name_empty k.0;
      short = at_most_passes max_name name_too_long (length s) l.0;
      clear = refuse_if_passes (any is_ascii_control s) name_control m.0;
      free = refuse_if_passes (any reserved_in_name s) name_reserved m.1;
    }

-- a content type
pub record Typed (s : Bytes) : Type 0 where
  pub filled : is_empty s ≡ false
  pub short : length s ≤ 256
  pub clear : any is_ascii_control s ≡ false

pub type_checked : (s : Bytes) → passes (content_type s) ≡ true → Typed s
unfolding content_type
type_checked s h =
    let a = refuse_if (is_empty s) type_empty in
    let b = at_most max_type type_too_long (length s) in
    let c = refuse_if (any is_ascii_control s) type_control in
    let k = then_passes a (◌>>◌ b c) h in
    let l = then_passes b c k.1 in
    record {
      filled = refuse_if_passes (is_empty s) type_empty k.0;
      short = at_most_passes max_type type_too_long (length s) l.0;
      clear = refuse_if_passes (any is_ascii_control s) type_control l.1;
    }

-- the value of a content header
pub record Content (s : Bytes) : Type 0 where
  pub short : length s ≤ 1024
  pub clear : any is_ascii_control s ≡ false

pub content_checked : (s : Bytes) → passes (content_value s) ≡ true → Content s
unfolding content_value
content_checked s h =
    let a = at_most max_value value_too_long (length s) in
    let b = refuse_if (any is_ascii_control s) content_control in
    let k = then_passes a b h in
    record { short = at_most_passes max_value value_too_long (length s) k.0; clear = refuse_if_passes (any is_ascii_control s) content_control k.1 }

-- the value of a header
pub value_checked : (s : Bytes) → passes (header_value s) ≡ true → length s ≤ 1024
unfolding header_value
value_checked s h = at_most_passes max_value value_too_long (length s) h

-- a parameter's name has no byte that is barred, nor has its value
pub param_name_checked : (s : Bytes) → passes (param_name s) ≡ true → any reserved_in_param_name s ≡ false
unfolding param_name
param_name_checked s h =
    let a = refuse_if (is_empty s) param_name_empty in
    let b = at_most max_param_name param_name_too_long (length s) in
    let c = refuse_if (any reserved_in_param_name s) param_name_reserved in
    refuse_if_passes (any reserved_in_param_name s) param_name_reserved (then_passes b c (then_passes a (◌>>◌ b c) h).1).1

pub param_value_checked : (s : Bytes) → passes (param_value s) ≡ true → any reserved_in_param_value s ≡ false
unfolding param_value
param_value_checked s h =
    let a = at_most max_param_value param_value_too_long (length s) in
    let b = refuse_if (any reserved_in_param_value s) param_value_reserved in
    refuse_if_passes (any reserved_in_param_value s) param_value_reserved (then_passes a b h).1

-- where no element passes one test, each may pass another
pub none_all : {A : Type 0} (p q : A → Bool) → ((x : A) → p x ≡ false → q x ≡ true) → (xs : List A) → any p xs ≡ false → all q xs ≡ true
unfolding any all
none_all p q f [] h = refl
none_all p q f (x ∷ xs) h = all_cons q x xs (f x (or_false_left (p x) (any p xs) h)) (none_all p q f xs (or_false_right (p x) (any p xs) h))

-- and none may pass another
pub none_none : {A : Type 0} (p q : A → Bool) → ((x : A) → p x ≡ false → q x ≡ false) → (xs : List A) → any p xs ≡ false → any q xs ≡ false
unfolding any
none_none p q f [] h = refl
none_none p q f (x ∷ xs) h =
    rw (f x (or_false_left (p x) (any p xs) h)) (none_none p q f xs (or_false_right (p x) (any p xs) h))

-- a byte that passes a test stands in no text of which no byte passes it
pub free_of : (p : ℕ → Bool) (c : ℕ) → p c ≡ true → (s : Bytes) → any p s ≡ false → has c s ≡ false
free_of p c h s k = none_none p (eqb c) (λ b e. ne_eqb c b (λ q. clash (sym (ap p q) ∙ h) e)) s k

-- a byte that is no ASCII control is 32 or more
pub printable : (b : ℕ) → is_ascii_control b ≡ false → leb 32 b ≡ true
unfolding is_ascii_control
printable b h = le-leb 32 b (ltb-false b 32 (or_false_left (ltb b 32) (eqb b 0x7F) h))

pub all_printable : (s : Bytes) → any is_ascii_control s ≡ false → all (leb 32) s ≡ true
all_printable s h = none_all is_ascii_control (leb 32) printable s h
