-- What is light passes the validators and is UTF-8; an empty name passes none. Assumes nothing.
use mathlib.Core.Path.{◌≡◌, refl}
use mathlib.Core.Bool.{true, false}
use native.Mathlib.Omega.{arith}
use lib.ListN.{length}
use borrow.Author.Tests.{le-leb}
use Rattle.format.specs.Bytes.{Bytes}
use Rattle.format.specs.Characters.{is_ascii_control}
use Rattle.format.specs.Refusals.{refuse_if, at_most, passes, ◌>>◌}
use Rattle.format.specs.Validators.{reserved_in_name, reserved_in_param_name, reserved_in_param_value, header_name, header_value, content_value, param_name, param_value}
use Rattle.validate.proofs.EmptyText.{empty_is, empty_not}
use Rattle.store_entry_check.specs.Weights.{is_light}
use Rattle.store_entry_check.proofs.Light.{light_control, light_value, light_param_name, light_name, none_light, utf8_light, light_short, light_weight}
use Rattle.store_entry_check.specs.Kinds.{name_check, value_check}
use Rattle.store_entry_check.specs.declared.kinds.Kind.{Kind}
use Rattle.store_entry_check.specs.declared.kinds.Kind.TheVariants.{Header, Param, Content}
use Rattle.store_entry_check.specs.Fitting.{name_fits, value_fits, limit_of}

pub empty_name_lem : (k : Kind) (s : Bytes) → length s ≡ 0 → name_fits k s ≡ false
unfolding name_fits name_check header_name param_name refuse_if passes ◌>>◌
empty_name_lem Header s h = rw (empty_is s h) refl
empty_name_lem Param s h = rw (empty_is s h) refl
empty_name_lem Content s h = rw (empty_is s h) refl

module _ (s : Bytes) where
  header_light : is_light 1 s ≡ true → (length s ≡ 0 → ⊥) → name_fits Header s ≡ true
  unfolding name_fits name_check header_name at_most refuse_if passes ◌>>◌
  header_light h n =
      let short = light_short 1 s h in
      let w = light_weight 1 s h in
      rw (empty_not s n, le-leb (length s) 128 (omega arith), none_light is_ascii_control 1 (λ b l. light_control b (omega arith)) s w, none_light reserved_in_name 1 light_name s w, utf8_light s (omega arith))
      refl

  param_light : is_light 1 s ≡ true → (length s ≡ 0 → ⊥) → name_fits Param s ≡ true
  unfolding name_fits name_check param_name at_most refuse_if passes ◌>>◌
  param_light h n =
      let short = light_short 1 s h in
      let w = light_weight 1 s h in
      rw (empty_not s n, le-leb (length s) 64 (omega arith), none_light reserved_in_param_name 1 light_param_name s w, utf8_light s (omega arith)) refl

  content_light : is_light 1 s ≡ true → (length s ≡ 0 → ⊥) → name_fits Content s ≡ true
  unfolding name_fits name_check
  content_light h n = unfold name_fits name_check in header_light h n

pub name_light : (k : Kind) (s : Bytes) → is_light 1 s ≡ true → (length s ≡ 0 → ⊥) → name_fits k s ≡ true
name_light Header s h n = header_light s h n
name_light Param s h n = param_light s h n
name_light Content s h n = content_light s h n

pub value_light : (k : Kind) (s : Bytes) → is_light (limit_of k) s ≡ true → value_fits k s ≡ true
unfolding value_fits value_check header_value content_value param_value at_most refuse_if passes ◌>>◌
value_light Header s h =
    let short = light_short 255 s h in
    rw (le-leb (length s) 1024 (omega arith), utf8_light s (light_weight 255 s h)) refl
value_light Param s h =
    let short = light_short 32 s h in
    let w = light_weight 32 s h in
    rw (le-leb (length s) 256 (omega arith), none_light reserved_in_param_value 32 light_value s w, utf8_light s (omega arith)) refl
value_light Content s h =
    let short = light_short 255 s h in
    let w = light_weight 255 s h in
    rw (le-leb (length s) 1024 (omega arith), none_light is_ascii_control 255 light_control s w, utf8_light s w) refl
