-- What is asked of the name and of the value of an entry by its kind: the validators, and UTF-8. Assumes nothing.
use Rattle.std.specs.Prelude.{ℕ, Bool, ◌&&◌}
use Rattle.format.specs.Bytes.{Bytes}
use Rattle.format.specs.Characters.{is_utf8}
use Rattle.format.specs.Refusals.{passes}
use Rattle.store_entry_check.specs.Kinds.{name_check, value_check}
use Rattle.store_entry_check.specs.declared.kinds.Kind.{Kind}
use Rattle.store_entry_check.specs.declared.kinds.Kind.TheVariants.{Header, Param, Content}

unfoldable pub name_fits : Kind → Bytes → Bool
name_fits k n = passes (name_check k n) && is_utf8 n

unfoldable pub value_fits : Kind → Bytes → Bool
value_fits k v = passes (value_check k v) && is_utf8 v

-- the weight of the lightest byte that the validator of a value refuses, or that is beyond ASCII
abbrev pub limit_of : Kind → ℕ
limit_of Header = 255
limit_of Param = 32
limit_of Content = 255
