-- What the three kinds of entries ask of one: the validators of its name and value, its parameters, the name before it. Assumes nothing.
use Rattle.std.specs.Prelude.{ℕ, Bool, not, ◌&&◌, leb, eqb}
use Rattle.format.specs.Bytes.{Bytes, is_empty, before}
use Rattle.format.specs.Limits.{max_params}
use Rattle.format.specs.Refusals.{Check}
use Rattle.format.specs.Validators.{header_name, header_value, content_value, param_name, param_value}
use Rattle.store_entry_check.specs.declared.kinds.Kind.{Kind}
use Rattle.store_entry_check.specs.declared.kinds.Kind.TheVariants.{Header, Param, Content}

-- the validators of names and of values
unfoldable pub name_check : Kind → Bytes → Check
name_check Header n = header_name n
name_check Param n = param_name n
name_check Content n = header_name n

unfoldable pub value_check : Kind → Bytes → Check
value_check Header v = header_value v
value_check Param v = param_value v
value_check Content v = content_value v

-- parameters have none of their own, and neither have content headers
unfoldable pub params_fit : Kind → ℕ → Bytes → Bool
params_fit Header k t = leb k max_params
params_fit Param k t = eqb k 0 && is_empty t
params_fit Content k t = eqb k 0 && is_empty t

-- a name that may stand behind another one; behind none (the empty name) any may
unfoldable pub follows : Kind → Bytes → Bytes → Bool
follows Header last name = not (before name last)
follows Param last name = before last name
follows Content last name = before last name
