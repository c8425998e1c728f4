-- Document 01, "Validators": which numbers each gives, in order. Assumes nothing.
use Rattle.std.specs.Prelude.{ℕ, Bool, not, ◌||◌, length}
use Rattle.format.specs.Bytes.{Bytes, ascii, is_empty, any, has}
use Rattle.format.specs.Characters.{is_ascii_control, is_utf8}
use Rattle.format.specs.Limits.{max_name, max_value, max_param_name, max_param_value, max_type}
use Rattle.format.specs.Refusals.{name_empty, name_too_long, name_control, name_reserved, value_too_long, content_control, param_name_empty, param_name_too_long, param_name_reserved, param_value_too_long, param_value_reserved, type_empty, type_too_long, type_control, not_utf8, Check, refuse_if, at_most, ◌>>◌}

-- one of `: ; = \ "`
unfoldable pub reserved_in_name : ℕ → Bool
reserved_in_name b = has b (ascii ":;=\\\"")

-- ASCII control or one of `; = \ "`
unfoldable pub reserved_in_param_name : ℕ → Bool
reserved_in_param_name b = is_ascii_control b || has b (ascii ";=\\\"")

-- ASCII control or one of `; \ "`
unfoldable pub reserved_in_param_value : ℕ → Bool
reserved_in_param_value b = is_ascii_control b || has b (ascii ";\\\"")

-- Header name: 6, 7, 8, 9 in that order.
unfoldable pub header_name : Bytes → Check
header_name s = do
  refuse_if (is_empty s) name_empty
  at_most max_name name_too_long (length s)
  refuse_if (any is_ascii_control s) name_control
  refuse_if (any reserved_in_name s) name_reserved

-- Header value: 10 only.
unfoldable pub header_value : Bytes → Check
header_value s = at_most max_value value_too_long (length s)

-- Content value: 10, 11.
unfoldable pub content_value : Bytes → Check
content_value s = do
  at_most max_value value_too_long (length s)
  refuse_if (any is_ascii_control s) content_control

-- Parameter name: 12, 13, 14.
unfoldable pub param_name : Bytes → Check
param_name s = do
  refuse_if (is_empty s) param_name_empty
  at_most max_param_name param_name_too_long (length s)
  refuse_if (any reserved_in_param_name s) param_name_reserved

-- Parameter value: 15, 16, and it may be empty.
unfoldable pub param_value : Bytes → Check
param_value s = do
  at_most max_param_value param_value_too_long (length s)
  refuse_if (any reserved_in_param_value s) param_value_reserved

-- Content type: 17, 18, 19.
unfoldable pub content_type : Bytes → Check
content_type s = do
  refuse_if (is_empty s) type_empty
  at_most max_type type_too_long (length s)
  refuse_if (any is_ascii_control s) type_control

-- Text or argument not UTF-8: 24.
unfoldable pub utf8 : Bytes → Check
utf8 s = refuse_if (not (is_utf8 s)) not_utf8
