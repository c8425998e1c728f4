-- What the code's answers say in the definitions' words: which refusal of document 01's table (specs/Refusals.antt) one of the code's stands for,
-- what a `Result` tells, and which option an `Option` is. Assumes nothing.
use Rattle.std.specs.Prelude.{Result, Ok, Err}
use Rattle.std.specs.Prelude as std
use Rattle.std.proofs.Math.Option.{Option, none, some}
use Rattle.format.specs.Refusals.{Out, Check, accepted, refused, pass, table, ◌carrying◌}
use Rattle.format.specs.Refusals as paper
use Rattle.format.specs.declared.Numbers.{Numbers}
use Rattle.format.specs.declared.refusal.Refusal.{Refusal}
use Rattle.format.specs.declared.refusal.Refusal.TheVariants as code

unfoldable pub meant : Refusal → paper.Refusal
meant (code.TextTooLong n) = paper.text_too_long n
meant code.TooFewSections = paper.too_few_sections
meant code.NoMessageCpim = paper.no_message_cpim
meant code.LacksColon = paper.lacks_colon
meant code.BadEscape = paper.bad_escape
meant code.NameEmpty = paper.name_empty
meant (code.NameTooLong n) = paper.name_too_long n
meant code.NameControl = paper.name_control
meant code.NameReserved = paper.name_reserved
meant (code.ValueTooLong n) = paper.value_too_long n
meant code.ContentControl = paper.content_control
meant code.ParamNameEmpty = paper.param_name_empty
meant (code.ParamNameTooLong n) = paper.param_name_too_long n
meant code.ParamNameReserved = paper.param_name_reserved
meant (code.ParamValueTooLong n) = paper.param_value_too_long n
meant code.ParamValueReserved = paper.param_value_reserved
meant code.TypeEmpty = paper.type_empty
meant (code.TypeTooLong n) = paper.type_too_long n
meant code.TypeControl = paper.type_control
meant (code.TooManyHeaders n) = paper.too_many_headers n
meant (code.TooManyParams n) = paper.too_many_params n
meant (code.TooManyContents n) = paper.too_many_contents n
meant (code.BodyTooLong n) = paper.body_too_long n
meant code.NotUtf8 = paper.not_utf8
meant (code.NoRoom n) = paper.no_room n
meant (code.TooShort n) = paper.too_short n
meant code.ParamLacksEquals = paper.param_lacks_equals
meant code.LacksSpace = paper.lacks_space

-- A check's answer.
unfoldable pub checked : {A : Type 0} → Result A Refusal → Check
checked (Ok a) = pass
checked (Err r) = refused (meant r)

-- The two numbers of an answer.
unfoldable pub told : {A : Type 0} → Result A Refusal → Numbers
told (Ok a) = 0 carrying 0
told (Err r) = table (meant r)

-- An option of the code as one of the definitions.
abbrev pub given : {A : Type 0} → std.Option A → Option A
given std.None = none
given (std.Some x) = some x
