-- Document 01, "Refusals by number": the table, with 27 and 28 of document 02, T-01, and the answer of a call that is accepted or refused.
-- Assumes nothing.
use Rattle.std.specs.Prelude.{ℕ, ◌-◌, ◌^◌, min, Bool, true, false, not, leb}
use Rattle.format.specs.declared.Numbers.{Numbers}

-- A refusal, by its condition; a number beside it is the actual length or count, or the bytes needed.
pub data Refusal : Type 0 where
  text_too_long : ℕ → Refusal
  too_few_sections : Refusal
  no_message_cpim : Refusal
  lacks_colon : Refusal
  bad_escape : Refusal
  name_empty : Refusal
  name_too_long : ℕ → Refusal
  name_control : Refusal
  name_reserved : Refusal
  value_too_long : ℕ → Refusal
  content_control : Refusal
  param_name_empty : Refusal
  param_name_too_long : ℕ → Refusal
  param_name_reserved : Refusal
  param_value_too_long : ℕ → Refusal
  param_value_reserved : Refusal
  type_empty : Refusal
  type_too_long : ℕ → Refusal
  type_control : Refusal
  too_many_headers : ℕ → Refusal
  too_many_params : ℕ → Refusal
  too_many_contents : ℕ → Refusal
  body_too_long : ℕ → Refusal
  not_utf8 : Refusal
  no_room : ℕ → Refusal
  too_short : ℕ → Refusal
  param_lacks_equals : Refusal
  lacks_space : Refusal

-- the carried number has 64 bits, the largest for more
infix 50 ◌carrying◌
abbrev pub ◌carrying◌ : ℕ → ℕ → Numbers
k carrying n = record { number = k; carried = min n (2 ^ 64 - 1) }

-- The table. `no_room` is the head or header store too short, carrying 0 where nothing valid is held; `too_short` is the body store or the output.
unfoldable pub table : Refusal → Numbers
table (text_too_long n) = 1 carrying n
table too_few_sections = 2 carrying 0
table no_message_cpim = 3 carrying 0
table lacks_colon = 4 carrying 0
table bad_escape = 5 carrying 0
table name_empty = 6 carrying 0
table (name_too_long n) = 7 carrying n
table name_control = 8 carrying 0
table name_reserved = 9 carrying 0
table (value_too_long n) = 10 carrying n
table content_control = 11 carrying 0
table param_name_empty = 12 carrying 0
table (param_name_too_long n) = 13 carrying n
table param_name_reserved = 14 carrying 0
table (param_value_too_long n) = 15 carrying n
table param_value_reserved = 16 carrying 0
table type_empty = 17 carrying 0
table (type_too_long n) = 18 carrying n
table type_control = 19 carrying 0
table (too_many_headers n) = 20 carrying n
table (too_many_params n) = 21 carrying n
table (too_many_contents n) = 22 carrying n
table (body_too_long n) = 23 carrying n
table not_utf8 = 24 carrying 0
table (no_room n) = 25 carrying n
table (too_short n) = 26 carrying n
table param_lacks_equals = 27 carrying 0
table lacks_space = 28 carrying 0

-- 25 carrying 0
abbrev pub nothing_held : Refusal
nothing_held = no_room 0

-- What a call gives: accepted with its result, or refused.
pub data Out (A : Type 0) : Type 0 where
  accepted : A → Out A
  refused : Refusal → Out A

unfoldable pub numbers : {A : Type 0} → Out A → Numbers
numbers (accepted a) = 0 carrying 0
numbers (refused r) = table r

-- A check passes with nothing to say.
abbrev pub Check : Type 0
Check = Out (Unit {0})

abbrev pub pass : Check
pass = accepted tt

-- one step after another, in order: the first refusal is the answer (the statements of a `do` block)
unfoldable pub ◌>>=◌ : {A B : Type 0} → Out A → (A → Out B) → Out B
◌>>=◌ (accepted a) f = f a
◌>>=◌ (refused r) f = refused r

unfoldable pub ◌>>◌ : {A B : Type 0} → Out A → Out B → Out B
◌>>◌ (accepted a) k = k
◌>>◌ (refused r) k = refused r

-- refused where the test holds
unfoldable pub refuse_if : Bool → Refusal → Check
refuse_if true r = refused r
refuse_if false r = pass

-- refused, with the actual number, where that is over the limit
unfoldable pub at_most : ℕ → (ℕ → Refusal) → ℕ → Check
at_most limit r n = refuse_if (not (leb n limit)) (r n)

-- whether a check passes
unfoldable pub passes : Check → Bool
passes (accepted a) = true
passes (refused r) = false
