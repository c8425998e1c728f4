-- A header line by either reading, in steps: the name and the parameters, then the value, with which the header is appended. The readings
-- differ in where these stand, in 28, and in how a parameter and a value are read. Assumes nothing.
use Rattle.std.specs.Prelude.{ℕ, ◌≡◌, Bool, false, List, [], ◌∷◌, length}
use Rattle.format.specs.Bytes.{Bytes, semicolon, space, up_to, past, split, texts}
use Rattle.format.specs.Characters.{trim}
use Rattle.format.specs.Refusals.{lacks_space, param_lacks_equals, Out, refused, Check, pass, refuse_if, ◌>>=◌, ◌>>◌}
use Rattle.format.specs.Validators.{header_name}
use Rattle.format.specs.Message.{Entry, Message}
use Rattle.format.specs.Calls.{Stores, append}
use Rattle.format.specs.Layout.{layout_entry}
use Rattle.format.specs.Reading.{each, read_param}
use Rattle.format.specs.ReadingRfc.{read_param_rfc, misplaced}
use Rattle.format.specs.declared.Manner.{Manner}
use Rattle.format.specs.declared.Manner.TheVariants.{Source, Rfc}

-- the name: left of the colon up to the first `;`, trimmed; by the RFC all that stands there
abbrev pub name_by : Manner → Bytes → Bytes
name_by Source left = trim (split (semicolon ∷ []) left).first
name_by Rfc left = left

-- the text that has the parameters behind its first `;`: left of the colon; by the RFC right of it, up to the first space
abbrev pub params_by : Manner → Bytes → Bytes → Bytes
params_by Source left right = left
params_by Rfc left right = up_to space right

-- the value: right of the colon, trimmed; by the RFC behind the first space there
abbrev pub value_by : Manner → Bytes → Bytes
value_by Source right = trim right
value_by Rfc right = past space right

-- 28 is due by the RFC alone
abbrev pub misplaced_by : Manner → Bytes → Bool
misplaced_by Source right = false
misplaced_by Rfc right = misplaced right

-- the place of the first space right of the colon, by the RFC alone
abbrev pub space_by : Manner → Bytes → ℕ
space_by Source right = 0
space_by Rfc right = length (up_to space right)

-- a parameter's name and value, trimmed by the first reading
abbrev pub taken_by : Manner → Bytes → Bytes
taken_by Source s = trim s
taken_by Rfc s = s

-- a part without `=`: it is skipped, or by the RFC refused
abbrev pub lacking_by : Manner → Check
lacking_by Source = pass
lacking_by Rfc = refused param_lacks_equals

-- how a parameter is read
abbrev pub param_reader : Manner → Bytes → List Entry → Out (List Entry)
param_reader Source = read_param
param_reader Rfc = read_param_rfc

-- the name, checked, 28, then the parameters
unfoldable pub read_front : Manner → Bytes → Bytes → Out (List Entry)
read_front r left right = do
  header_name (name_by r left)
  refuse_if (misplaced_by r right) lacks_space
  each (param_reader r) (split (semicolon ∷ []) (params_by r left right)).rest []

-- the header of a name, a value as it is read and parameters, appended to its name's list: 20, then 25
unfoldable pub append_read : Bytes → Out Bytes → List Entry → Stores → Message → Out Message
append_read name value ps stores m = do
  v ← value
  append (record { name = name; value = v; params = ps }) stores m

-- These are so many parameters, in these bytes.
pub record Tail (ps : List Entry) (many : ℕ) (bytes : Bytes) : Type 0 where
  pub many_are : length ps ≡ many
  pub bytes_are : texts layout_entry ps ≡ bytes
