-- A weight for each byte, so that one sum tells of a short text which validators have nothing against it: a byte that no name may
-- have weighs 1, one that no parameter value may have 32, and one that is ASCII control or beyond ASCII 255. Assumes nothing.
use Rattle.std.specs.Prelude.{ℕ, zero, suc, Bool, true, false, ◌&&◌, ◌||◌, List, [], ◌∷◌, leb, ltb, length}
use Rattle.format.specs.Bytes.{Bytes, total}
use Rattle.format.specs.Characters.{is_ascii_control}
use Rattle.format.specs.Validators.{reserved_in_name, reserved_in_param_name, reserved_in_param_value}

-- by whether the byte is ASCII control or beyond ASCII, reserved in parameter values, reserved in names
unfoldable pub graded : Bool → Bool → Bool → ℕ
graded true v n = 255
graded false true n = 32
graded false false true = 1
graded false false false = 0

unfoldable pub weight : ℕ → ℕ
weight b = graded (is_ascii_control b || leb 0x80 b) (reserved_in_param_value b) (reserved_in_param_name b || reserved_in_name b)

-- the weights of k bytes, from b on
unfoldable pub weights_from : ℕ → ℕ → List ℕ
weights_from zero b = []
weights_from (suc k) b = weight b ∷ weights_from k (suc b)

-- of all bytes
unfoldable pub weights : List ℕ
weights = weights_from 256 0

-- a text of fewer than 32 bytes that weighs less than the limit
unfoldable pub is_light : ℕ → Bytes → Bool
is_light limit s = ltb (length s) 32 && ltb (total weight s) limit
