-- What a read's answer says of the input (POSIX, `read`): a number of bytes, 0 at the end of the input, or less than 0 where it failed,
-- and then errno says why. Assumes nothing.
use Rattle.std.specs.Prelude.{◌≡◌, ℕ, ◌≤◌, Bool, true, false, ◌⊎◌, List, length, take, ℤ, pos, negsuc, T, Result, Ok, Err, unwrap_or}
use Rattle.std.specs.Int.Signed.{lt_z}
use Rattle.std.specs.IoError.{raw_os_error}
use Rattle.std.specs.declared.io.Error.{Error}
use Rattle.input.specs.declared.Next.{Next}
use Rattle.input.specs.declared.Next.TheVariants.{More, End, Later, Failed}

-- EINTR and EAGAIN of Linux: the call was interrupted, or nothing was ready. What failed by these may be tried again.
abbrev pub Passes : ℤ → Bool → Type 0
Passes error true = (error ≡ pos 4) ⊎ (error ≡ pos 11)
Passes error false = (error ≡ pos 4 → ⊥) × (error ≡ pos 11 → ⊥)

-- the answer and errno are of this case
abbrev pub Says : ℤ → ℤ → Next → Type 0
Says got error More = T (lt_z (pos 0) got)
Says got error End = got ≡ pos 0
Says got error Later = T (lt_z got (pos 0)) × Passes error true
Says got error Failed = T (lt_z got (pos 0)) × Passes error false

-- POSIX's answer, of the one that std's `read` makes of it: where that failed, -1
abbrev pub answered : Result ℕ Error → ℤ
answered (Ok n) = pos n
answered (Err e) = negsuc 0

-- an error's errno; 0, which is none of POSIX's, where the error is not the system's
abbrev pub number_of : Error → ℤ
number_of e = unwrap_or (raw_os_error e) (pos 0)

-- errno behind such an answer, where it matters
abbrev pub errno : Result ℕ Error → ℤ
errno (Ok n) = pos 0
errno (Err e) = number_of e

-- the first n bytes are there
abbrev pub IsPrefixLen : ℕ → List ℕ → Type 0
IsPrefixLen n xs = (n ≤ length xs) × (n ≡ length (take n xs))
