-- A script: changing calls with their arguments in bytes, one behind another. A call is its number in one byte, in the order of `Call`
-- (crates/format/specs/Calls.antt) from 0, then its arguments, each a length in four bytes, low one first, and so many bytes. The header of
-- `add_header_obj` is its record, three numbers of four bytes, and then its store as an argument. A script ends where no whole call stands.
-- Assumes nothing.
use Rattle.std.specs.Prelude.{ℕ, zero, suc, ◌+◌, ◌-◌, ◌*◌, Bool, false, ◌&&◌, List, [], ◌∷◌, ◌++◌, leb, length, take, drop, get_or, if◌then◌else◌}
use Rattle.std.proofs.Math.Option.{Option, none, some}
use Rattle.format.specs.Bytes.{Bytes}
use Rattle.format.specs.Message.{LoneHeader}
use Rattle.format.specs.Calls.{Call, set_body, set_header, add_header, add_header_obj, add_content_header, with_from, with_to, with_datetime, with_subject, with_subject_lang, with_cc, with_ns, with_require, with_content_header}
use Rattle.format.specs.Runs.{State}
use Rattle.format.specs.declared.CpimMessage.{CpimMessage}
use Rattle.format.specs.declared.CpimHeader.{CpimHeader}
use Rattle.store_check.specs.Holding.{header_holds}
use Rattle.store_check.specs.Decoding.{header_in}
use Rattle.std.specs.Prelude as std
use Rattle.calls_script.specs.declared.TextCall.{TextCall}
use Rattle.calls_script.specs.declared.TextCall.TheVariants as text_call
use Rattle.calls_script.specs.declared.PairCall.{PairCall}
use Rattle.calls_script.specs.declared.PairCall.TheVariants as pair_call
use Rattle.calls_script.specs.declared.Form as code
use Rattle.calls_script.specs.declared.Form.TheVariants as code_form

-- a record and both stores between two calls
abbrev pub state : CpimMessage → Bytes → Bytes → State
state m head body = record { message = m; head = head; body = body }

-- What a header's record and store hold (`HeldAlone`, by `held_alone_lem` in proofs/RunSteps.antt).
unfoldable pub held_alone : CpimHeader → Bytes → Option LoneHeader
held_alone h store = if header_holds h store then some (header_in h store) else none

-- a number of four bytes, low one first
unfoldable pub number_in : Bytes → ℕ
number_in t = get_or t 0 0 + 256 * get_or t 1 0 + 65536 * get_or t 2 0 + 16777216 * get_or t 3 0

-- an argument stands whole in front of t
unfoldable pub whole : Bytes → Bool
whole t = leb 4 (length t) && leb (number_in t) (length t - 4)

-- its bytes
unfoldable pub argument : Bytes → Bytes
argument t = take (number_in t) (drop 4 t)

-- how many it takes with its length
unfoldable pub argument_size : Bytes → ℕ
argument_size t = 4 + number_in t

-- what stands behind it
abbrev pub behind : Bytes → Bytes
behind t = drop (argument_size t) t

-- the record of a header: valuelen, params, size
unfoldable pub header_record : Bytes → CpimHeader
header_record t = record { valuelen = number_in t; params = number_in (drop 4 t); size = number_in (drop 8 t) }

-- What follows a call's number: one argument, two, or those of `add_header_obj`.
pub data Form : Type 0 where
  one : (Bytes → Call) → Form
  two : (Bytes → Bytes → Call) → Form
  header : Form
  unknown : Form

-- the calls by their numbers
abbrev pub forms : List Form
forms =
    one set_body
    ∷ two set_header
    ∷ two add_header
    ∷ header
    ∷ two add_content_header
    ∷ one with_from
    ∷ one with_to
    ∷ one with_datetime
    ∷ one with_subject
    ∷ two with_subject_lang
    ∷ one with_cc
    ∷ two with_ns
    ∷ one with_require
    ∷ two with_content_header
    ∷ []

abbrev pub form_of : ℕ → Form
form_of n = get_or forms n unknown

-- two arguments stand whole in front of t
unfoldable pub both_whole : Bytes → Bool
both_whole t = whole t && whole (behind t)

-- how many bytes they take
unfoldable pub both_size : Bytes → ℕ
both_size t = argument_size t + argument_size (behind t)

-- a name, the record of a header and its store stand whole in front of t
unfoldable pub header_whole : Bytes → Bool
header_whole t = whole t && (leb 12 (length (behind t)) && whole (drop 12 (behind t)))

-- how many bytes they take
unfoldable pub header_size : Bytes → ℕ
header_size t = argument_size t + (12 + argument_size (drop 12 (behind t)))

-- all that follows the number stands whole in front of t
unfoldable pub complete : Form → Bytes → Bool
complete (one c) t = whole t
complete (two c) t = both_whole t
complete header t = header_whole t
complete unknown t = false

-- how many bytes it takes
unfoldable pub size_of : Form → Bytes → ℕ
size_of (one c) t = argument_size t
size_of (two c) t = both_size t
size_of header t = header_size t
size_of unknown t = 0

-- the call with these arguments, as the list of it alone; a header counts as what its record and store hold
unfoldable pub called : Form → Bytes → List Call
called (one c) t = c (argument t) ∷ []
called (two c) t = c (argument t) (argument (behind t)) ∷ []
called header t = add_header_obj (argument t) (held_alone (header_record (behind t)) (argument (drop 12 (behind t)))) ∷ []
called unknown t = []

-- The calls of a script; k bytes of a call just read are still to be passed over. (The count k is a device of the recursion: `calls_in` is
-- what is meant, and proofs/CallsIn.antt has its equations.)
unfoldable pub calls_from : ℕ → Bytes → List Call
calls_from k [] = []
calls_from zero (n ∷ t) = if complete (form_of n) t then called (form_of n) t ++ calls_from (size_of (form_of n) t) t else []
calls_from (suc k) (n ∷ t) = calls_from k t

abbrev pub calls_in : Bytes → List Call
calls_in s = calls_from 0 s

-- the code's calls of one text, and of two
abbrev pub text_meant : TextCall → Bytes → Call
text_meant text_call.SetBody = set_body
text_meant text_call.WithFrom = with_from
text_meant text_call.WithTo = with_to
text_meant text_call.WithDatetime = with_datetime
text_meant text_call.WithSubject = with_subject
text_meant text_call.WithCc = with_cc
text_meant text_call.WithRequire = with_require

abbrev pub pair_meant : PairCall → Bytes → Bytes → Call
pair_meant pair_call.SetHeader = set_header
pair_meant pair_call.AddHeader = add_header
pair_meant pair_call.AddContentHeader = add_content_header
pair_meant pair_call.WithSubjectLang = with_subject_lang
pair_meant pair_call.WithNs = with_ns
pair_meant pair_call.WithContentHeader = with_content_header

-- its forms; none is that of a number that is no call's
abbrev pub meant : std.Option code.Form → Form
meant std.None = unknown
meant (std.Some (code_form.Text c)) = one (text_meant c)
meant (std.Some (code_form.Pair c)) = two (pair_meant c)
meant (std.Some code_form.AddHeaderObj) = header

-- the place behind what stands whole, none where it does not
unfoldable pub end_of : Bool → ℕ → Option ℕ
end_of b n = if b then some n else none
