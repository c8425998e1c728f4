-- Document 01, "Looking up": what the program `showcpim` prints for standard input. Assumes nothing.
use Rattle.std.specs.Prelude.{ℕ, zero, suc, ◌+◌, ◌/◌, ◌%◌, [], ◌∷◌, ◌++◌, ltb, leb, length, if◌then◌else◌}
use Rattle.std.proofs.Math.Option.{some}
use Rattle.format.specs.Bytes.{Bytes, ascii, lf_text}
use Rattle.format.specs.Escaping.{escape}
use Rattle.format.specs.Refusals.{Out, accepted, refused, numbers, too_short}
use Rattle.format.specs.declared.Numbers.{Numbers}
use Rattle.format.specs.Message.{Message}
use Rattle.format.specs.Reading.{read}
use Rattle.format.specs.LookingUp.{count_headers, count_params, count_contents}

-- the decimal digits of n in front of a text (the first number only bounds the recursion)
unfoldable pub digits_from : ℕ → ℕ → Bytes → Bytes
digits_from zero n s = s
digits_from (suc k) n s = if ltb n 10 then (48 + n) ∷ s else digits_from k (n / 10) ((48 + n % 10) ∷ s)

-- decimal; a number of 64 bits has at most 20 digits
unfoldable pub decimal : ℕ → Bytes
decimal n = digits_from 20 n []

-- a line: its label, `=`, a text, LF
abbrev pub shown : Bytes → Bytes → Bytes
shown label s = label ++ (ascii "=" ++ (s ++ lf_text))

-- refusal number and carried number
unfoldable pub show_numbers : Numbers → Bytes
show_numbers n = shown (ascii "result") (decimal n.number) ++ shown (ascii "carried") (decimal n.carried)

-- headers, all parameters, content headers, type escaped, body length; a refusal prints none of these
unfoldable pub show_message : Out Message → Bytes
show_message (refused r) = []
show_message (accepted m) =
    shown (ascii "headers") (decimal (count_headers (some m)))
    ++ (shown (ascii "params") (decimal (count_params (some m)))
    ++ (shown (ascii "contents") (decimal (count_contents (some m)))
    ++ (shown (ascii "type") (escape m.type) ++ shown (ascii "body") (decimal (length m.body)))))

-- all lines
unfoldable pub show : Out Message → Bytes
show o = show_numbers (numbers o) ++ show_message o

-- standard input is at most 65,536 bytes (else result 26, carried 65537); the stores have 65,536 bytes
unfoldable pub showcpim : Bytes → Bytes
showcpim input =
    if leb (length input) 65536 then show (read input (record { head = 65536; body = 65536 })) else show (refused (too_short 65537))
