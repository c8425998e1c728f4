-- The lines of a message by the numbers that they show: `show_message` of crates/format/specs/Showing.antt, for whoever has the numbers
-- and not the message. proofs/ShownCases.antt ties the two. Assumes nothing.
use Rattle.std.specs.Prelude.{ℕ, ◌++◌}
use Rattle.format.specs.Bytes.{Bytes, ascii}
use Rattle.format.specs.Escaping.{escape}
use Rattle.format.specs.Showing.{decimal, shown}

-- headers, parameters, content headers, type, length of the body
unfoldable pub message_lines : ℕ → ℕ → ℕ → Bytes → ℕ → Bytes
message_lines headers params contents type body =
    shown (ascii "headers") (decimal headers)
    ++ (shown (ascii "params") (decimal params)
    ++ (shown (ascii "contents") (decimal contents) ++ (shown (ascii "type") (escape type) ++ shown (ascii "body") (decimal body))))
