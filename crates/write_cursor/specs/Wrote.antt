-- What a writer is once a text is written. Assumes nothing.
use Rattle.std.specs.Prelude.{◌+◌, length}
use denote.Ref.{at_last}
use Rattle.format.specs.Bytes.{Bytes, pasted}
use Rattle.write_cursor.specs.declared.Writer.{Writer}

-- the same output, with the text at the writer's place, and the place behind it
abbrev pub wrote : Writer → Bytes → Writer
wrote w t = record { out = at_last w.out (pasted w.at t w.out.now); at = w.at + length t }
