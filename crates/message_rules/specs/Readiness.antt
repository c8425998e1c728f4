-- The checks that every changing call begins with. Assumes nothing.
use Rattle.std.specs.Prelude.{Bool, not}
use Rattle.format.specs.Refusals.{Check, not_utf8, nothing_held, refuse_if, ◌>>◌}

-- 25 carrying 0 where nothing is held, then 24 where an argument is not UTF-8
unfoldable pub readiness : Bool → Bool → Check
readiness held utf8 = do
  refuse_if (not held) nothing_held
  refuse_if (not utf8) not_utf8
