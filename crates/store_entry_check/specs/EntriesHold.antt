-- Whether bytes are entries of a kind, or headers with their parameters, as a walk over any bytes at all. Assumes nothing.
use Rattle.std.specs.Prelude.{ℕ, zero, suc, Bool, ◌&&◌, [], drop}
use Rattle.format.specs.Bytes.{Bytes, is_empty, all}
use Rattle.format.specs.Characters.{is_utf8}
use Rattle.format.specs.Refusals.{passes}
use Rattle.store_entries.specs.Stored.{Stored, shaped, size_in, name_in, stored_in, entries_in}
use Rattle.store_entry_check.specs.Kinds.{name_check, value_check, params_fit, follows}
use Rattle.store_entry_check.specs.declared.kinds.Kind.{Kind}
use Rattle.store_entry_check.specs.declared.kinds.Kind.TheVariants.{Header, Param}

-- an entry within limits and validators, its parameters not looked into
unfoldable pub fits : Kind → Stored → Bool
fits k e =
    passes (name_check k e.name)
    && (passes (value_check k e.value) && (params_fit k e.params e.tail && (is_utf8 e.name && is_utf8 e.value)))

-- s begins with such an entry, whose name may stand behind the last one
unfoldable pub entry_holds : Kind → Bytes → Bytes → Bool
entry_holds k last s = shaped s && (fits k (stored_in s) && follows k last (name_in s))

-- s is n such entries
unfoldable pub entries_hold : Kind → ℕ → Bytes → Bytes → Bool
entries_hold k zero last s = is_empty s
entries_hold k (suc n) last s = entry_holds k last s && entries_hold k n (name_in s) (drop (size_in s) s)

-- the bytes behind a header's value are its parameters
unfoldable pub tail_holds : Stored → Bool
tail_holds e = entries_hold Param e.params [] e.tail

-- s is n headers with their parameters
unfoldable pub headers_hold : ℕ → Bytes → Bool
headers_hold n s = entries_hold Header n [] s && all tail_holds (entries_in n s)
