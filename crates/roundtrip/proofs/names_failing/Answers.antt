-- `roundtrip::names_failing` meets its contract: the names are walked over, or any pass. Assumes nothing.
use Rattle.std.proofs.Common.{rules}
use Rattle.roundtrip.proofs.CountPassing.{clear_names}
use Rattle.roundtrip.proofs.Lossless.{any_name}
use Rattle.roundtrip.proofs.names_failing.Goals as goal

pub returns-in-Source : goal.returns-in-Source
returns-in-Source c =
    λ xs lx. rw c.in-Source.is (clear_names xs c.args.headers.bytes.now c.args.headers.count lx _ (c.first_failing.ensures _ (record { says = λ e b h. search rules })))

pub returns-in-Rfc : goal.returns-in-Rfc
returns-in-Rfc c = λ xs lx. rw c.in-Rfc.is (any_name xs)
