-- `roundtrip::params_failing` meets its contract. Each arm asks what its reading does. Assumes nothing.
use Rattle.std.proofs.Common.{rules}
use Rattle.roundtrip.specs.Clauses.{params_stand}
use Rattle.roundtrip.proofs.CountPassing.{no_params, no_spaces}
use Rattle.roundtrip.proofs.params_failing.Goals as goal

pub returns-in-Source : goal.returns-in-Source
returns-in-Source c =
    λ xs lx. rw c.in-Source.is (no_params xs c.args.headers.bytes.now c.args.headers.count lx _ (c.first_failing.ensures _ (record { says = λ e b h. search rules })))

pub first_failing-requires-in-Rfc-clause-callable : goal.first_failing-requires-in-Rfc-clause-callable
first_failing-requires-in-Rfc-clause-callable c = λ e among. among.like params_stand c.requires.1

pub returns-in-Rfc : goal.returns-in-Rfc
returns-in-Rfc c =
    λ xs lx. rw c.in-Rfc.is (no_spaces xs c.args.headers.bytes.now c.args.headers.count lx _ (c.first_failing-in-Rfc.ensures _ (record { says = λ e b h. h.1 })))
