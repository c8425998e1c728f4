-- An argument that has an end stands whole.
use Rattle.calls_script.proofs.ArgumentPlaces.{some_end}
use Rattle.test_replay.proofs.part_at.Goals as goal

pub argument_at-requires : goal.argument_at-requires
argument_at-requires c = (some_end _ _ _ c.in_ok-argument_end.ensures).0
