-- The entries of what is held: the content headers of a message, the parameters of a header alone. Assumes nothing.
use Rattle.std.specs.Prelude.{List, []}
use Rattle.std.proofs.Math.Option.{Option, none, some}
use Rattle.format.specs.Message.{Entry, LoneHeader, Message}

abbrev pub contents_held : Option Message → List Entry
contents_held none = []
contents_held (some m) = m.contents

abbrev pub params_held : Option LoneHeader → List Entry
params_held none = []
params_held (some h) = h.params
