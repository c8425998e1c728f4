-- `read::start` meets its contract: the type and zeros are the layout of the message that reading starts from. Assumes nothing.
use Rattle.read.proofs.ReadStores.{blank_held}
use Rattle.read.proofs.start.Goals as goal

pub returns : goal.returns
returns c = blank_held c.args.head.now _ c.put_type.ensures
