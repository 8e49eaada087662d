-- `card::device::cut` meets its contract. Assumes nothing.
use Rattle.std.proofs.Common.{rules}
use Rattle.card.specs.Device.{at_most}
use Rattle.card.proofs.device.cut.Goals as goal

pub returns : goal.returns
unfolding at_most
returns c = search rules
