-- `card::device::write` meets its contract. Assumes nothing.
use mathlib.Core.Path.{refl}
use native.Mathlib.Omega.{arith}
use Rattle.card.proofs.Replies.{carried}
use Rattle.card.proofs.device.write.Goals as goal

pub returns : goal.returns
returns c = carried _ _ _ _ _ _ _ _ _ _ _ _ c.ask-e.ensures c.copy.ensures c.moved.ensures (omega arith) (omega arith) (refl)
