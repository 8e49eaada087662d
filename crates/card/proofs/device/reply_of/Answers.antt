-- `card::device::reply_of` meets its contract. Assumes nothing.
use native.Mathlib.Omega.{arith}
use Rattle.card.proofs.Replies.{accepts, pauses, fails}
use Rattle.card.proofs.device.reply_of.Goals as goal

pub returns-in-65536 : goal.returns-in-65536
returns-in-65536 c = pauses _ (omega arith)

pub returns-in-0-to-65535 : goal.returns-in-0-to-65535
returns-in-0-to-65535 c = accepts _ (omega arith)

pub returns-in_default : goal.returns-in_default
returns-in_default c = fails _ (omega arith)
