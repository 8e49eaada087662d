-- `card::device::ask` meets its contract. Assumes nothing.
use Rattle.card.proofs.Replies.{past_end, at_number}
use Rattle.card.proofs.device.ask.Goals as goal

pub returns-in_default : goal.returns-in_default
returns-in_default c = past_end _ _ _ c.in_default.ensures.lookup.0

pub returns : goal.returns
returns c = at_number _ _ _ _ _ _ c.cut.ensures c.reply_of.ensures (c.in-Some.ensures.lookup.0, c.in-Some.ensures.lookup.1)
