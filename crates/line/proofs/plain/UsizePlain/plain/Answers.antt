-- `line::plain::UsizePlain::plain` meets its contract. Assumes nothing.
use Rattle.writer.specs.Writer.{write_call}
use Rattle.line.proofs.plain.UsizePlain.plain.Goals as goal

pub returns-clause-told : goal.returns-clause-told
unfolding write_call
returns-clause-told c = c.write.ensures.told
