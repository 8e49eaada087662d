-- `line::plain::UnitPlain::plain` meets its contract. Assumes nothing.
use Rattle.writer.specs.Writer.{write_all_call}
use Rattle.line.proofs.plain.UnitPlain.plain.Goals as goal

pub returns-clause-told : goal.returns-clause-told
unfolding write_all_call
returns-clause-told c = c.write_all.ensures.told
