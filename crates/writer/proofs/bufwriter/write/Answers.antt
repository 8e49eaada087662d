-- `writer::bufwriter::write` meets its contract. Assumes nothing.
use Rattle.writer.specs.Writer.{write, write_call}
use Rattle.writer.proofs.bufwriter.write.Goals as goal

pub returns-clause-told : goal.returns-clause-told
unfolding write_call write
returns-clause-told c = c.call.ensures.told
