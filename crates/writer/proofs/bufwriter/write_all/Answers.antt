-- `writer::bufwriter::write_all` meets its contract. Assumes nothing.
use Rattle.writer.specs.Writer.{write_all, write_all_call}
use Rattle.writer.proofs.bufwriter.write_all.Goals as goal

pub returns-clause-told : goal.returns-clause-told
unfolding write_all_call write_all
returns-clause-told c = c.call.ensures.told
