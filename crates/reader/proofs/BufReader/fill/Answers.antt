-- `reader::BufReader::fill` meets its contract. Assumes nothing.
use Rattle.reader.proofs.Buffers.{fit_discard, fill_read, fill_kept}
use Rattle.reader.proofs.BufReader.fill.Goals as goal

pub read_more-requires-clause-fit : goal.read_more-requires-clause-fit
read_more-requires-clause-fit c = rw c.discarded-self.ensures (fit_discard _ _ _ c.args.self.now.state c.requires.fit)

pub returns-then-self-clause-filled : goal.returns-then-self-clause-filled
returns-then-self-clause-filled c = fill_read _ _ _ c.args.self.now.state _ _ _ c.read_more.ensures.more c.requires.none c.discarded-self.ensures c.if-self.true

pub returns-clause-filled : goal.returns-clause-filled
returns-clause-filled c = fill_kept _ _ _ c.args.self.now.state _ _ c.count.ensures c.requires.none c.if-self.false
