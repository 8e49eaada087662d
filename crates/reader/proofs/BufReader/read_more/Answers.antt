-- `reader::BufReader::read_more` meets its contract. Assumes nothing.
use native.Mathlib.Omega.{arith}
use Rattle.reader.proofs.Buffers.{gives_more, more_got}
use Rattle.reader.proofs.BufReader.read_more.Goals as goal

pub overflow_add-self-2 : goal.overflow_add-self-2
overflow_add-self-2 c = omega (arith, (gives_more _ _ _ c.args.self.now.state _ _ c.read-e.ensures.0 c.moved-n.ensures c.requires.fit).0)

pub overflow_add-self-3 : goal.overflow_add-self-3
overflow_add-self-3 c = omega (arith, (gives_more _ _ _ c.args.self.now.state _ _ c.read-e.ensures.0 c.moved-n.ensures c.requires.fit).1)

pub returns-clause-more : goal.returns-clause-more
returns-clause-more c = more_got _ _ _ _ c.args.self.now.state _ _ _ c.read-e.ensures.0 c.read-e.ensures.1 c.moved-n.ensures
