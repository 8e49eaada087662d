-- `reader::BufReader::backshift` meets its contract. Assumes nothing.
use Rattle.reader.proofs.Buffers.{shifted}
use Rattle.reader.proofs.BufReader.backshift.Goals as goal

pub returns-clause-shifted : goal.returns-clause-shifted
returns-clause-shifted c = shifted _ _ c.args.self.now.state _ c.shift.ensures c.count-self.ensures c.requires
