-- `reader::BufReader::read_buffered` meets its contract. Assumes nothing.
use Rattle.reader.proofs.Readings.{buffered_got}
use Rattle.reader.proofs.BufReader.read_buffered.Goals as goal

pub returns-clause-call : goal.returns-clause-call
returns-clause-call c = buffered_got _ _ _ c.args.self.now.state _ _ c.min-n.ensures c.copy_out.ensures c.requires.none
