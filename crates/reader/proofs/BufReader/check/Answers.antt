-- `reader::BufReader::check` meets its contract. Assumes nothing.
use Rattle.reader.proofs.Refusals.{checked}
use Rattle.reader.proofs.BufReader.check.Goals as goal

pub returns : goal.returns
returns c = checked _ _ _ c.args.self.now.state _ _ c.check.ensures c.sizes.ensures
