-- `reader::BufReader::shift_back` meets its contract. Assumes nothing.
use Rattle.reader.proofs.Peeks.{shifted_some, shifted_none}
use Rattle.reader.proofs.BufReader.shift_back.Goals as goal

pub returns-then-self-gt0-clause-shifted : goal.returns-then-self-gt0-clause-shifted
returns-then-self-gt0-clause-shifted c = shifted_some _ _ c.backshift.ensures.shifted c.if-self-gt0.true

pub returns-else-self-gt0-clause-shifted : goal.returns-else-self-gt0-clause-shifted
returns-else-self-gt0-clause-shifted c = shifted_none _ c.if-self-gt0.false
