-- `session::reading::read_into` meets its contract. Assumes nothing.
use Rattle.session.proofs.ReadSteps.{read_is}
use Rattle.session.proofs.reading.read_into.Goals as goal

pub returns-clause-steps : goal.returns-clause-steps
returns-clause-steps c = read_is _ _ _ _ c.counted-answer.ensures c.read.new.self _ _ c.read.ensures.call c.line.ensures
