-- `session::reading::read` meets its contract. Assumes nothing.
use Rattle.std.proofs.lemmas.List.{take-replicate}
use Rattle.session.proofs.ReadSteps.{ap_steps}
use Rattle.session.proofs.reading.read.Goals as goal

pub returns-clause-steps : goal.returns-clause-steps
returns-clause-steps c = ap_steps _ _ _ _ _ _ _ (take-replicate c.args.n 16384 0 c.requires) c.read_into.ensures.steps
