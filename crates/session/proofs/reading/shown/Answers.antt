-- `session::reading::shown` meets its contract. Assumes nothing.
use Rattle.session.proofs.ReadSteps.{shows_ok, shows_failed}
use Rattle.session.proofs.reading.shown.Goals as goal

pub returns-in-Ok : goal.returns-in-Ok
returns-in-Ok c = shows_ok _ _ _ c.in-Ok.is c.unwrap_or.ensures

pub returns-in-Err : goal.returns-in-Err
returns-in-Err c = shows_failed _ _ c.in-Err.is
