-- `reader::BufReader::fill_buf` meets its contract. Assumes nothing.
use mathlib.Core.Path.{refl, ap}
use Rattle.reader.specs.Reader.{handed_up, fill_buf}
use Rattle.reader.proofs.Refusals.{answered_so, fails_with, fit, refused_first}
use Rattle.reader.proofs.BufReader.fill_buf.Goals as goal

pub returns-in_err-check-clause-call : goal.returns-in_err-check-clause-call
unfolding fill_buf
returns-in_err-check-clause-call c = rw (fails_with c.from_residual.ensures.1) (refused_first _ _ _ _ _ _ c.in_err-check.ensures)

pub fill-requires-clause-fit : goal.fill-requires-clause-fit
fill-requires-clause-fit c = fit c.in_ok-check.ensures

pub returns-in_err-fill-clause-call : goal.returns-in_err-fill-clause-call
unfolding fill_buf
returns-in_err-fill-clause-call c = rw (fails_with c.from_residual-in_err-fill.ensures.1) (answered_so _ _ _ _ _ _ c.in_ok-check.ensures refl (ap handed_up c.in_err-fill.ensures.filled))

pub returns-clause-call : goal.returns-clause-call
unfolding fill_buf
returns-clause-call c = answered_so _ _ _ _ _ _ c.in_ok-check.ensures refl (ap handed_up c.in_ok-fill.ensures.filled)
