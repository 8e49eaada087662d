-- `reader::BufReader::peek` meets its contract. Assumes nothing.
use mathlib.Core.Path.{ap}
use Rattle.reader.specs.Reader.{handed_up, peek}
use Rattle.reader.proofs.Refusals.{answered_so, fails_with, fit, refused_first, refused_own}
use Rattle.reader.proofs.BufReader.peek.Goals as goal

pub returns-in_err-check-clause-call : goal.returns-in_err-check-clause-call
unfolding peek
returns-in_err-check-clause-call c = rw (fails_with c.from_residual.ensures.1) (refused_first _ _ _ _ _ _ c.in_err-check.ensures)

pub returns-in_err-check_peek-clause-call : goal.returns-in_err-check_peek-clause-call
unfolding peek
returns-in_err-check_peek-clause-call c = rw (fails_with c.from_residual-in_err-check_peek.ensures.1) (refused_own _ _ _ _ _ _ c.in_ok-check.ensures c.in_err-check_peek.ensures)

pub peek_loop-requires-clause-fit : goal.peek_loop-requires-clause-fit
peek_loop-requires-clause-fit c = fit c.in_ok-check.ensures

pub returns-in_err-peek_loop-clause-call : goal.returns-in_err-peek_loop-clause-call
unfolding peek
returns-in_err-peek_loop-clause-call c = rw (fails_with c.from_residual-in_err-peek_loop.ensures.1) (answered_so _ _ _ _ _ _ c.in_ok-check.ensures c.in_ok-check_peek.ensures (ap handed_up c.in_err-peek_loop.ensures.peeked))

pub returns-clause-call : goal.returns-clause-call
unfolding peek
returns-clause-call c = answered_so _ _ _ _ _ _ c.in_ok-check.ensures c.in_ok-check_peek.ensures (ap handed_up c.in_ok-peek_loop.ensures.peeked)
