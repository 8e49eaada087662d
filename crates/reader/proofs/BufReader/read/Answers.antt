-- `reader::BufReader::read` meets its contract. Assumes nothing.
use Rattle.reader.proofs.Refusals.{fails_with, fit, number_first, number_own}
use Rattle.reader.proofs.Readings.{read_refused, read_held, read_small, read_straight}
use Rattle.reader.proofs.BufReader.read.Goals as goal

pub returns-in_err-check-clause-call : goal.returns-in_err-check-clause-call
returns-in_err-check-clause-call c = rw (fails_with c.from_residual.ensures.1) (read_refused _ _ _ _ _ _ (number_first _ _ _ _ _ c.in_err-check.ensures))

pub returns-in_err-check_length-clause-call : goal.returns-in_err-check_length-clause-call
returns-in_err-check_length-clause-call c = rw (fails_with c.from_residual-in_err-check_length.ensures.1) (read_refused _ _ _ _ _ _ (number_own _ _ _ _ _ c.in_ok-check.ensures c.in_err-check_length.ensures))

pub read_buffered-requires-clause-within : goal.read_buffered-requires-clause-within
read_buffered-requires-clause-within c =
    let f = fit c.in_ok-check.ensures in
    (f.pos_in, f.filled_in)

pub returns-then-self-clause-call : goal.returns-then-self-clause-call
returns-then-self-clause-call c = read_held _ _ _ _ _ c.in_ok-check.ensures c.in_ok-check_length.ensures _ c.if-self.true c.read_buffered.ensures.call

pub read_copied-requires-clause-fit : goal.read_copied-requires-clause-fit
read_copied-requires-clause-fit c = fit c.in_ok-check.ensures

pub returns-in_err-read_copied-clause-call : goal.returns-in_err-read_copied-clause-call
returns-in_err-read_copied-clause-call c = rw (fails_with c.from_residual-in_err-read_copied.ensures.1) (read_small _ _ _ _ _ c.in_ok-check.ensures c.in_ok-check_length.ensures _ c.if-destination-self.true c.in_err-read_copied.ensures.call)

pub returns-then-destination-self-clause-call : goal.returns-then-destination-self-clause-call
returns-then-destination-self-clause-call c = read_small _ _ _ _ _ c.in_ok-check.ensures c.in_ok-check_length.ensures _ c.if-destination-self.true c.in_ok-read_copied.ensures.call

pub read_direct-requires-clause-taken : goal.read_direct-requires-clause-taken
read_direct-requires-clause-taken c = (fit c.in_ok-check.ensures).taken_in

pub returns-in_err-read_direct-clause-call : goal.returns-in_err-read_direct-clause-call
returns-in_err-read_direct-clause-call c = rw (fails_with c.from_residual-in_err-read_direct.ensures.1) (read_straight _ _ _ _ _ c.in_ok-check.ensures c.in_ok-check_length.ensures _ c.if-self.false c.if-destination-self.false c.in_err-read_direct.ensures.call)

pub returns-clause-call : goal.returns-clause-call
returns-clause-call c = read_straight _ _ _ _ _ c.in_ok-check.ensures c.in_ok-check_length.ensures _ c.if-self.false c.if-destination-self.false c.in_ok-read_direct.ensures.call
