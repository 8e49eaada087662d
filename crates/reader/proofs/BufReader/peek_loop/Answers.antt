-- `reader::BufReader::peek_loop` meets its contract. Assumes nothing.
use native.Mathlib.Omega.{arith}
use Rattle.reader.proofs.Refusals.{fails_with}
use Rattle.reader.proofs.Peeks.{may_read, few_yet, stops, fails, again, ends}
use Rattle.reader.proofs.BufReader.peek_loop.Goals as goal

pub read_more-requires-clause-fit : goal.read_more-requires-clause-fit
read_more-requires-clause-fit c = may_read c.loop-self.invariant c.shift_back.ensures.lent c.shift_back.ensures.calls c.shift_back.ensures.shifted

pub read_more-requires-clause-few : goal.read_more-requires-clause-few
read_more-requires-clause-few c = few_yet c.loop-self.invariant c.shift_back.ensures.lent c.shift_back.ensures.calls c.shift_back.ensures.shifted

pub returns-in_err-read_more-clause-peeked : goal.returns-in_err-read_more-clause-peeked
returns-in_err-read_more-clause-peeked c = rw (fails_with c.from_residual.ensures.1) (fails c.loop-self.invariant c.shift_back.ensures.lent c.shift_back.ensures.calls c.shift_back.ensures.shifted c.read_more.ensures.lent c.read_more.ensures.more c.count.ensures c.loop-self-test.true c.in_err-read_more.was)

pub returns-then-branch-eq0-clause-peeked : goal.returns-then-branch-eq0-clause-peeked
returns-then-branch-eq0-clause-peeked c = stops c.loop-self.invariant c.shift_back.ensures.lent c.shift_back.ensures.calls c.shift_back.ensures.shifted c.read_more.ensures.lent c.read_more.ensures.more c.count.ensures c.loop-self-test.true c.in_ok-read_more.was c.if-branch-eq0.true c.count-then-branch-eq0.ensures

pub loop-self-smaller : goal.loop-self-smaller
loop-self-smaller c =
    let on = again c.loop-self.invariant c.shift_back.ensures.lent c.shift_back.ensures.calls c.shift_back.ensures.shifted c.read_more.ensures.lent c.read_more.ensures.more c.count.ensures c.loop-self-test.true c.in_ok-read_more.was c.if-branch-eq0.false in
    omega (arith, on.1, on.0.fit.used_in)

pub loop-self-preserved : goal.loop-self-preserved
loop-self-preserved c = (again c.loop-self.invariant c.shift_back.ensures.lent c.shift_back.ensures.calls c.shift_back.ensures.shifted c.read_more.ensures.lent c.read_more.ensures.more c.count.ensures c.loop-self-test.true c.in_ok-read_more.was c.if-branch-eq0.false).0

pub returns-clause-peeked : goal.returns-clause-peeked
returns-clause-peeked c = ends c.loop-self.invariant c.count.ensures c.loop-self-test.false
