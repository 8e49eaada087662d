-- `judge::walk::compare` meets its contract, by the walk of `Walks`. Assumes nothing.
use Rattle.judge.proofs.Walks.{InvBytes}
use Rattle.judge.proofs.walk.compare.Given as goal

abbrev pub invariant-loop : goal.invariant-loop
invariant-loop l = InvBytes l.trace l.header l.counter l.total l.at l.card l.answered
