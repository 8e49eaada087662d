-- `judge::walk::reach` meets its contract, by the walk of `Walks`. Assumes nothing.
use Rattle.judge.proofs.Walks.{Inv}
use Rattle.judge.proofs.walk.reach.Given as goal

abbrev pub invariant-loop : goal.invariant-loop
invariant-loop l = Inv l.trace l.header l.counter l.total l.at l.counts.capacity l.counts.flags
