-- `trace::whole::check` meets its contract. The loop's invariant is `Turn`: the check answers what the definition says of the
-- calls left. Assumes nothing.
use Rattle.trace.proofs.Walk.{Turn}
use Rattle.trace.proofs.whole.check.Given as goal

abbrev pub invariant-loop : goal.invariant-loop
invariant-loop l = Turn l.trace l.capacity l.count l.first l.counter l.total l.at
