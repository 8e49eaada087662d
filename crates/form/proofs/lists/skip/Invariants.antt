-- `form::lists::skip` meets its contract. The loop's invariant is `Turn`: where the rest ends, the whole ends. Assumes nothing.
use Rattle.form.proofs.Skipping.{Turn}
use Rattle.form.proofs.lists.skip.Given as goal

abbrev pub invariant-loop : goal.invariant-loop
invariant-loop g l = Turn (goal.F-post g l.read) l.count l.first l.counter l.at
