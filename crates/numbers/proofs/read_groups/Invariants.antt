-- `numbers::read_groups` meets its contract. The loop's invariant is `Turn`: the number is what the definition reads from
-- here on. Assumes nothing.
use Rattle.numbers.proofs.Groups.{Turn}
use Rattle.numbers.proofs.read_groups.Given as goal

abbrev pub invariant-loop-place : goal.invariant-loop-place
invariant-loop-place l = Turn l.bytes l.at l.groups l.top l.place l.left l.weight l.value
