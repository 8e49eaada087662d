-- `flushing::send::send_all` meets its contract, by the invariant and the turns of `Turn`. Assumes nothing.
use Prim.Native.Nat.{◌-◌}
use lib.ListN.{length}
use Rattle.flushing.proofs.Turn.{Inv}
use Rattle.flushing.proofs.send.send_all.Given as goal

abbrev pub invariant-loop-sent : goal.invariant-loop-sent
invariant-loop-sent l = Inv l.source l.script l.used l.initial.medium l.out l.medium l.sent l.at l.made

abbrev pub decreases-loop-sent : goal.decreases-loop-sent
decreases-loop-sent l = length l.script - l.at
