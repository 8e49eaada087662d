-- `reader::BufReader::peek_loop` meets its contract. The loop's invariant: what is left to do is what there was to do. The measure: the replies left. Assumes nothing.
use Prim.Native.Nat.{◌-◌}
use lib.ListN.{length}
use Rattle.reader.proofs.Peeks.{Inv}
use Rattle.reader.proofs.BufReader.peek_loop.Given as goal

abbrev pub invariant-loop-self : goal.invariant-loop-self
invariant-loop-self l = Inv l.initial.self l.n l.self

abbrev pub decreases-loop-self : goal.decreases-loop-self
decreases-loop-self l = length l.initial.self.script.now - l.self.state.used
