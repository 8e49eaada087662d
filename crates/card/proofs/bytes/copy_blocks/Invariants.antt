-- `card::bytes::copy_blocks` meets its contract. The loop's invariant: i bytes are pasted. Assumes nothing.
use Prim.Native.Nat.{◌-◌}
use Rattle.card.proofs.Pastes.{Pasted}
use Rattle.card.proofs.bytes.copy_blocks.Given as goal

abbrev pub invariant-loop-i : goal.invariant-loop-i
invariant-loop-i g l = Pasted l.fn.dst l.at l.src l.n l.i l.dst

abbrev pub decreases-loop-i : goal.decreases-loop-i
decreases-loop-i g l = l.rest - l.i
