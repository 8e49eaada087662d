-- `card::bytes::copy_exact` meets its contract. The loop's invariant: i bytes are pasted. Assumes nothing.
use Rattle.card.proofs.Pastes.{Pasted}
use Rattle.card.proofs.bytes.copy_exact.Given as goal

abbrev pub invariant-loop-i : goal.invariant-loop-i
invariant-loop-i l = Pasted l.fn.dst l.at l.src l.n l.i l.dst
