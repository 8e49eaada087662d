use native.Mathlib.Omega.{arith}
use Rattle.card.proofs.Pastes.{begins, byte}
use Rattle.card.proofs.bytes.copy_exact.Goals as goal

pub loop-i-init : goal.loop-i-init
loop-i-init c = begins _ _ _ _

pub loop-i-preserved : goal.loop-i-preserved
loop-i-preserved c = byte _ _ _ _ _ _ c.loop-i.invariant (omega arith) (omega arith) (omega arith)
