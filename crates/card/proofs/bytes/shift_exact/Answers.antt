use mathlib.Core.Path.{refl}
use native.Mathlib.Omega.{arith}
use lib.ListN.{length-set}
use Rattle.laws.proofs.Puts.{put_none, shift_more}
use Rattle.card.proofs.bytes.shift_exact.Goals as goal

pub loop-i-init : goal.loop-i-init
loop-i-init c = (put_none _ _ _, refl)

pub loop-i-preserved : goal.loop-i-preserved
loop-i-preserved c = (shift_more _ _ _ _ c.loop-i.invariant.0 (omega arith), simp length-set c.loop-i.invariant.1)
