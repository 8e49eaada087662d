use mathlib.Core.Path.{refl}
use native.Mathlib.Omega.{arith}
use Rattle.card.proofs.Pastes.{begins, ends, block}
use Rattle.card.proofs.bytes.copy_blocks.Goals as goal

pub loop-i-init : goal.loop-i-init
loop-i-init g c = begins _ _ _ _

pub loop-i-preserved : goal.loop-i-preserved
loop-i-preserved g c = block _ _ _ _ _ _ _ _ _ _ c.loop-i.invariant refl c.copy_block.ensures (omega arith) (omega arith) (omega arith) c.requires.room c.requires.there

pub returns : goal.returns
returns g c = ends _ _ _ _ _ _ (block _ _ _ _ _ _ _ _ _ _ c.loop-i.invariant refl c.copy_block-2.ensures (omega arith) (omega arith) (omega arith) c.requires.room c.requires.there) (omega arith)
