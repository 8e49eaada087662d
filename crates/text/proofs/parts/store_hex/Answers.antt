use Rattle.text.proofs.Hexes.{again, finish}
use Rattle.text.proofs.parts.store_hex.Goals as goal

pub loop-byte-preserved : goal.loop-byte-preserved
loop-byte-preserved c = again _ _ _ _ _ _ c.loop-byte.invariant c.store_digit-next.ensures c.store_digit-next-in-loop-byte.ensures c.loop-byte-test.true

pub returns : goal.returns
returns c = finish _ _ _ _ c.loop-byte.invariant c.loop-byte-test.false
