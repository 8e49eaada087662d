-- `card::bytes::copy` meets its contract: past the end of dst nothing is pasted, else the count is the least of the three. Assumes nothing.
use native.Mathlib.Omega.{arith}
use Rattle.laws.proofs.Puts.{put_zero, put_count}
use Rattle.card.proofs.bytes.copy.Goals as goal

pub returns-then-dst-at : goal.returns-then-dst-at
returns-then-dst-at c = put_zero _ _ _ _ (omega arith)

pub returns : goal.returns
returns c = put_count _ _ _ _ _ _ c.copy_exact.ensures (omega arith)
