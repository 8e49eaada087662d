-- `card::bytes::shift` meets its contract. Assumes nothing.
use native.Mathlib.Omega.{arith}
use Rattle.laws.proofs.Puts.{put_zero, put_count}
use Rattle.card.proofs.bytes.shift.Goals as goal

pub returns-then-end-from : goal.returns-then-end-from
returns-then-end-from c = put_zero _ _ _ _ (omega arith)

pub returns : goal.returns
returns c = put_count _ _ _ _ _ _ c.shift_exact.ensures (omega arith)
