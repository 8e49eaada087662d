-- `card::bytes::shift_exact` meets its contract. The loop's invariant: i bytes are moved. Assumes nothing.
use mathlib.Core.Path.{◌≡◌}
use lib.ListN.{length, drop}
use Rattle.laws.specs.Put.{put}
use Rattle.card.proofs.bytes.shift_exact.Given as goal

abbrev pub invariant-loop-i : goal.invariant-loop-i
invariant-loop-i l = (l.bytes ≡ put l.fn.bytes 0 (drop l.from l.fn.bytes) l.i) × (length l.bytes ≡ length l.fn.bytes)
