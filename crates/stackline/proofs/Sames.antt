-- No second answer keeps a promise: what a call hands over has a field for its result and for every number and byte
-- that it may change, and each promise is an equation for all of them.
-- Assumes nothing.
use mathlib.Core.Path.{◌≡◌}
use mathlib.Core.List.{List}
use Prim.Native.Nat.{ℕ}
use Rattle.card.proofs.Sames.{one}
use Rattle.flushing.specs.World.{World, reported}
use Rattle.line.specs.Line.{line_write_call, line_write_all_call}
use Rattle.stackglow.specs.Writing.{Handed, handed}

module _ (script : List ℕ) (w : World) (slice : List ℕ) (r q : Handed) where
  pub line_write_one : r ≡ handed (reported (line_write_call script w slice)) → q ≡ handed (reported (line_write_call script w slice)) → r ≡ q
  line_write_one = one (handed (reported (line_write_call script w slice))) r q

  pub line_write_all_one : r ≡ handed (reported (line_write_all_call script w slice)) → q ≡ handed (reported (line_write_all_call script w slice)) → r ≡ q
  line_write_all_one = one (handed (reported (line_write_all_call script w slice))) r q
