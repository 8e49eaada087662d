-- `write` and `write_all` by their cases: whatever holds in each of them holds of the call. The ledger, what calls keep and the
-- judge's table go by these.
-- Assumes nothing.
use mathlib.Core.Path.{◌≡◌, refl}
use mathlib.Core.List.{List}
use Prim.Native.Nat.{ℕ, ◌+◌, ◌≤◌, ◌<◌}
use native.Mathlib.Decide.{dec_le}
use native.Mathlib.Omega.{arith}
use lib.ListN.{length}
use borrow.Author.Tests.{le-leb, lt-leb, le-ltb, lt-ltb}
use Rattle.card.specs.Answers.{Said, done}
use Rattle.flushing.specs.World.{World, Called, Fit, spare, nothing}
use Rattle.flushing.specs.Flush.{flush_buf}
use Rattle.flushing.proofs.Thens.{then_ok}
use Rattle.flushing.proofs.Cases.{flush_cases}
use Rattle.writer.specs.Writer.{stored, placed, readied, cold, written}

module _ (script : List ℕ) (answer : Said) (device : World → Called) (w : World) (s : List ℕ) (P : Called → Type 0) (fit : Fit script w) (on-stored : w.held + length s ≤ length w.storage → length s < length w.storage → P (stored answer w s)) (on-direct : w.held ≡ 0 → length w.storage ≤ length s → P (device w)) (on-flushed : (v : World) → flush_buf script w ≡ record { answer = done; world = v } → Fit script v → v.held ≡ 0 → length w.storage < w.held + length s → P (placed answer device v s)) (on-stopped : ((flush_buf script w).answer ≡ done → ⊥) → length w.storage < w.held + length s → P (flush_buf script w)) where
  placed_cases : spare w ≡ length s → P (placed answer device w s)
  unfolding placed
  placed_cases e = by (dec_le (length w.storage) (length s))
    where
      by : Dec (length w.storage ≤ length s) → P (placed answer device w s)
      by (yes h) = rw (le-leb _ _ h) (on-direct (omega (arith, fit.held)) h)
      by (no h) = rw (lt-leb (length w.storage) (length s) (omega arith)) (on-stored (omega (arith, fit.held)) (omega arith))

  cold_cases : spare w ≤ length s → P (cold script answer device w s)
  unfolding cold readied
  cold_cases h = by (dec_le (length s) (spare w))
    where
      by : Dec (length s ≤ spare w) → P (cold script answer device w s)
      by (yes k) = rw (le-ltb (spare w) (length s) k) (rw (then_ok (nothing w) (λ v. placed answer device v s) refl) (placed_cases (omega arith)))
      by (no k) = rw (lt-ltb (spare w) (length s) (omega arith)) (flush_cases script w (λ v. placed answer device v s) P fit (λ v q f z. on-flushed v q f z (omega (arith, fit.held))) (λ e. on-stopped e (omega (arith, fit.held))))

  pub written_cases : P (written script answer device w s)
  unfolding written
  written_cases = by (dec_le (spare w) (length s))
    where
      by : Dec (spare w ≤ length s) → P (written script answer device w s)
      by (yes h) = rw (le-ltb (length s) (spare w) h) (cold_cases h)
      by (no h) = rw (lt-ltb (length s) (spare w) (omega arith)) (on-stored (omega (arith, fit.held)) (omega arith))

-- after a flush, or without one: to the device, or stored
pub placed_by : (answer : Said) (device : World → Called) (v : World) (s : List ℕ) (P : Called → Type 0) → (length v.storage ≤ length s → P (device v)) → (length s < length v.storage → P (stored answer v s)) → P (placed answer device v s)
unfolding placed
placed_by answer device v s P on-device on-stored = by (dec_le (length v.storage) (length s))
  where
    by : Dec (length v.storage ≤ length s) → P (placed answer device v s)
    by (yes h) = rw (le-leb _ _ h) (on-device h)
    by (no h) = rw (lt-leb (length v.storage) (length s) (omega arith)) (on-stored (omega arith))
