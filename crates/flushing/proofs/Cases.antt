-- The flush of the buffer by its cases: done, or stopped.
-- Assumes nothing.
use mathlib.Core.Path.{◌≡◌, refl, ap}
use mathlib.Core.Bool.{true, false}
use mathlib.Core.List.{List}
use Prim.Native.Nat.{ℕ}
use native.Mathlib.Omega.{arith}
use Rattle.card.specs.Answers.{Said, done, failed}
use Rattle.flushing.specs.World.{World, Called, Fit, room, replies, is_ok, and_then}
use Rattle.flushing.specs.Send.{flush_said, flush_failure, send_from, Outcome}
use Rattle.flushing.specs.Flush.{flush_buf}
use Rattle.flushing.proofs.Flushes.{fit_after}
use Rattle.flushing.proofs.Thens.{then_cases}
use Rattle.std.specs.Prelude.{Ok, Err}
use Rattle.flushing.specs.declared.Stop.{Stop}
use Rattle.flushing.specs.declared.Stop.TheVariants.{Zero, Failed}

flush_outcome : (o : Outcome) → is_ok (flush_said o) ≡ true → flush_said o ≡ done
flush_outcome (Ok nothing) e = refl
flush_outcome (Err Zero) e = absurd (true_false e)
  where
    true_false : false ≡ true → ⊥
    true_false q =
        let z : ◌≡◌ {A = ℕ} 0 1 = cc in
        omega arith
flush_outcome (Err (Failed code)) e = absurd (true_false e)
  where
    true_false : false ≡ true → ⊥
    true_false q =
        let z : ◌≡◌ {A = ℕ} 0 1 = cc in
        omega arith

-- what a stopped run is handed up as says what it says
pub failure_says : (stop : Stop) (o : Outcome) → o ≡ Err stop → failed (flush_failure stop) ≡ flush_said o
failure_says Zero o e = rw e refl
failure_says (Failed code) o e = rw e refl

pub flush_ok_done : (script : List ℕ) (w : World) → is_ok (flush_buf script w).answer ≡ true → (flush_buf script w).answer ≡ done
unfolding flush_buf
flush_ok_done script w e = flush_outcome (send_from (replies script w) w.held (room w) 0 w.used w.writes).outcome e

pub failed_not_done : (a : Said) → is_ok a ≡ false → a ≡ done → ⊥
failed_not_done a e q =
    let z : ◌≡◌ {A = ℕ} 0 1 = cc in
    omega arith

-- what follows a flush
pub flush_cases : (script : List ℕ) (w : World) (next : World → Called) (P : Called → Type 0) → Fit script w → ((v : World) → flush_buf script w ≡ record { answer = done; world = v } → Fit script v → v.held ≡ 0 → P (next v)) → (((flush_buf script w).answer ≡ done → ⊥) → P (flush_buf script w)) → P (and_then (flush_buf script w) next)
flush_cases script w next P fit on off =
    then_cases (flush_buf script w) next P
    (λ e.
    let q : flush_buf script w ≡ record { answer = done; world = (flush_buf script w).world } = ap (λ (a : Said). record { answer = a; world = (flush_buf script w).world }) (flush_ok_done script w e) in
    let f = fit_after script w (flush_buf script w).world fit q in
    on (flush_buf script w).world q f.0 f.1)
    (λ e. off (failed_not_done (flush_buf script w).answer e))
