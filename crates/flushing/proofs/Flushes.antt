-- What every flush of the buffer keeps in range.
-- Assumes nothing.
use mathlib.Core.Path.{◌≡◌, refl, ap, subst}
use mathlib.Core.List.{List}
use Prim.Native.Nat.{ℕ, ◌+◌, ◌-◌, ◌≤◌, ◌<◌}
use native.Mathlib.Omega.{arith}
use lib.ListN.{length, drop, length-drop}
use Rattle.laws.proofs.Puts.{length-put}
use Rattle.card.specs.Answers.{done}
use Rattle.flushing.specs.declared.Sent.{Sent}
use Rattle.flushing.specs.World.{World, Called, Fit, replies, room}
use Rattle.flushing.specs.Send.{flush_said, send_from, Outcome}
use Rattle.flushing.specs.Flush.{flush_buf, flushed_by}
use Rattle.flushing.proofs.Sends.{Within, within}
use Rattle.std.specs.Prelude.{Ok, Err}
use Rattle.flushing.specs.declared.Stop.TheVariants.{Zero, Failed}

pub record Keeps (script : List ℕ) (w : World) (c : Called) : Type 0 where
  pub storage_long : length c.world.storage ≡ length w.storage
  pub medium_long : length c.world.medium ≡ length w.medium
  pub held_most : c.world.held ≤ w.held
  pub sum : c.world.held + c.world.out ≡ w.held + w.out
  pub out_fits : c.world.out ≤ length w.medium
  pub used_fits : c.world.used ≤ length script
  pub flushes_same : c.world.flushes ≡ w.flushes
  pub emptied : c.answer ≡ done → (c.world.held ≡ 0) × (c.world.writes ≤ c.world.used)
  pub stopped : (c.answer ≡ done → ⊥) → 0 < c.world.held

-- only Done says done
done_only : (o : Outcome) → flush_said o ≡ done → o ≡ (Ok tt)
done_only (Ok nothing) e = refl
done_only (Err Zero) e =
    let z : ◌≡◌ {A = ℕ} 0 1 = cc in
    absurd (omega arith)
done_only (Err (Failed code)) e =
    let z : ◌≡◌ {A = ℕ} 0 1 = cc in
    absurd (omega arith)

keeps_by : (script : List ℕ) (w : World) (f : Sent) → Fit script w → Within (replies script w) w.held (room w) 0 w.used w.writes f → Keeps script w (flushed_by w f)
keeps_by script w f fit k =
    let within_held : f.sent ≤ w.held = omega (arith, k.most) in
    let within-room : w.out + f.sent ≤ length w.medium = omega (arith, k.fits, fit.out) in
    let left : length (drop f.sent w.storage) ≡ length w.storage - f.sent = length-drop f.sent w.storage in
    let replies-left : length (replies script w) ≡ length script - w.used = length-drop w.used script in
    record {
      storage_long = length-put w.storage 0 (drop f.sent w.storage) (w.held - f.sent) (omega (arith, fit.held)) (omega (arith, fit.held));
      medium_long = length-put w.medium w.out w.storage f.sent within-room (omega (arith, fit.held));
      held_most = omega arith;
      sum = omega arith;
      out_fits = within-room;
      used_fits = omega (arith, k.end, fit.used);
      flushes_same = refl;
      emptied = λ e. (omega (arith, (k.done (done_only f.outcome e)).0), omega (arith, (k.done (done_only f.outcome e)).1, fit.few));
      stopped = λ e. omega (arith, k.stopped (λ d. e (ap flush_said d)));
    }

pub keeps : (script : List ℕ) (w : World) → Fit script w → Keeps script w (flush_buf script w)
unfolding flush_buf
keeps script w fit = keeps_by script w (send_from (replies script w) w.held (room w) 0 w.used w.writes) fit (within (replies script w) w.held (room w) 0 w.used w.writes)

-- a flush that is done leaves a fit world that holds nothing
pub fit_after : (script : List ℕ) (w : World) (v : World) → Fit script w → flush_buf script w ≡ record { answer = done; world = v } → Fit script v × (v.held ≡ 0)
fit_after script w v fit e =
    let k : Keeps script w (record { answer = done; world = v }) = subst (λ (c : Called). Keeps script w c) e (keeps script w fit) in (
      record {
        held = omega (arith, k.storage_long, k.held_most, fit.held);
        out = omega (arith, k.medium_long, k.out_fits);
        used = k.used_fits;
        few = (k.emptied refl).1;
      },
      (k.emptied refl).0,
    )
