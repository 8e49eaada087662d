-- What `write_all` leaves: as much storage and medium, and where it succeeds a fit world, in which a next step can go on.
-- Assumes nothing.
use mathlib.Core.Path.{◌≡◌, refl, ap, ◌∙◌}
use mathlib.Core.Bool.{true}
use mathlib.Core.List.{List}
use Prim.Native.Nat.{ℕ, ◌+◌, ◌-◌, ◌≤◌}
use native.Mathlib.Omega.{arith}
use lib.ListN.{length, length-drop}
use Rattle.laws.proofs.Puts.{length-put}
use Rattle.card.specs.Answers.{Said, done}
use Rattle.flushing.specs.declared.Sent.{Sent}
use Rattle.flushing.specs.World.{World, Called, Fit, room, replies, is_ok}
use Rattle.flushing.specs.Send.{whole_said, Outcome}
use Rattle.flushing.specs.Flush.{flush_buf}
use Rattle.writer.specs.Writer.{stored, taken_by, device_write_all, write_all}
use Rattle.flushing.proofs.Sends.{Within, within}
use Rattle.flushing.proofs.Flushes.{keeps, fit_after}
use Rattle.flushing.proofs.Cases.{flush_ok_done}
use Rattle.writer.proofs.Cases.{written_cases, placed_by}
use Rattle.std.specs.Prelude.{Ok, Err}
use Rattle.flushing.specs.declared.Stop.TheVariants.{Zero, Failed}

pub record Goes (script : List ℕ) (w : World) (c : Called) : Type 0 where
  pub fit : is_ok c.answer ≡ true → Fit script c.world
  pub flushes : c.world.flushes ≡ w.flushes
  pub storage_long : length c.world.storage ≡ length w.storage
  pub medium_long : length c.world.medium ≡ length w.medium

whole_done : (o : Outcome) → is_ok (whole_said o) ≡ true → o ≡ (Ok tt)
whole_done (Ok nothing) e = refl
whole_done (Err Zero) e =
    let z : ◌≡◌ {A = ℕ} 0 1 = cc in
    absurd (omega arith)
whole_done (Err (Failed code)) e =
    let z : ◌≡◌ {A = ℕ} 0 1 = cc in
    absurd (omega arith)

taken_goes : (script : List ℕ) (w : World) (s : List ℕ) (f : Sent) → Fit script w → Within (replies script w) (length s) (room w) 0 w.used w.writes f → Goes script w (taken_by w s f)
taken_goes script w s f fit k =
    let within-room : w.out + f.sent ≤ length w.medium = omega (arith, k.fits, fit.out) in
    let replies-left : length (replies script w) ≡ length script - w.used = length-drop w.used script in
    let long = length-put w.medium w.out s f.sent within-room (omega (arith, k.most)) in
    record {
      fit = λ e.
          record {
            held = fit.held;
            out = omega (arith, long);
            used = omega (arith, k.end, fit.used);
            few = omega (arith, (k.done (whole_done f.outcome e)).1, fit.few);
          };
      flushes = refl;
      storage_long = refl;
      medium_long = long;
    }

pub device_all_goes : (script : List ℕ) (w : World) (s : List ℕ) → Fit script w → Goes script w (device_write_all script w s)
unfolding device_write_all
device_all_goes script w s fit = taken_goes script w s _ fit (within (replies script w) (length s) (room w) 0 w.used w.writes)

stored_goes : (script : List ℕ) (w : World) (s : List ℕ) (a : Said) → Fit script w → w.held + length s ≤ length w.storage → Goes script w (stored a w s)
stored_goes script w s a fit h =
    let long = length-put w.storage w.held s (length s) h (omega arith) in
    record { fit = λ e. record { held = omega (arith, long); out = fit.out; used = fit.used; few = fit.few }; flushes = refl; storage_long = long; medium_long = refl }

-- from a world that has made as many device flushes, and has as much storage and medium
from : (script : List ℕ) (w v : World) (c : Called) → v.flushes ≡ w.flushes → length v.storage ≡ length w.storage → length v.medium ≡ length w.medium → Goes script v c → Goes script w c
from script w v c e x y g = record { fit = g.fit; flushes = g.flushes ∙ e; storage_long = g.storage_long ∙ x; medium_long = g.medium_long ∙ y }

pub write_all_goes : (script : List ℕ) (w : World) (s : List ℕ) → Fit script w → Goes script w (write_all script w s)
unfolding write_all
write_all_goes script w s fit =
    let k = keeps script w fit in
    written_cases script done (λ v. device_write_all script v s) w s (λ (c : Called). Goes script w c) fit
    (λ h l. stored_goes script w s done fit h)
    (λ z l. device_all_goes script w s fit)
    (λ v q f z l.
    let same : v.flushes ≡ w.flushes = rw q at k.flushes_same in
    let storages : length v.storage ≡ length w.storage = rw q at k.storage_long in
    let mediums : length v.medium ≡ length w.medium = rw q at k.medium_long in
    placed_by done (λ u. device_write_all script u s) v s (λ (c : Called). Goes script w c) (λ m. from script w v _ same storages mediums (device_all_goes script v s f)) (λ m. from script w v _ same storages mediums (stored_goes script v s done f (omega arith))))
    (λ e l. record { fit = λ o. absurd (stopped_fails script w e o); flushes = k.flushes_same; storage_long = k.storage_long; medium_long = k.medium_long })
  where
    stopped_fails : (script' : List ℕ) (v : World) → ((flush_buf script' v).answer ≡ done → ⊥) → is_ok (flush_buf script' v).answer ≡ true → ⊥
    stopped_fails script' v e o = e (flush_ok_done script' v o)

-- the flush of the buffer leaves as much
pub flush_goes : (script : List ℕ) (w : World) → Fit script w → Goes script w (flush_buf script w)
flush_goes script w fit =
    let k = keeps script w fit in
    record {
      fit = λ o. (fit_after script w (flush_buf script w).world fit (ap (λ (a : Said). record { answer = a; world = (flush_buf script w).world }) (flush_ok_done script w o))).0;
      flushes = k.flushes_same;
      storage_long = k.storage_long;
      medium_long = k.medium_long;
    }
