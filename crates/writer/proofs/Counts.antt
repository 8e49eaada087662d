-- The device calls that a call reports are the replies that it took, plus one if it met the script's end.
-- Assumes nothing.
use mathlib.Core.Path.{◌≡◌, refl}
use mathlib.Core.List.{List}
use Prim.Native.Nat.{ℕ, ◌-◌, min}
use native.Mathlib.Omega.{arith}
use lib.ListN.{length, length-drop}
use lib.Dec.{leb, ltb}
use Rattle.laws.proofs.Picks.{pick_holds}
use Rattle.card.specs.Answers.{Said, ok, done}
use Rattle.card.specs.Limits.{length_refusal}
use Rattle.card.specs.Device.{exchange, Reply}
use Rattle.card.proofs.Replies.{takes_fit}
use Rattle.card.proofs.Ends.{ended, ended_by, exchange_counts}
use Rattle.flushing.specs.declared.State.{State}
use Rattle.flushing.specs.World.{World, Called, capacity, spare, room, replies, world_of, reported}
use Rattle.flushing.specs.Send.{whole_said, write_said, flush_reply_said, send_from, Outcome}
use Rattle.flushing.proofs.Sends.{within}
use Rattle.flushing.proofs.Counts.{ended_out, Counts, send_counts, Reports, CountsCalls, flush_buf_counts, nothing_counts, then_counts, refusing_counts, Uses, flush_buf_uses, then_uses}
use Rattle.writer.specs.Writer.{device_write, device_write_all, stored, placed, readied, cold, written, write, write_all, device_flush, flush, write_call, write_all_call, flush_call}
use Rattle.std.specs.Prelude.{Ok, Err}
use Rattle.card.specs.declared.DeviceError.TheVariants.{Interrupted, Error}
use Rattle.flushing.specs.declared.Stop.TheVariants.{Zero, Failed}

-- ---- the parts of a call, from world w

whole_ended : (o : Outcome) → ended (whole_said o) ≡ ended_out o
whole_ended (Ok nothing) = refl
whole_ended (Err Zero) = refl
whole_ended (Err (Failed code)) = refl

write_ended : (r : Reply) → ended (write_said r) ≡ ended_by r
write_ended (Ok n) = refl
write_ended (Err Interrupted) = refl
write_ended (Err (Error code)) = refl

flush_reply_ended : (r : Reply) → ended (flush_reply_said r) ≡ ended_by r
flush_reply_ended (Ok n) = refl
flush_reply_ended (Err Interrupted) = refl
flush_reply_ended (Err (Error code)) = refl

pub device_write_counts : (script : List ℕ) (w : World) (s : List ℕ) → Reports w (device_write script w s)
unfolding device_write Reports
device_write_counts script w s =
    omega (arith, exchange_counts (replies script w) w.used (min (length s) (room w)), write_ended (exchange (replies script w) w.used (min (length s) (room w))).reply)

pub device_write_all_counts : (script : List ℕ) (w : World) (s : List ℕ) → Reports w (device_write_all script w s)
unfolding device_write_all Reports Counts
device_write_all_counts script w s =
    let f = send_from (replies script w) (length s) (room w) 0 w.used w.writes in
    omega (arith, send_counts (replies script w) (length s) (room w) 0 w.used w.writes, whole_ended f.outcome)

device_flush_counts : (script : List ℕ) (w : World) → Reports w (device_flush script w)
unfolding device_flush Reports
device_flush_counts script w =
    omega (arith, exchange_counts (replies script w) w.used 0, flush_reply_ended (exchange (replies script w) w.used 0).reply)

-- ---- the calls where they meet no refusal

stored_counts : (answer : Said) (w : World) (s : List ℕ) → ended answer ≡ 0 → Reports w (stored answer w s)
unfolding Reports
stored_counts answer w s none = omega (arith, none)

written_counts : (script : List ℕ) (answer : Said) (device : World → Called) (w : World) (s : List ℕ) → ended answer ≡ 0 → ((v : World) → Reports v (device v)) → Reports w (written script answer device w s)
unfolding written cold readied placed
written_counts script answer device w s none d =
    pick_holds (Reports w) (ltb (length s) (spare w)) _ _ (λ e. stored_counts answer w s none)
    (λ e. then_counts w _ _
    (pick_holds (Reports w) (ltb (spare w) (length s)) _ _ (λ f. flush_buf_counts script w) (λ f. nothing_counts w))
    (λ v. pick_holds (Reports v) (leb (capacity v) (length s)) _ _ (λ f. d v) (λ f. stored_counts answer v s none)))

pub write_counts : (script : List ℕ) (w : World) (s : List ℕ) → Reports w (write script w s)
unfolding write
write_counts script w s = written_counts script (ok (length s)) _ w s refl (λ v. device_write_counts script v s)

pub write_all_counts : (script : List ℕ) (w : World) (s : List ℕ) → Reports w (write_all script w s)
unfolding write_all
write_all_counts script w s = written_counts script done _ w s refl (λ v. device_write_all_counts script v s)

flush_counts : (script : List ℕ) (w : World) → Reports w (flush script w)
unfolding flush
flush_counts script w = then_counts w _ _ (flush_buf_counts script w) (λ v. device_flush_counts script v)

-- ---- so they make few of them

pub device_write_uses : (script : List ℕ) (w : World) (s : List ℕ) → Uses script w (device_write script w s)
unfolding device_write Uses exchange
device_write_uses script w s h = takes_fit script w.used h

pub device_write_all_uses : (script : List ℕ) (w : World) (s : List ℕ) → Uses script w (device_write_all script w s)
unfolding device_write_all Uses
device_write_all_uses script w s h =
    let left : length (replies script w) ≡ length script - w.used = length-drop w.used script in
    omega (arith, (within (replies script w) (length s) (room w) 0 w.used w.writes).end)

written_uses : (script : List ℕ) (answer : Said) (device : World → Called) (w : World) (s : List ℕ) → ((v : World) → Uses script v (device v)) → Uses script w (written script answer device w s)
unfolding written cold readied placed Uses
written_uses script answer device w s d =
    pick_holds (Uses script w) (ltb (length s) (spare w)) _ _ (λ e h. h)
    (λ e. then_uses script w _ _
    (pick_holds (Uses script w) (ltb (spare w) (length s)) _ _ (λ f. flush_buf_uses script w) (λ f h. h))
    (λ v. pick_holds (Uses script v) (leb (capacity v) (length s)) _ _ (λ f. d v) (λ f h. h)))

pub write_uses : (script : List ℕ) (w : World) (s : List ℕ) → Uses script w (write script w s)
unfolding write
write_uses script w s = written_uses script (ok (length s)) _ w s (λ v. device_write_uses script v s)

pub write_all_uses : (script : List ℕ) (w : World) (s : List ℕ) → Uses script w (write_all script w s)
unfolding write_all
write_all_uses script w s = written_uses script done _ w s (λ v. device_write_all_uses script v s)

-- ---- THE DEVICE CALLS of each public call, on every input

module _ (script : List ℕ) (st : State) (s m : List ℕ) where
  -- of both writers
  pub flush_reports : CountsCalls st (reported (flush_call script (world_of st s m)))
  unfolding flush_call
  flush_reports = refusing_counts script st s m 0 _ (λ v. flush_counts script v)

  pub write_reports : (slice : List ℕ) → CountsCalls st (reported (write_call script (world_of st s m) slice))
  unfolding write_call
  write_reports slice = refusing_counts script st s m (length_refusal (length slice)) _ (λ v. write_counts script v slice)

  pub write_all_reports : (slice : List ℕ) → CountsCalls st (reported (write_all_call script (world_of st s m) slice))
  unfolding write_all_call
  write_all_reports slice = refusing_counts script st s m (length_refusal (length slice)) _ (λ v. write_all_counts script v slice)
