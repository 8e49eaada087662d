-- Whatever the replies, a call's answer and the held count that it leaves stand in the table.
-- Assumes nothing.
use mathlib.Core.Path.{◌≡◌, refl, ◌∙◌}
use mathlib.Core.List.{List}
use Prim.Native.Nat.{ℕ, ◌≤◌, min}
use native.Mathlib.Omega.{arith}
use lib.ListN.{length}
use Rattle.card.specs.Answers.{ok, done}
use Rattle.card.specs.Device.{exchange, moves, Reply}
use Rattle.card.proofs.Replies.{exchange_most}
use Rattle.flushing.specs.World.{World, Called, Fit, room, replies}
use Rattle.flushing.specs.Send.{flush_said, write_said, flush_reply_said, send_from, Outcome}
use Rattle.flushing.specs.Flush.{flush_buf}
use Rattle.writer.specs.Writer.{device_write, write, device_flush, flush}
use Rattle.flushing.proofs.Flushes.{keeps}
use Rattle.flushing.proofs.Cases.{flush_cases}
use Rattle.writer.proofs.Cases.{written_cases, placed_by}
use Rattle.judge.specs.Table.{Direct, Synced, Stopped, WriteStep, FlushStep}
use Rattle.std.specs.Prelude.{Ok, Err}
use Rattle.card.specs.declared.DeviceError.TheVariants.{Interrupted, Error}
use Rattle.flushing.specs.declared.Stop.TheVariants.{Zero, Failed}

-- a flush that is stopped says so
said_stopped : (o : Outcome) → (flush_said o ≡ done → ⊥) → Stopped (flush_said o)
said_stopped (Ok nothing) e = absurd (e refl)
said_stopped (Err Zero) e = Stopped.none refl
said_stopped (Err (Failed code)) e = Stopped.failed code refl

flush_stopped : (script : List ℕ) (w : World) → ((flush_buf script w).answer ≡ done → ⊥) → Stopped (flush_buf script w).answer
unfolding flush_buf
flush_stopped script w e = said_stopped (send_from (replies script w) w.held (room w) 0 w.used w.writes).outcome e

said_direct : (n most : ℕ) (r : Reply) → moves r ≤ min n most → Direct n (write_said r)
said_direct n most (Ok m) h = Direct.took m (omega arith) refl
said_direct n most (Err Interrupted) h = Direct.cut_off refl
said_direct n most (Err (Error code)) h = Direct.failed code refl

write_direct : (script : List ℕ) (w : World) (s : List ℕ) → Direct (length s) (device_write script w s).answer
unfolding device_write
write_direct script w s = said_direct (length s) (room w) (exchange (replies script w) w.used (min (length s) (room w))).reply (exchange_most (replies script w) w.used (min (length s) (room w)))

write_keeps : (script : List ℕ) (w : World) (s : List ℕ) → (device_write script w s).world.held ≡ w.held
unfolding device_write
write_keeps script w s = refl

said_synced : (r : Reply) → Synced (flush_reply_said r)
said_synced (Ok m) = Synced.well refl
said_synced (Err Interrupted) = Synced.cut_off refl
said_synced (Err (Error code)) = Synced.failed code refl

flush_synced : (script : List ℕ) (w : World) → Synced (device_flush script w).answer
unfolding device_flush
flush_synced script w = said_synced (exchange (replies script w) w.used 0).reply

flush_keeps : (script : List ℕ) (w : World) → (device_flush script w).world.held ≡ w.held
unfolding device_flush
flush_keeps script w = refl

pub only_write : (script : List ℕ) (w : World) (s : List ℕ) → Fit script w → WriteStep (length w.storage) w.held (length s) (write script w s).answer (write script w s).world.held
unfolding write
only_write script w s fit =
    let k = keeps script w fit in
    written_cases script (ok (length s)) (λ v. device_write script v s) w s (λ (c : Called). WriteStep (length w.storage) w.held (length s) c.answer c.world.held) fit
    (λ h l. WriteStep.stored l h refl refl)
    (λ z l. WriteStep.direct l (write_direct script w s) (write_keeps script w s ∙ z))
    (λ v q f z l.
    let same : length v.storage ≡ length w.storage = rw q at k.storage_long in
    placed_by (ok (length s)) (λ u. device_write script u s) v s (λ (c : Called). WriteStep (length w.storage) w.held (length s) c.answer c.world.held)
    (λ m. WriteStep.direct (omega arith) (write_direct script v s) (write_keeps script v s ∙ z))
    (λ m. WriteStep.refilled (omega arith) l refl (omega arith)))
    (λ e l. WriteStep.stopped l (flush_stopped script w e) (k.stopped e) k.held_most)

pub only_flush : (script : List ℕ) (w : World) → Fit script w → FlushStep w.held (flush script w).answer (flush script w).world.held
unfolding flush
only_flush script w fit =
    let k = keeps script w fit in
    flush_cases script w (λ v. device_flush script v) (λ (c : Called). FlushStep w.held c.answer c.world.held) fit
    (λ v q f z. FlushStep.emptied (flush_synced script v) (flush_keeps script v ∙ z))
    (λ e. FlushStep.stopped (flush_stopped script w e) (k.stopped e) k.held_most)
