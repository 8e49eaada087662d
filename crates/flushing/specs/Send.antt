-- Device writes, one and many.
-- Assumes nothing.
use Rattle.std.specs.Prelude.{ℕ, ◌+◌, ◌-◌, min, List, [], ◌∷◌, eqb, Result, Ok, Err}
use Rattle.laws.specs.Pick.{pick}
use Rattle.card.specs.declared.DeviceError.TheVariants.{Interrupted, Error}
use Rattle.card.specs.Answers.{Said, ok, done, interrupted, zero_taken, whole, error}
use Rattle.card.specs.Device.{Reply, reply_of, at_most}
use Rattle.card.specs.declared.Failure.{Failure}
use Rattle.card.specs.declared.Failure.TheVariants.{Zero as TookNone, Whole, Error as Fails}
use Rattle.flushing.specs.declared.Stop.{Stop}
use Rattle.flushing.specs.declared.Stop.TheVariants.{Zero, Failed}
use Rattle.flushing.specs.declared.Sent.{Sent}

-- How a run of device writes was left: done, or stopped
abbrev pub Outcome : Type 0
Outcome = Result Unit Stop

-- what an outcome says of a flush of the buffer: "Taken 0 answers zero"
abbrev pub flush_said : Outcome → Said
flush_said (Ok nothing) = done
flush_said (Err Zero) = zero_taken
flush_said (Err (Failed code)) = error code

-- what it says of the default device write of a slice: "taken 0 answers whole"
abbrev pub whole_said : Outcome → Said
whole_said (Ok nothing) = done
whole_said (Err Zero) = whole
whole_said (Err (Failed code)) = error code

-- what a reply says of one device write, "whose answer is handed up, interrupted included"
abbrev pub write_said : Reply → Said
write_said (Ok n) = ok n
write_said (Err Interrupted) = interrupted
write_said (Err (Error code)) = error code

-- what a reply says of a device flush: it succeeds, and n is ignored
abbrev pub flush_reply_said : Reply → Said
flush_reply_said (Ok n) = done
flush_reply_said (Err Interrupted) = interrupted
flush_reply_said (Err (Error code)) = error code

-- a reply by its cases
abbrev pub on_reply {ℓ} : {A : Type ℓ} → Reply → (ℕ → A) → A → (ℕ → A) → A
on_reply (Ok n) accept pause error = accept n
on_reply (Err Interrupted) accept pause error = pause
on_reply (Err (Error code)) accept pause error = error code

abbrev pub sent_by : Outcome → ℕ → ℕ → ℕ → Sent
sent_by outcome sent used writes = record { outcome = outcome; sent = sent; used = used; writes = writes }

-- The unwritten rest is offered again until none is left. Taken 0 stops with zero, interrupted retries, an error stops,
-- and past the script's end the error has code 0. `left` bytes are unwritten, the medium has room for `room`; `sent`
-- were taken, the script's position is `used`, and `writes` device writes were made
unfoldable pub send_from : List ℕ → ℕ → ℕ → ℕ → ℕ → ℕ → Sent
send_from [] left room sent used writes = pick (eqb left 0) (sent_by (Ok tt) sent used writes) (sent_by (Err (Failed 0)) sent used (writes + 1))
send_from (n ∷ rest) left room sent used writes =
    pick (eqb left 0) (sent_by (Ok tt) sent used writes)
    (on_reply (at_most (min left room) (reply_of n))
    (λ t. pick (eqb t 0) (sent_by (Err Zero) sent (used + 1) (writes + 1)) (send_from rest (left - t) (room - t) (sent + t) (used + 1) (writes + 1)))
    (send_from rest left room sent (used + 1) (writes + 1))
    (λ code. sent_by (Err (Failed code)) sent (used + 1) (writes + 1)))

-- the failure that a stopped run is handed up as, of a flush of the buffer and of the default device write
abbrev pub flush_failure : Stop → Failure
flush_failure Zero = TookNone
flush_failure (Failed code) = Fails code

abbrev pub whole_failure : Stop → Failure
whole_failure Zero = Whole
whole_failure (Failed code) = Fails code
