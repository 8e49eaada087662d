-- Module 3, the buffered writer: what each call does where it meets no refusal, and what it promises on every input.
-- Assumes nothing.
use Rattle.std.specs.Prelude.{ℕ, ◌+◌, min, List, length, leb, ltb}
use Rattle.laws.specs.Pick.{pick}
use Rattle.card.specs.Answers.{Said, ok, done}
use Rattle.card.specs.Limits.{length_refusal}
use Rattle.card.specs.Device.{exchange, moves}
use Rattle.flushing.specs.declared.Sent.{Sent}
use Rattle.flushing.specs.World.{World, Called, capacity, spare, room, replies, taken, kept, and_then, nothing, refusing}
use Rattle.flushing.specs.Send.{whole_said, write_said, flush_reply_said, send_from}
use Rattle.flushing.specs.Flush.{flush_buf}

-- ---- `write` and `write_all`

-- One device write, whose answer is handed up
unfoldable pub device_write : List ℕ → World → List ℕ → Called
device_write script w s =
    let e = exchange (replies script w) w.used (min (length s) (room w)) in
    record { answer = write_said e.reply; world = taken w s (moves e.reply) e.used (w.writes + 1) }

-- The default device write: repeat until done, retry interrupted, taken 0 answers whole; an empty slice makes no call.
-- On an error the part already taken stays taken
abbrev pub taken_by : World → List ℕ → Sent → Called
taken_by w s f = record { answer = whole_said f.outcome; world = taken w s f.sent f.used f.writes }

unfoldable pub device_write_all : List ℕ → World → List ℕ → Called
device_write_all script w s = taken_by w s (send_from (replies script w) (length s) (room w) 0 w.used w.writes)

-- A slice stored, whole
abbrev pub stored : Said → World → List ℕ → Called
stored answer w s = record { answer = answer; world = kept w s (length s) }

-- "Then length >= capacity makes one device write whose answer is handed up, interrupted included; a smaller slice is stored"
unfoldable pub placed : Said → (World → Called) → World → List ℕ → Called
placed answer device w s = pick (leb (capacity w) (length s)) (device w) (stored answer w s)

-- "Else, if length > spare, `flush_buf` first"
unfoldable pub readied : List ℕ → World → ℕ → Called
readied script w n = pick (ltb (spare w) n) (flush_buf script w) (nothing w)

-- "and its failure is the answer with nothing of the slice taken", then placed
unfoldable pub cold : List ℕ → Said → (World → Called) → World → List ℕ → Called
cold script answer device w s = and_then (readied script w (length s)) (λ v. placed answer device v s)

-- "length < spare is stored"
unfoldable pub written : List ℕ → Said → (World → Called) → World → List ℕ → Called
written script answer device w s = pick (ltb (length s) (spare w)) (stored answer w s) (cold script answer device w s)

unfoldable pub write : List ℕ → World → List ℕ → Called
write script w s = written script (ok (length s)) (λ v. device_write script v s) w s

-- "the same, but the device write is the default one"
unfoldable pub write_all : List ℕ → World → List ℕ → Called
write_all script w s = written script done (λ v. device_write_all script v s) w s

-- ---- `flush`

unfoldable pub device_flush : List ℕ → World → Called
device_flush script w =
    let e = exchange (replies script w) w.used 0 in
    record {
      answer = flush_reply_said e.reply;
      world =
          record {
            storage = w.storage;
            medium = w.medium;
            held = w.held;
            out = w.out;
            used = e.used;
            writes = w.writes;
            flushes = w.flushes + 1;
          };
    }

-- "`flush_buf`, then the device flush, whose answer is handed up"
unfoldable pub flush : List ℕ → World → Called
flush script w = and_then (flush_buf script w) (λ v. device_flush script v)

-- ---- on every input

unfoldable pub write_call : List ℕ → World → List ℕ → Called
write_call script w s = refusing script w (length_refusal (length s)) (λ v. write script v s)

unfoldable pub write_all_call : List ℕ → World → List ℕ → Called
write_all_call script w s = refusing script w (length_refusal (length s)) (λ v. write_all script v s)

unfoldable pub flush_call : List ℕ → World → Called
flush_call script w = refusing script w 0 (λ v. flush script v)
