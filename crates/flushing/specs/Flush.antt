-- Module 3's `flush_buf`.
-- Assumes nothing.
use Rattle.std.specs.Prelude.{ℕ, List}
use Rattle.flushing.specs.declared.Sent.{Sent}
use Rattle.flushing.specs.World.{World, Called, room, replies, taken, drained, refusing}
use Rattle.flushing.specs.Send.{flush_said, send_from}

-- However it ends, the bytes taken are drained once
abbrev pub flushed_by : World → Sent → Called
flushed_by w f =
    record {
      answer = flush_said f.outcome;
      world = drained (taken w w.storage f.sent f.used f.writes) f.sent;
    }

-- The unwritten rest of the storage is offered again until none is left
unfoldable pub flush_buf : List ℕ → World → Called
flush_buf script w = flushed_by w (send_from (replies script w) w.held (room w) 0 w.used w.writes)

-- on every input
unfoldable pub flush_buf_call : List ℕ → World → Called
flush_buf_call script w = refusing script w 0 (λ v. flush_buf script v)
