-- Document 01's module 1: the buffer of the reader. `left` is the replies left of the script.
-- Assumes nothing.
use Rattle.std.specs.Prelude.{ℕ, ◌+◌, ◌-◌, min, List, eqb, length, take, drop}
use Rattle.laws.specs.Pick.{pick}
use Rattle.laws.specs.Put.{put}
use Rattle.card.specs.Device.{accept, exchange, moves}
use Rattle.card.specs.declared.Exchange.{Exchange}
use Rattle.reader.specs.declared.State.{State}
use Rattle.reader.specs.World.{World, Fetched, world}

-- how many bytes are buffered: those from pos to filled
abbrev pub count : State → ℕ
count s = s.filled - s.pos

-- of the buffered bytes the first n, or all where there are fewer: a part of the storage itself, from pos
unfoldable pub shown : ℕ → World → List ℕ
shown n w = take (min n (count w.state)) (drop w.state.pos w.storage)

-- a reader that has done nothing yet
abbrev pub new : State
new = record { pos = 0; filled = 0; taken = 0; used = 0 }

-- `consume` moves pos by min(amt, filled - pos)
abbrev pub consume : ℕ → State → State
consume amt s = record { pos = s.pos + min amt (count s); filled = s.filled; taken = s.taken; used = s.used }

-- `unconsume` moves it back, not below 0
abbrev pub unconsume : ℕ → State → State
unconsume amt s = record { pos = s.pos - amt; filled = s.filled; taken = s.taken; used = s.used }

-- nothing is buffered any more: pos and filled become 0
abbrev pub discard : State → State
discard s = record { pos = 0; filled = 0; taken = s.taken; used = s.used }

-- `backshift` moves pos..filled to the front; other storage bytes stay
unfoldable pub backshift : World → World
backshift w =
    record {
      storage = put w.storage 0 (drop w.state.pos w.storage) (count w.state);
      state = record { pos = 0; filled = count w.state; taken = w.state.taken; used = w.state.used };
    }

-- one device call has been made, and what it gave stands behind what was filled
unfoldable pub added : List ℕ → World → Exchange → Fetched
added stock w e =
    record {
      reply = e.reply;
      calls = 1;
      world =
          record {
            storage = put w.storage w.state.filled (drop w.state.taken stock) (moves e.reply);
            state =
                record {
                  pos = w.state.pos;
                  filled = w.state.filled + moves e.reply;
                  taken = w.state.taken + moves e.reply;
                  used = e.used;
                };
          };
    }

-- `read_more` offers the device the part from filled to the end
unfoldable pub read_more : List ℕ → List ℕ → World → Fetched
read_more left stock w =
    added stock w
    (exchange left w.state.used (min (length w.storage - w.state.filled) (length stock - w.state.taken)))

-- `fill_buf` calls the device only when pos = filled, offering the whole storage; pos becomes 0 and filled the count
-- given, 0 on any other answer: it reads more where nothing is filled. Interrupted is handed up, not retried. Else the
-- answer is the count of what is buffered
unfoldable pub fill_buf : List ℕ → List ℕ → World → Fetched
fill_buf left stock w =
    pick (eqb w.state.pos w.state.filled)
    (read_more left stock (world w.storage (discard w.state)))
    (record { reply = accept (count w.state); calls = 0; world = w })
