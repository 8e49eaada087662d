-- Document 01's module 2: the reader. Each call works on the script, the stock and a world.
-- Assumes nothing.
use Rattle.std.specs.Prelude.{ℕ, suc, ◌+◌, ◌-◌, min, ◌&&◌, List, [], ◌∷◌, leb, ltb, eqb, ℤ, pos, negsuc, length, drop, Ok, Err}
use Rattle.laws.specs.Pick.{pick}
use Rattle.laws.specs.Put.{put}
use Rattle.card.specs.Answers.{Said, ok, done, refused, failed, failure_by}
use Rattle.card.specs.Device.{Reply, accept, error, at_most, exchange, moves}
use Rattle.card.specs.Limits.{refusal_of, length_refusal}
use Rattle.reader.specs.declared.State.{State}
use Rattle.reader.specs.World.{World, Fetched, Called, Reading, world}
use Rattle.reader.specs.Buffer as Buffer
use Rattle.reader.specs.Buffer.{count}

-- what the device said is handed up as the answer
abbrev pub handed : Reply → Said
handed (Ok n) = ok n
handed (Err e) = failed (failure_by e)

abbrev pub handed_up : Fetched → Called
handed_up f = record { answer = handed f.reply; calls = f.calls; world = f.world }

-- the state alone changes, and the device is not called
abbrev pub moved : World → State → Called
moved w s = record { answer = done; calls = 0; world = world w.storage s }

-- Which refusal applies: 1, 5, 8, then the call's own; 0 where none does
unfoldable pub refusal : List ℕ → List ℕ → World → ℕ → ℕ
refusal script stock w own =
    refusal_of (length w.storage) (length script) (length stock) w.state.pos w.state.filled w.state.taken w.state.used own

-- A refusal has count 0 and device calls 0, and leaves everything unchanged
unfoldable pub unless : ℕ → World → Called → Called
unless number w c = pick (eqb number 0) c (record { answer = refused number; calls = 0; world = w })

-- `fill_buf`: the buffer's, unless it is refused
unfoldable pub fill_buf : List ℕ → List ℕ → World → Called
fill_buf script stock w =
    unless (refusal script stock w 0) w (handed_up (Buffer.fill_buf (drop w.state.used script) stock w))

-- `consume`: the buffer's, unless it is refused
unfoldable pub consume : List ℕ → List ℕ → ℕ → World → Called
consume script stock amt w = unless (refusal script stock w 0) w (moved w (Buffer.consume amt w.state))

-- `read` straight from the device: pos and filled become 0
unfoldable pub direct : List ℕ → List ℕ → List ℕ → World → Reading
direct script stock destination w =
    let e = exchange (drop w.state.used script) w.state.used (min (length destination) (length stock - w.state.taken)) in
    record {
      destination = put destination 0 (drop w.state.taken stock) (moves e.reply);
      called =
          record {
            answer = handed e.reply;
            calls = 1;
            world =
                record {
                  storage = w.storage;
                  state = record { pos = 0; filled = 0; taken = w.state.taken + moves e.reply; used = e.used };
                };
          };
    }

-- `read` through the buffer: it copies min(buffered, destination); later destination bytes stay. A fill that failed
-- leaves nothing to copy
unfoldable pub copied : List ℕ → Fetched → Reading
copied destination f =
    let r = at_most (length destination) f.reply in
    record {
      destination = put destination 0 (drop f.world.state.pos f.world.storage) (moves r);
      called =
          record {
            answer = handed r;
            calls = f.calls;
            world = world f.world.storage (Buffer.consume (moves r) f.world.state);
          };
    }

-- what a fill hands up where bytes are buffered: their count, and nothing changes
abbrev pub buffered : World → Fetched
buffered w = record { reply = accept (count w.state); calls = 0; world = w }

-- `read` goes straight to the device when pos = filled and the destination is at least the capacity. Otherwise it
-- fills, then copies
unfoldable pub read_unrefused : List ℕ → List ℕ → List ℕ → World → Reading
read_unrefused script stock destination w =
    pick (eqb w.state.pos w.state.filled && leb (length w.storage) (length destination))
    (direct script stock destination w)
    (copied destination (Buffer.fill_buf (drop w.state.used script) stock w))

-- `read`, unless it is refused; a destination over the limit is refusal 2. Refused, the destination is unchanged too
unfoldable pub read : List ℕ → List ℕ → List ℕ → World → Reading
read script stock destination w =
    let number = refusal script stock w (length_refusal (length destination)) in
    pick (eqb number 0)
    (read_unrefused script stock destination w)
    (record { destination = destination; called = record { answer = refused number; calls = 0; world = w } })

-- `peek` for more than the capacity is refusal 3
unfoldable pub peek_refusal : ℕ → ℕ → ℕ
peek_refusal capacity n = pick (ltb capacity n) 3 0

-- shift back if pos > 0
unfoldable pub shifted_back : World → World
shifted_back w = pick (ltb 0 w.state.pos) (Buffer.backshift w) w

-- what comes after more was read: a count of 0 means end of file and it answers all that is buffered; another goes on;
-- an error or interrupted stops it with the shift and earlier reads kept
unfoldable pub after_more : Reply → ℕ → World → Fetched → Fetched
after_more (Ok n) calls w on =
    pick (eqb n 0) (record { reply = accept (count w.state); calls = calls; world = w }) on
after_more (Err e) calls w on = record { reply = Err e; calls = calls; world = w }

-- One turn, when these replies are left and `calls` device calls were made: with n bytes buffered it ends, with fewer it
-- shifts back and reads more, and `on` is how it goes on from there
unfoldable pub peek_turn : List ℕ → List ℕ → ℕ → ℕ → World → (World → Fetched) → Fetched
peek_turn left stock n calls w on =
    pick (leb n (count w.state))
    (record { reply = accept n; calls = calls; world = w })
    (let f = Buffer.read_more left stock (shifted_back w) in
    after_more f.reply (calls + f.calls) f.world (on f.world))

-- While fewer than n are buffered. Past the script's end the device fails, so that turn is the last
unfoldable pub peek_loop : List ℕ → List ℕ → ℕ → ℕ → World → Fetched
peek_loop [] stock n calls w = peek_turn [] stock n calls w (λ v. record { reply = error 0; calls = calls + 1; world = v })
peek_loop (r ∷ rest) stock n calls w = peek_turn (r ∷ rest) stock n calls w (λ v. peek_loop rest stock n (calls + 1) v)

-- `peek`, unless it is refused. What it answers is shown by the part `Buffer.shown n` of the storage that it leaves
unfoldable pub peek : List ℕ → List ℕ → ℕ → World → Called
peek script stock n w =
    unless (refusal script stock w (peek_refusal (length w.storage) n)) w (handed_up (peek_loop (drop w.state.used script) stock n 0 w))

-- `seek_relative`: a negative offset moves back if its size is at most pos, another moves on if pos + offset is at most
-- filled. Any other place is outside the buffered range, refusal 4
unfoldable pub seek_refusal : ℤ → State → ℕ
seek_refusal (pos n) s = pick (leb (s.pos + n) s.filled) 0 4
seek_refusal (negsuc n) s = pick (leb (suc n) s.pos) 0 4

-- inside the range the place moves by the offset
unfoldable pub sought : ℤ → State → State
sought (pos n) s = Buffer.consume n s
sought (negsuc n) s = Buffer.unconsume (suc n) s

unfoldable pub seek_relative : List ℕ → List ℕ → ℤ → World → Called
seek_relative script stock offset w =
    unless (refusal script stock w (seek_refusal offset w.state)) w (moved w (sought offset w.state))
