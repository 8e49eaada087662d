-- What a writer's call works on, and what it leaves.
-- Assumes nothing.
use Rattle.std.specs.Prelude.{◌≡◌, ℕ, ◌+◌, ◌-◌, ◌≤◌, Bool, false, List, [], ◌∷◌, length, drop, get_or, eqb}
use Rattle.laws.specs.Pick.{pick}
use Rattle.laws.specs.Put.{put}
use Rattle.card.specs.Answers.{Said, done, refused}
use Rattle.card.specs.Limits.{refusal_of}
use Rattle.flushing.specs.declared.State.{State}
use Rattle.flushing.specs.declared.BufWriter.{BufWriter}
use Rattle.card.specs.declared.limits.Numbers.{Numbers}

-- The lent storage and medium, the state's numbers, and the device calls that the call has made so far
pub record World : Type 0 where
  pub storage : List ℕ
  pub medium : List ℕ
  pub held : ℕ
  pub out : ℕ
  pub used : ℕ
  pub writes : ℕ
  pub flushes : ℕ

-- an answer, and the world that it leaves
pub record Called : Type 0 where
  pub answer : Said
  pub world : World

-- the capacity is the lent storage's length
abbrev pub capacity : World → ℕ
capacity w = length w.storage

-- "Spare = capacity - held"
abbrev pub spare : World → ℕ
spare w = length w.storage - w.held

-- the room left in the medium
abbrev pub room : World → ℕ
room w = length w.medium - w.out

-- the replies left
abbrev pub replies : List ℕ → World → List ℕ
replies script w = drop w.used script

-- the first n bytes of s taken by the medium after what it had; the script's position is then `used`, and the device
-- writes made are `writes`
abbrev pub taken : World → List ℕ → ℕ → ℕ → ℕ → World
taken w s n used writes =
    record {
      storage = w.storage;
      medium = put w.medium w.out s n;
      held = w.held;
      out = w.out + n;
      used = used;
      writes = writes;
      flushes = w.flushes;
    }

-- the first n held bytes drained: place i below the new held has what i + n had, and every other storage byte stays
abbrev pub drained : World → ℕ → World
drained w n =
    record {
      storage = put w.storage 0 (drop n w.storage) (w.held - n);
      medium = w.medium;
      held = w.held - n;
      out = w.out;
      used = w.used;
      writes = w.writes;
      flushes = w.flushes;
    }

-- the first n bytes of s kept in the storage after the held ones
abbrev pub kept : World → List ℕ → ℕ → World
kept w s n =
    record {
      storage = put w.storage w.held s n;
      medium = w.medium;
      held = w.held + n;
      out = w.out;
      used = w.used;
      writes = w.writes;
      flushes = w.flushes;
    }

-- an answer's number is that of ok
abbrev pub is_ok : Said → Bool
is_ok [] = false
is_ok (number ∷ values) = eqb number 0

-- the count that an ok has
abbrev pub count_of : Said → ℕ
count_of answer = get_or answer 1 0

-- one thing after another: the first failure is the answer
unfoldable pub and_then : Called → (World → Called) → Called
and_then c next = pick (is_ok c.answer) (next c.world) c

-- nothing to do
abbrev pub nothing : World → Called
nothing w = record { answer = done; world = w }

-- a call begins with no device call made
abbrev pub begun : World → World
begun w =
    record {
      storage = w.storage;
      medium = w.medium;
      held = w.held;
      out = w.out;
      used = w.used;
      writes = 0;
      flushes = 0;
    }

-- A refused call has no device call, and leaves everything unchanged
unfoldable pub refusing : List ℕ → World → ℕ → (World → Called) → Called
refusing script w own call =
    let number : ℕ = refusal_of (capacity w) (length script) (length w.medium) 0 w.held w.out w.used own in
    pick (eqb number 0) (call (begun w)) (record { answer = refused number; world = w })

-- ---- how the code's values say it

-- a state and the bytes lent with it, when `writes` device writes have been made
abbrev pub world_after : State → List ℕ → List ℕ → ℕ → World
world_after state storage medium writes =
    record {
      storage = storage;
      medium = medium;
      held = state.held;
      out = state.out;
      used = state.used;
      writes = writes;
      flushes = 0;
    }

abbrev pub world_of : State → List ℕ → List ℕ → World
world_of state storage medium = world_after state storage medium 0

-- the state of a new writer
abbrev pub fresh : State
fresh = record { held = 0; out = 0; used = 0 }

-- a new writer on storage and medium touched by nothing else
abbrev pub new : List ℕ → List ℕ → World
new storage medium = world_of fresh storage medium

-- a world whose numbers are within their lists, when each device write so far took a reply
pub record Fit (script : List ℕ) (w : World) : Type 0 where
  pub held : w.held ≤ length w.storage
  pub out : w.out ≤ length w.medium
  pub used : w.used ≤ length script
  pub few : w.writes ≤ w.used

-- a world at which no call is refused but for its own reason
pub record Sound (script : List ℕ) (w : World) : Type 0 where
  pub none : refusal_of (capacity w) (length script) (length w.medium) 0 w.held w.out w.used 0 ≡ 0

-- what a call answers, how many device calls it made, and the state after it
pub record Answered : Type 0 where
  pub answer : Said
  pub calls : ℕ
  pub state : State

-- what a call tells: its answer, its count of device calls, the new state and every lent byte
pub record Told : Type 0 where
  pub answer : Said
  pub calls : ℕ
  pub held : ℕ
  pub out : ℕ
  pub used : ℕ
  pub storage : List ℕ
  pub medium : List ℕ

abbrev pub told : Answered → List ℕ → List ℕ → Told
told r storage medium =
    record {
      answer = r.answer;
      calls = r.calls;
      held = r.state.held;
      out = r.state.out;
      used = r.state.used;
      storage = storage;
      medium = medium;
    }

-- the one place where device writes and device flushes are added up
abbrev pub reported : Called → Told
reported c =
    record {
      answer = c.answer;
      calls = c.world.writes + c.world.flushes;
      held = c.world.held;
      out = c.world.out;
      used = c.world.used;
      storage = c.world.storage;
      medium = c.world.medium;
    }

-- ---- a writer, as it is lent to a call

-- the world that it is, when no device call is made yet, and when those are that it counts
abbrev pub world : BufWriter → World
world w = world_of w.state w.storage.now w.medium.now

abbrev pub counting : BufWriter → World
counting w = world_after w.state w.storage.now w.medium.now w.calls

-- what a call tells that answers so and leaves the writer so
abbrev pub left : Said → BufWriter → Answered
left answer w = record { answer = answer; calls = w.calls; state = w.state }

abbrev pub tells : Said → BufWriter → Told
tells answer w = told (left answer w) w.storage.now w.medium.now

-- what is lent stays lent: the same storage and medium, the same script
pub record Lent (v w : BufWriter) : Type 0 where
  pub storage : w.storage.ghost_name ≡ v.storage.ghost_name
  pub medium : w.medium.ghost_name ≡ v.medium.ghost_name
  pub script : w.script ≡ v.script

-- the numbers that a call stands on
abbrev pub numbers : BufWriter → Numbers
numbers w =
    record {
      capacity = length w.storage.now;
      script = length w.script.now;
      device = length w.medium.now;
      pos = 0;
      filled = w.state.held;
      moved = w.state.out;
      used = w.state.used;
    }
