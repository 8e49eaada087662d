-- What a call of the reader works on, and what it leaves.
-- Assumes nothing.
use Rattle.std.specs.Prelude.{◌≡◌, ℕ, ◌+◌, ◌≤◌, List, length, Result, Ok, Err}
use Rattle.card.specs.Answers.{Said, done, failed}
use Rattle.card.specs.Device.{Reply}
use Rattle.card.specs.declared.Failure.{Failure}
use Rattle.reader.specs.declared.State.{State}
use Rattle.reader.specs.declared.Sizes.{Sizes}
use Rattle.reader.specs.declared.BufReader.{BufReader}

-- the lent storage, whose length is the capacity, and the state by value
pub record World : Type 0 where
  pub storage : List ℕ
  pub state : State

-- a call of the buffer: what it hands up, the device calls that it made, and the world that it leaves
pub record Fetched : Type 0 where
  pub reply : Reply
  pub calls : ℕ
  pub world : World

-- a call of the reader: its answer, the device calls that it made, and the world that it leaves
pub record Called : Type 0 where
  pub answer : Said
  pub calls : ℕ
  pub world : World

-- a `read`: the destination as it leaves it, and the rest
pub record Reading : Type 0 where
  pub destination : List ℕ
  pub called : Called

-- the same of the bytes and the state, and of what a reader holds
abbrev pub world : List ℕ → State → World
world storage state = record { storage = storage; state = state }

abbrev pub world_of : BufReader → World
world_of r = world r.storage.now r.state

abbrev pub fetched : Reply → BufReader → Fetched
fetched reply r = record { reply = reply; calls = r.calls; world = world_of r }

-- the same after device calls that were made before
abbrev pub since : ℕ → Fetched → Fetched
since calls f = record { reply = f.reply; calls = calls + f.calls; world = f.world }

abbrev pub called : Said → BufReader → Called
called answer r = record { answer = answer; calls = r.calls; world = world_of r }

abbrev pub reading : Said → BufReader → List ℕ → Reading
reading answer r destination = record { destination = destination; called = called answer r }

-- a call on the state alone gives the state that it leaves. Where it fails the state stays
abbrev pub placed : Result State Failure → World → Called
placed (Ok s) w = record { answer = done; calls = 0; world = world w.storage s }
placed (Err f) w = record { answer = failed f; calls = 0; world = w }

-- the sizes of what is lent
abbrev pub sizes_of : List ℕ → List ℕ → List ℕ → Sizes
sizes_of storage script stock = record { capacity = length storage; script = length script; stock = length stock }

-- the same slices are lent
pub record Lent (old new : BufReader) : Type 0 where
  pub storage : new.storage.ghost_name ≡ old.storage.ghost_name
  pub script : new.script.now ≡ old.script.now
  pub stock : new.stock.now ≡ old.stock.now

-- A world that refusal 8 has nothing against. The functions inside the crate ask it of their callers
pub record Fit (script stock : List ℕ) (w : World) : Type 0 where
  pub pos_in : w.state.pos ≤ w.state.filled
  pub filled_in : w.state.filled ≤ length w.storage
  pub taken_in : w.state.taken ≤ length stock
  pub used_in : w.state.used ≤ length script
