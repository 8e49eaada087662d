-- What a reader's call hands over.
-- Assumes nothing.
use Rattle.std.specs.Prelude.{◌≡◌, ℕ, List}
use Rattle.reader.specs.declared.State.{State}
use Rattle.reader.specs.World.{Called, Reading}
use Rattle.stackglow.specs.declared.reading.Places.{Places}
use Rattle.stackglow.specs.Numbers.{number_of, value_of}

-- the answer's number and value, the device calls, the state's numbers and every byte of the storage
pub record Handed : Type 0 where
  pub number : ℕ
  pub value : ℕ
  pub calls : ℕ
  pub pos : ℕ
  pub filled : ℕ
  pub taken : ℕ
  pub used : ℕ
  pub storage : List ℕ

-- a `read`: the destination as it leaves it, and the rest
pub record HandedRead : Type 0 where
  pub destination : List ℕ
  pub call : Handed

-- what the reader's promise tells, handed over
abbrev pub handed : Called → Handed
handed c =
    record {
      number = number_of c.answer;
      value = value_of c.answer;
      calls = c.calls;
      pos = c.world.state.pos;
      filled = c.world.state.filled;
      taken = c.world.state.taken;
      used = c.world.state.used;
      storage = c.world.storage;
    }

abbrev pub handed_read : Reading → HandedRead
handed_read r = record { destination = r.destination; call = handed r.called }

-- four numbers as a state
abbrev pub state_of : ℕ → ℕ → ℕ → ℕ → State
state_of pos filled taken used = record { pos = pos; filled = filled; taken = taken; used = used }

-- the same places
pub record Kept (old new : Places) : Type 0 where
  pub pos : new.pos.ghost_name ≡ old.pos.ghost_name
  pub filled : new.filled.ghost_name ≡ old.filled.ghost_name
  pub taken : new.taken.ghost_name ≡ old.taken.ghost_name
  pub used : new.used.ghost_name ≡ old.used.ghost_name
  pub value : new.value.ghost_name ≡ old.value.ghost_name
  pub calls : new.calls.ghost_name ≡ old.calls.ghost_name
