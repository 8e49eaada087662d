-- What a writer's call hands over.
-- Assumes nothing.
use Rattle.std.specs.Prelude.{◌≡◌, ℕ, List}
use Rattle.flushing.specs.declared.State.{State}
use Rattle.flushing.specs.World.{Told}
use Rattle.stackglow.specs.declared.writing.Places.{Places}
use Rattle.stackglow.specs.Numbers.{number_of, value_of}

-- the answer's number and value, the device calls, the state's numbers and every lent byte
pub record Handed : Type 0 where
  pub number : ℕ
  pub value : ℕ
  pub calls : ℕ
  pub held : ℕ
  pub out : ℕ
  pub used : ℕ
  pub storage : List ℕ
  pub medium : List ℕ

-- what the writer's promise tells, handed over
abbrev pub handed : Told → Handed
handed t =
    record {
      number = number_of t.answer;
      value = value_of t.answer;
      calls = t.calls;
      held = t.held;
      out = t.out;
      used = t.used;
      storage = t.storage;
      medium = t.medium;
    }

-- three numbers as a state
abbrev pub state_of : ℕ → ℕ → ℕ → State
state_of held out used = record { held = held; out = out; used = used }

-- the numbers are where they were
pub record Kept (old new : Places) : Type 0 where
  pub held : new.held.ghost_name ≡ old.held.ghost_name
  pub out : new.out.ghost_name ≡ old.out.ghost_name
  pub used : new.used.ghost_name ≡ old.used.ghost_name
  pub value : new.value.ghost_name ≡ old.value.ghost_name
  pub calls : new.calls.ghost_name ≡ old.calls.ghost_name
