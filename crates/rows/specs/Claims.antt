-- What a row of the bench sheet can claim, of the definitions that the promises cite.
-- Assumes nothing.
use Rattle.std.specs.Prelude.{ℕ, ◌≡◌, List, [], ◌∷◌}
use Rattle.flushing.specs.World as Writer
use Rattle.flushing.specs.World.{reported}
use Rattle.reader.specs.World as Reader
use Rattle.trace.specs.declared.Header.{Header}
use Rattle.trace.specs.Calls.{Told}
use Rattle.trace.specs.Trace.{trace, trace_of}
use Rattle.judge.specs.Judge.{Possible}

-- a trace's bytes say these calls and this card
pub record Says (bytes : List ℕ) (capacity : ℕ) (calls : List Told) (card : List ℕ) : Type 0 where
  pub header : Header
  pub capacity_is : header.capacity ≡ capacity
  pub is : trace_of bytes ≡ trace header calls card

pub data Claim : Type 0 where
  -- a call of a writer tells this: answer, calls, state, storage and medium
  tells : Writer.Called → Writer.Told → Claim
  -- a `read` leaves this: destination, answer, calls, state and storage
  reads : Reader.Reading → Reader.Reading → Claim
  -- another call of the reader leaves this
  leaves : Reader.Called → Reader.Called → Claim
  -- a part of the storage is shown as this
  shows : List ℕ → List ℕ → Claim
  -- a trace, the capacity, calls and card that its bytes say, and whether some replies explain them
  possible : List ℕ → ℕ → List Told → List ℕ → Claim
  impossible : List ℕ → ℕ → List Told → List ℕ → Claim

abbrev pub Holds : Claim → Type 0
Holds (tells call result) = reported call ≡ result
Holds (reads call result) = call ≡ result
Holds (leaves call result) = call ≡ result
Holds (shows part bytes) = part ≡ bytes
Holds (possible bytes capacity calls card) = Says bytes capacity calls card × Possible capacity calls card
Holds (impossible bytes capacity calls card) = Says bytes capacity calls card × (Possible capacity calls card → ⊥)

-- a claim with its row's number
pub record Row : Type 0 where
  pub number : ℕ
  pub claim : Claim

-- every row of a table holds
abbrev pub AllHold : List Row → Type 0
AllHold [] = Unit {0}
AllHold (row ∷ rows) = Holds row.claim × AllHold rows
