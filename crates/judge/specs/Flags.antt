-- Sets of held counts as flags, and how a call's claim moves them. Cited by private contracts alone.
-- Assumes nothing.
use Rattle.std.specs.Prelude.{ℕ, ◌+◌, ◌≤◌, ◌<◌, min, ◌≡◌, ◌↔◌, Bool, true, false, not, ◌&&◌, ◌||◌, Option, Some, None, List, length, take, get_or, leb, ltb, eqb}
use Rattle.laws.specs.Pick.{pick}
use Rattle.trace.specs.declared.Claim.{Claim}
use Rattle.trace.specs.declared.Claim.TheVariants.{Ok, Done, Interrupted, Zero, Error}
use Rattle.trace.specs.declared.TracedCall.{TracedCall}
use Rattle.trace.specs.declared.Header.{Header}
use Rattle.trace.specs.Calls.{Told}
use Rattle.trace.specs.Trace.{trace, calls_from}
use Rattle.trace.specs.Claims.{claimed}
use Rattle.judge.specs.Table.{WriteStep, FlushStep, Reach, pieces}

-- the flag of k is set
pub record Has (flags : List Bool) (k : ℕ) : Type 0 where
  pub is : get_or flags k false ≡ true

-- the highest flag
pub record Highest (flags : List Bool) (most : ℕ) : Type 0 where
  pub set : Has flags most
  pub above : (k : ℕ) → Has flags k → k ≤ most

-- where a stored slice of n bytes leaves a count: behind what is held, or alone after a flush
abbrev pub landing : ℕ → ℕ → ℕ → ℕ
landing C n h = pick (leb (h + n) C) (h + n) n

-- some flag below `most` lands at k
pub record Lands (C n most : ℕ) (flags : List Bool) (k : ℕ) : Type 0 where
  pub from : ℕ
  pub below : from < most
  pub set : Has flags from
  pub lands : landing C n from ≡ k

pub record Between (low high k : ℕ) : Type 0 where
  pub least : low ≤ k
  pub most : k < high

-- whether a claim is an ok of the whole slice
abbrev pub whole : ℕ → Claim → Bool
whole n (Ok m) = eqb m n
whole n _ = false

-- whether a call says that its slice was stored: a write that is shorter than the capacity claims its length
abbrev pub stores : ℕ → TracedCall → Bool
stores C call = not call.flush && (ltb call.length C && whole call.length call.claim)

-- the flags at which those of old land, where the slice was stored
pub record Stored (C : ℕ) (call : TracedCall) (old new : List Bool) : Type 0 where
  pub at : (k : ℕ) → Has new k ↔ ((stores C call ≡ true) × Lands C call.length (length old) old k)

-- whether a device write of n bytes, or a device flush, can say this
abbrev pub directs : ℕ → Claim → Bool
directs n (Ok m) = leb m n
directs n Interrupted = true
directs n (Error code) = true
directs n _ = false

abbrev pub syncs : Claim → Bool
syncs Done = true
syncs Interrupted = true
syncs (Error code) = true
syncs _ = false

-- whether the call can leave nothing held
abbrev pub empties : ℕ → TracedCall → Bool
empties C call = pick call.flush (syncs call.claim) (leb C call.length && directs call.length call.claim)

-- whether a flush of the buffer that is stopped can say this
abbrev pub halts : Claim → Bool
halts Zero = true
halts (Error code) = true
halts _ = false

-- whether a stopped flush can leave counts from 1 up to the highest flag
abbrev pub stops : ℕ → TracedCall → ℕ → Bool
stops C call most = halts call.claim && (call.flush || ltb C (most + call.length))

-- the table's step of a call by its kind
abbrev pub StepOf : ℕ → ℕ → TracedCall → ℕ → Type 0
StepOf C h call k = pick call.flush (FlushStep h (claimed call.claim) k) (WriteStep C h call.length (claimed call.claim) k)

-- some flag leads to k
pub record Leads (C : ℕ) (call : TracedCall) (old : List Bool) (k : ℕ) : Type 0 where
  pub from : ℕ
  pub set : Has old from
  pub step : StepOf C from call k

-- the flags after a call are those that some flag before it leads to
pub record Turned (C : ℕ) (call : TracedCall) (old new : List Bool) : Type 0 where
  pub at : (k : ℕ) → Has new k ↔ Leads C call old k

-- the flags are what the table leads to from nothing held
pub record Reached (C : ℕ) (calls : List Told) (flags : List Bool) : Type 0 where
  pub at : (e : ℕ) → Has flags e ↔ Reach C 0 calls e

-- if these are the calls and the card that the header stands for, then P of them
abbrev pub OfTrace : List ℕ → Header → (List Told → List ℕ → Type 0) → Type 0
OfTrace t h P = (calls : List Told) (card : List ℕ) → calls_from t h.capacity h.count h.first h.count 0 h.first ≡ trace h calls card → P calls card

-- ---- the card against the answered bytes

-- how many bytes a call's claim answers for: those of an ok, and no more than the slice has
abbrev pub counted : Claim → ℕ
counted (Ok m) = m
counted _ = 0

abbrev pub answers : TracedCall → ℕ
answers call = pick call.flush 0 (min (counted call.claim) call.length)

-- what the comparison says: the card begins the answered bytes, which are so many; or it does not
abbrev pub Comparison : Option ℕ → List Told → List ℕ → Type 0
Comparison (Some answered) calls card = (answered ≡ length (pieces calls)) × (card ≡ take (length card) (pieces calls))
Comparison None calls card = card ≡ take (length card) (pieces calls) → ⊥
