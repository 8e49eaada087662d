-- Trace: capacity (to 1,024), call count (to 256), calls, card length (to 16,384) and bytes, then nothing.
-- Assumes nothing.
use Rattle.std.specs.Prelude.{ℕ, zero, suc, ◌+◌, List, [], ◌∷◌, Result, Ok, Err, ltb, length, take, drop}
use Rattle.laws.specs.Pick.{pick}
use Rattle.card.specs.Limits.{capacity_most, bytes_most}
use Rattle.numbers.specs.Number.{fault_at, number_most, length_most, after}
use Rattle.numbers.specs.declared.Fault.{Fault}
use Rattle.trace.specs.declared.TracedCall.{TracedCall}
use Rattle.trace.specs.declared.Header.{Header}
use Rattle.trace.specs.Calls.{Told, told, call_at}

abbrev pub calls_most : ℕ
calls_most = 256

-- What a trace says: the place of its first fault; or its header (the capacity, and where its parts stand), its calls and
-- the card's bytes
pub data Parsed : Type 0 where
  fault : ℕ → Parsed
  trace : Header → List Told → List ℕ → Parsed

-- one call more, in front
abbrev pub before : Told → Parsed → Parsed
before call (fault place) = fault place
before call (trace header calls card) = trace header (call ∷ calls) card

-- what comes after a call
abbrev pub after_call : Result TracedCall Fault → (TracedCall → Parsed) → Parsed
after_call (Ok call) good = good call
after_call (Err e) good = fault e.place

module _ (bytes : List ℕ) (capacity count first : ℕ) where
  -- Card length and bytes, then nothing. Too few bytes: the input's length. Surplus: at the first surplus byte
  unfoldable pub card_at : ℕ → Parsed
  card_at at =
      after (length_most bytes at bytes_most) fault (λ n card.
      pick (ltb (card + n) (length bytes)) (fault (card + n))
      (trace (record { capacity = capacity; count = count; first = first; card = card; length = n }) [] (take n (drop card bytes))))

  -- So many calls from a place on, when those before wrote `total` bytes, and then the card
  unfoldable pub calls_from : ℕ → ℕ → ℕ → Parsed
  calls_from zero total at = card_at at
  calls_from (suc left) total at =
      after_call (call_at bytes total at) (λ call.
      before (told bytes call) (calls_from left (total + call.length) call.next))

-- call count, calls, card
unfoldable pub count_at : List ℕ → ℕ → ℕ → Parsed
count_at bytes capacity at = after (number_most bytes at calls_most) fault (λ count first. calls_from bytes capacity count first count 0 first)

-- the whole trace
unfoldable pub trace_of : List ℕ → Parsed
trace_of bytes = after (number_most bytes 0 capacity_most) fault (λ capacity next. count_at bytes capacity next)

-- What a check of the trace answers: refused 7 at the place of its first fault, or the header
abbrev pub checked : Parsed → Result Header Fault
checked (fault place) = fault_at place
checked (trace header calls card) = Ok header
