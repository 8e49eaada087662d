-- One call of a trace. Call: 0, length, bytes, answer; or 1, answer, for flush.
-- Assumes nothing.
use Rattle.std.specs.Prelude.{ℕ, ◌+◌, ◌-◌, Result, Ok, Bool, true, false, List, [], ◌∷◌, eqb, length, take, drop}
use Rattle.laws.specs.Pick.{pick}
use Rattle.card.specs.Answers.{Said}
use Rattle.card.specs.Limits.{bytes_most}
use Rattle.numbers.specs.Number.{fault_at, number_most, length_most, after}
use Rattle.numbers.specs.declared.Fault.{Fault}
use Rattle.trace.specs.declared.TracedCall.{TracedCall}
use Rattle.trace.specs.Claims.{claimed, claim_at}

-- A call as the trace tells it: a write of bytes or a flush, with the answer that it claims
pub data Told : Type 0 where
  wrote : List ℕ → Said → Told
  flushed : Said → Told

abbrev pub told : List ℕ → TracedCall → Told
told trace call = pick call.flush (flushed (claimed call.claim)) (wrote (take call.length (drop call.start trace)) (claimed call.claim))

-- all that the writes of these calls hand over
unfoldable pub written : List Told → ℕ
written [] = 0
written (wrote bytes said ∷ calls) = length bytes + written calls
written (flushed said ∷ calls) = written calls

-- The end of a call, its answer, at place `at`
unfoldable pub traced : List ℕ → Bool → ℕ → ℕ → ℕ → Result TracedCall Fault
traced trace flush start n at = after (claim_at trace flush at) fault_at (λ claim next. Ok (record { flush = flush; start = start; length = n; claim = claim; next = next }))

-- Length, bytes, answer. Write bytes total at most 16,384, and `total` came before: the fault is at the length that passes
-- it, before its bytes. Too few bytes: at the input's length
unfoldable pub write_at : List ℕ → ℕ → ℕ → Result TracedCall Fault
write_at trace total at =
    after (length_most trace at (bytes_most - total)) fault_at (λ n start. traced trace false start n (start + n))

-- the call at a place
unfoldable pub call_at : List ℕ → ℕ → ℕ → Result TracedCall Fault
call_at trace total at =
    after (number_most trace at 1) fault_at (λ kind next.
    pick (eqb kind 0) (write_at trace total next) (traced trace true next 0 next))
