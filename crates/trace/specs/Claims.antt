-- The answer that a traced call claims.
-- Assumes nothing.
use Rattle.std.specs.Prelude.{ℕ, Bool, List, eqb}
use Rattle.laws.specs.Pick.{pick}
use Rattle.card.specs.Answers.{Said, ok, done, interrupted, zero_taken, error}
use Rattle.numbers.specs.Number.{Found, found, fault_at, number, number_most, after}
use Rattle.trace.specs.declared.Claim.{Claim}
use Rattle.trace.specs.declared.Claim.TheVariants.{Ok, Done, Interrupted, Zero, Error}

-- what each case of the enum says, as document 01 numbers answers
abbrev pub claimed : Claim → Said
claimed (Ok n) = ok n
claimed Done = done
claimed Interrupted = interrupted
claimed Zero = zero_taken
claimed (Error code) = error code

-- 0 ok, and n for a write. An ok above the length is well formed
unfoldable pub ok_at : List ℕ → ℕ → Found Claim
ok_at trace at = after (number trace at) fault_at (λ n next. found (Ok n) next)

-- the largest code: the largest number below 2^32, less 65,536
abbrev pub code_most : ℕ
code_most = 4294901759

-- 3 and a code 1 to 4,294,901,759
unfoldable pub error_at : List ℕ → ℕ → Found Claim
error_at trace at = after (number_most trace at code_most) fault_at (λ code next. pick (eqb code 0) (fault_at at) (found (Error code) next))

-- 0 ok (and n for a write), 1 interrupted, 2 zero, 3 and a code: what follows the answer's number at a place
unfoldable pub claim_of : List ℕ → Bool → ℕ → ℕ → Found Claim
claim_of trace flush number at =
    pick (eqb number 0) (pick flush (found Done at) (ok_at trace at))
    (pick (eqb number 1) (found Interrupted at)
    (pick (eqb number 2) (found Zero at) (error_at trace at)))

-- the claimed answer at a place
unfoldable pub claim_at : List ℕ → Bool → ℕ → Found Claim
claim_at trace flush at = after (number_most trace at 3) fault_at (λ number next. claim_of trace flush number next)
