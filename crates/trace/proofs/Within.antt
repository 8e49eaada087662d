-- What a claim and a call that are read keep: their places lie in the trace, a length lies in what is left of the total, and
-- a claim is one that a call of its kind can make.
-- Assumes nothing.
use mathlib.Core.Path.{◌≡◌, refl}
use mathlib.Core.Bool.{Bool, true, false}
use mathlib.Core.List.{List}
use Prim.Native.Nat.{ℕ, ◌+◌, ◌-◌, ◌≤◌, ◌<◌}
use native.Mathlib.Omega.{arith}
use lib.Dec.{eqb}
use lib.ListN.{length}
use borrow.Author.Tests.{eqb-false}
use Rattle.laws.specs.Pick.{pick}
use Rattle.laws.proofs.Picks.{pick_holds}
use Rattle.card.specs.Limits.{bytes_most}
use Rattle.std.specs.Prelude.{Result, Ok as Read, Err}
use Rattle.numbers.specs.declared.Fault.{Fault}
use Rattle.numbers.specs.Number.{Found, found, fault_at, number, number_most, length_most}
use Rattle.numbers.proofs.Back.{value_places}
use Rattle.numbers.proofs.Most.{most_value, most_places, length_within, after_holds}
use Rattle.trace.specs.declared.Claim.{Claim}
use Rattle.trace.specs.declared.Claim.TheVariants.{Ok, Done, Interrupted, Zero, Error}
use Rattle.trace.specs.declared.TracedCall.{TracedCall}
use Rattle.trace.specs.Claims.{code_most, ok_at, error_at, claim_of, claim_at}
use Rattle.trace.specs.Calls.{traced, write_at, call_at}

-- The claims that a call can make, a flush where the first is true
pub data Fair : Bool → Claim → Type 0 where
  ok : (n : ℕ) → Fair false (Ok n)
  done : Fair true Done
  interrupted : (flush : Bool) → Fair flush Interrupted
  zero : (flush : Bool) → Fair flush Zero
  error : (flush : Bool) (code : ℕ) → 1 ≤ code → code ≤ code_most → Fair flush (Error code)

pub record ClaimWithin (t : List ℕ) (flush : Bool) (at : ℕ) (claim : Claim) (next : ℕ) : Type 0 where
  pub later : at ≤ next
  pub ends : next ≤ length t
  pub fair : Fair flush claim

-- of whatever is read
abbrev pub GoodClaim : List ℕ → Bool → ℕ → Found Claim → Type 0
GoodClaim t flush at (Read (claim, next)) = ClaimWithin t flush at claim next
GoodClaim t flush at (Err f) = Unit

ok_good : (t : List ℕ) (at : ℕ) → GoodClaim t false at (ok_at t at)
unfolding ok_at
ok_good t at =
    after_holds (GoodClaim t false at) (number t at) fault_at (λ n next. found (Ok n) next) (λ p e. tt)
    (λ n next e. let w = value_places t at n next e in record { later = omega arith; ends = w.1; fair = ok n })

error_good : (t : List ℕ) (flush : Bool) (at : ℕ) → GoodClaim t flush at (error_at t at)
unfolding error_at
error_good t flush at =
    after_holds (GoodClaim t flush at) (number_most t at code_most) fault_at _ (λ p e. tt)
    (λ code next e.
    pick_holds (GoodClaim t flush at) (eqb code 0) (fault_at at) (found (Error code) next) (λ z. tt)
    (λ z. let w = most_places t at code_most code next e in record { later = omega arith; ends = w.1; fair = error flush code (omega (arith, eqb-false code 0 z)) (most_value t at code_most code next e).1 }))

of_good : (t : List ℕ) (flush : Bool) (n at : ℕ) → at ≤ length t → GoodClaim t flush at (claim_of t flush n at)
unfolding claim_of
of_good t flush n at h =
    pick_holds (GoodClaim t flush at) (eqb n 0) _ _
    (λ _. zero_good flush)
    (λ _. pick_holds (GoodClaim t flush at) (eqb n 1) _ _
    (λ _. record { later = omega arith; ends = h; fair = interrupted flush })
    (λ _. pick_holds (GoodClaim t flush at) (eqb n 2) _ _
    (λ _. record { later = omega arith; ends = h; fair = zero flush })
    (λ _. error_good t flush at)))
  where
    zero_good : (f : Bool) → GoodClaim t f at (pick f (found Done at) (ok_at t at))
    zero_good true = record { later = omega arith; ends = h; fair = done }
    zero_good false = ok_good t at

-- a claim from a place on
further : (t : List ℕ) (flush : Bool) (at next : ℕ) (r : Found Claim) → at < next → GoodClaim t flush next r → GoodClaim t flush (at + 1) r
further t flush at next (Read (claim, last)) h g = record { later = omega (arith, g.later); ends = g.ends; fair = g.fair }
further t flush at next (Err f) h g = tt

pub claim_good : (t : List ℕ) (flush : Bool) (at : ℕ) → GoodClaim t flush (at + 1) (claim_at t flush at)
unfolding claim_at
claim_good t flush at =
    after_holds (GoodClaim t flush (at + 1)) (number_most t at 3) fault_at _ (λ p e. tt)
    (λ n next e. let w = most_places t at 3 n next e in further t flush at next (claim_of t flush n next) w.0 (of_good t flush n next w.1))

-- A call, of which the bytes and the answer stand after place `at`, when `total` bytes were written before it
pub record CallWithin (t : List ℕ) (total at : ℕ) (call : TracedCall) : Type 0 where
  pub later : at < call.next
  pub ends : call.next ≤ length t
  pub part : call.start + call.length ≤ length t
  pub room : call.length ≤ bytes_most - total
  pub bare : call.flush ≡ true → call.length ≡ 0
  pub fair : Fair call.flush call.claim

abbrev pub GoodCall : List ℕ → ℕ → ℕ → Result TracedCall Fault → Type 0
GoodCall t total at (Read call) = CallWithin t total at call
GoodCall t total at (Err f) = Unit

traced_good : (t : List ℕ) (flush : Bool) (total start n from at : ℕ) → start + n ≤ length t → n ≤ bytes_most - total → (flush ≡ true → n ≡ 0) → from ≤ at → GoodCall t total from (traced t flush start n at)
unfolding traced
traced_good t flush total start n from at p r z h =
    after_holds (GoodCall t total from) (claim_at t flush at) fault_at _ (λ p e. tt)
    (λ claim next e.
    let g : GoodClaim t flush (at + 1) (found claim next) = rw e at (claim_good t flush at) in
    record { later = omega (arith, g.later); ends = g.ends; part = p; room = r; bare = z; fair = g.fair })

write_good : (t : List ℕ) (total from at : ℕ) → from ≤ at → GoodCall t total from (write_at t total at)
unfolding write_at
write_good t total from at h =
    after_holds (GoodCall t total from) (length_most t at (bytes_most - total)) fault_at _ (λ p e. tt)
    (λ n start e.
    let w = length_within t at (bytes_most - total) n start e in
    traced_good t false total start n from (start + n) w.ends w.small (λ f. absurd (cc)) (omega (arith, w.later)))

pub call_good : (t : List ℕ) (total at : ℕ) → GoodCall t total at (call_at t total at)
unfolding call_at
call_good t total at =
    after_holds (GoodCall t total at) (number_most t at 1) fault_at _ (λ p e. tt)
    (λ kind next e.
    let w = most_places t at 1 kind next e in
    pick_holds (GoodCall t total at) (eqb kind 0) _ _
    (λ _. write_good t total at next (omega arith))
    (λ _. traced_good t true total next 0 at next (omega arith) (omega arith) (λ f. refl) (omega arith)))

-- of a call that is read
pub within : (t : List ℕ) (total at : ℕ) (call : TracedCall) → call_at t total at ≡ Read call → CallWithin t total at call
within t total at call e = rw e at (call_good t total at)
