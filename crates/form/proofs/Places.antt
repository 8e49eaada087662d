-- The place of a number's or of a length's fault lies in the input, or at its end.
-- Assumes nothing.
use mathlib.Core.Path.{◌≡◌}
use mathlib.Core.List.{List, [], ◌∷◌}
use Prim.Native.Nat.{ℕ, ◌+◌, ◌-◌, ◌*◌, ◌≤◌}
use native.Mathlib.Omega.{arith}
use lib.Dec.{leb, ltb}
use lib.ListN.{length, drop}
use Rattle.laws.proofs.Picks.{pick_holds}
use Rattle.std.specs.Prelude.{Ok, Err}
use Rattle.numbers.specs.Number.{Found, found, fault_at, groups_from, number_of, number, within, number_most, length_most}
use Rattle.numbers.proofs.Back.{by_cases}
use Rattle.numbers.proofs.Most.{after_holds}

abbrev pub FaultIn : {A : Type 0} → ℕ → Found A → Type 0
FaultIn end (Ok (value, next)) = Unit
FaultIn end (Err e) = e.place ≤ end

groups_in : (top start end left weight value at : ℕ) (l : List ℕ) → start ≤ end → FaultIn end (groups_from top start end left weight value at l)
unfolding groups_from
groups_in top start end left weight value at [] h = omega arith
groups_in top start end left weight value at (byte ∷ rest) h =
    by_cases (FaultIn end) top start end left weight value at byte rest
    (λ p. h)
    (λ p z a. h)
    (λ p s a. tt)
    (λ p l. groups_in top start end (left - 1) (weight * 128) (value + (byte - 128) * weight) (at + 1) rest h)

most_in : (at most end : ℕ) (n : Found ℕ) → at ≤ end → FaultIn end n → FaultIn end (within at most n)
unfolding within
most_in at most end (Ok (value, next)) h g = pick_holds (FaultIn end) (leb value most) (found value next) (fault_at at) (λ _. tt) (λ _. h)
most_in at most end (Err e) h g = g

pub fault_in : (t : List ℕ) (at most place : ℕ) → number_most t at most ≡ fault_at place → at ≤ length t → place ≤ length t
unfolding number_most number number_of
fault_in t at most place e h = rw e at (most_in at most (length t) (groups_from 15 at (length t) 5 1 0 at (drop at t)) h (groups_in 15 at (length t) 5 1 0 at (drop at t) h))

-- and of a length's
pub length_fault_in : (t : List ℕ) (at most place : ℕ) → length_most t at most ≡ fault_at place → at ≤ length t → place ≤ length t
unfolding length_most
length_fault_in t at most place e h = rw e at (after_holds (FaultIn (length t)) (number_most t at most) fault_at _ (λ p q. fault_in t at most p q h) (λ n start q. pick_holds (FaultIn (length t)) (ltb (length t - start) n) (fault_at (length t)) (found n start) (λ _. omega arith) (λ _. tt)))
