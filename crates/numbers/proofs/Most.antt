-- What is known of a number and of a length that have a limit, and of what comes after what is read.
-- Assumes nothing.
use mathlib.Core.Path.{◌≡◌, refl, ap, ◌∙◌}
use mathlib.Core.List.{List}
use Prim.Native.Nat.{ℕ, ◌+◌, ◌-◌, ◌≤◌, ◌<◌}
use native.Mathlib.Omega.{arith}
use lib.Dec.{leb, ltb}
use lib.ListN.{length}
use borrow.Author.Tests.{leb-true, ltb-false}
use Rattle.laws.proofs.Picks.{by_test, pick_holds}
use Rattle.std.specs.Prelude.{Result, Ok, Err}
use Rattle.std.specs.Result.{IsErrAnd}
use Rattle.std.proofs.lemmas.Result.{err_from_is_err_and}
use Rattle.numbers.specs.declared.Fault.{Fault}
use Rattle.numbers.specs.Number.{Found, found, fault_at, number, within, number_most, after, length_most}
use Rattle.numbers.proofs.Back.{same_found, value_places}

by_number : (n : Found ℕ) (at most value next : ℕ) → within at most n ≡ found value next → (n ≡ found value next) × (value ≤ most)
unfolding within
by_number (Err fault) at most value next e = absurd (cc)
by_number (Ok (v, n)) at most value next e =
    by_test (leb v most)
    (λ l. let e' : found v n ≡ found value next = rw l at e in (e', omega (arith, leb-true v most l, (same_found _ _ _ _ e').0)))
    (λ l. let e' : fault_at at ≡ found value next = rw l at e in absurd (cc))

-- a value within its limit is a number's
pub most_value : (bytes : List ℕ) (at most value next : ℕ) → number_most bytes at most ≡ found value next → (number bytes at ≡ found value next) × (value ≤ most)
unfolding number_most
most_value bytes at most value next e = by_number (number bytes at) at most value next e

-- its places
pub most_places : (bytes : List ℕ) (at most value next : ℕ) → number_most bytes at most ≡ found value next → (at < next) × (next ≤ length bytes)
most_places bytes at most value next e = value_places bytes at value next (most_value bytes at most value next e).0

-- what holds at a fault, and at any value with the place after it, holds of what comes after what is found
pub after_holds {ℓ} : {A : Type 0} {B : Type ℓ} (P : B → Type 0) (n : Found A) (fault : ℕ → B) (good : A → ℕ → B) → ((p : ℕ) → n ≡ fault_at p → P (fault p)) → ((a : A) (next : ℕ) → n ≡ found a next → P (good a next)) → P (after n fault good)
after_holds P (Ok (a, next)) fault good f g = g a next refl
after_holds P (Err e) fault good f g = f e.place refl

-- a length that is read, and its places
pub record LengthWithin (bytes : List ℕ) (at most n start : ℕ) : Type 0 where
  pub later : at < start
  pub ends : start + n ≤ length bytes
  pub small : n ≤ most

pub length_within : (bytes : List ℕ) (at most n start : ℕ) → length_most bytes at most ≡ found n start → LengthWithin bytes at most n start
unfolding length_most
length_within bytes at most n start =
    after_holds (λ r. r ≡ found n start → LengthWithin bytes at most n start) (number_most bytes at most) fault_at _ (λ p _ e. absurd (cc))
    (λ m s q. pick_holds (λ r. r ≡ found n start → LengthWithin bytes at most n start) (ltb (length bytes - s) m) (fault_at (length bytes)) (found m s)
    (λ _ e. absurd (cc))
    (λ l e.
    let w = most_places bytes at most m s q in
    let v = most_value bytes at most m s q in
    let same = same_found m n s start e in
    record { later = omega arith; ends = omega (arith, ltb-false (length bytes - s) m l); small = omega arith }))

-- what a `?` hands on is the fault that it met
pub handed_on : {A : Type 0} (r : Result A Fault) (fault : Fault) → IsErrAnd r (λ e. e ≡ fault) → r ≡ Err fault
handed_on r fault h =
    let p = err_from_is_err_and r h in
    p.1 ∙ ap Err p.2
