-- Numbers in decimal.
-- Assumes nothing.
use mathlib.Core.Path.{◌≡◌, refl, sym, ap, ◌∙◌}
use mathlib.Core.List.{List, [], ◌∷◌, ◌++◌}
use Prim.Native.Nat.{ℕ, zero, suc, ◌/◌, ◌%◌, ◌^◌, ◌≤◌, ◌<◌}
use native.Mathlib.Nat.{pow-suc}
use native.Mathlib.Omega.{arith}
use lib.Dec.{ltb}
use borrow.Author.Tests.{lt-ltb, le-ltb, ltb-true, ltb-false}
use Rattle.laws.proofs.Picks.{by_test}
use Rattle.text.specs.declared.Page.{Page}
use Rattle.text.specs.Printed.{written}
use Rattle.text.specs.Numbers.{digit, digits, decimal_of}
use Rattle.text.proofs.Prints.{then}

-- below ten
pub few : (k n : ℕ) → n < 10 → digits (suc k) n ≡ digit n ∷ []
unfolding digits
few k n h = rw (lt-ltb n 10 h) refl

-- from ten on
pub many : (k n : ℕ) → 10 ≤ n → digits (suc k) n ≡ digits k (n / 10) ++ (digit (n % 10) ∷ [])
unfolding digits
many k n h = rw (le-ltb _ _ h) refl

-- the tenth part has a digit less
pub tenth : (k n : ℕ) → n < 10 ^ suc k → n / 10 < 10 ^ k
tenth k n h = let p = pow-suc 10 k in omega arith

-- a number of one digit is below ten
pub longer : (k n : ℕ) → n < 10 ^ suc k → 10 ≤ n → 1 ≤ k
longer zero n h m = absurd (omega arith)
longer (suc k) n h m = omega arith

pub by_ten {ℓ} : {A : Type ℓ} (n : ℕ) → (n < 10 → A) → (10 ≤ n → A) → A
by_ten n below above = by_test (ltb n 10) (λ e. below (ltb-true n 10 e)) (λ e. above (ltb-false n 10 e))

-- room for more digits changes none
enough : (k n : ℕ) → n < 10 ^ k → 1 ≤ k → digits k n ≡ digits (suc k) n
enough zero n h o = absurd (omega arith)
enough (suc k) n h o =
    by_ten n
    (λ l. few k n l ∙ sym (few (suc k) n l))
    (λ m. many k n m ∙ ap (λ (l : List ℕ). l ++ (digit (n % 10) ∷ [])) (enough k (n / 10) (tenth k n h) (longer k n h m)) ∙ sym (many (suc k) n m))

-- the two cases of a number below 2^64
pub one_digit : (n : ℕ) → n < 10 → decimal_of n ≡ digit n ∷ []
unfolding decimal_of
one_digit n h = few 19 n h

pub more_digits : (n : ℕ) → 10 ≤ n → n < 2 ^ 64 → decimal_of n ≡ decimal_of (n / 10) ++ (digit (n % 10) ∷ [])
unfolding decimal_of
more_digits n m h = many 19 n m ∙ ap (λ (l : List ℕ). l ++ (digit (n % 10) ∷ [])) (enough 19 (n / 10) (omega arith) (omega arith))

-- the last digit, printed
pub prints_one : (page : Page) (n : ℕ) → n < 10 → written page (digit (n % 10) ∷ []) ≡ written page (decimal_of n)
prints_one page n h = rw (one_digit n h) (ap (λ (d : ℕ). written page (digit d ∷ [])) (omega arith))

pub prints_more : (page : Page) (n : ℕ) → 10 ≤ n → n < 2 ^ 64 → written (written page (decimal_of (n / 10))) (digit (n % 10) ∷ []) ≡ written page (decimal_of n)
prints_more page n m h = rw (more_digits n m h) (then page (decimal_of (n / 10)) (digit (n % 10) ∷ []))
