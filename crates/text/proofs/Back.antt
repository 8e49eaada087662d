-- A number in decimal is digits, reads back as the number, and has no leading zero.
-- Assumes nothing.
use mathlib.Core.Path.{◌≡◌, refl, sym, ap, ◌∙◌}
use mathlib.Core.List.{List, [], ◌∷◌, ◌++◌}
use Prim.Native.Nat.{ℕ, zero, suc, ◌+◌, ◌-◌, ◌*◌, ◌/◌, ◌%◌, ◌^◌, ◌≤◌, ◌<◌}
use Prim.Native.Char.{code}
use native.Mathlib.Omega.{arith}
use lib.ListN.{length, get_or, length-append, get_or-append}
use borrow.Author.Tests.{lt-ltb}
use Rattle.text.specs.Words.{ascii}
use Rattle.text.specs.Numbers.{digit, digits, decimal_of}
use Rattle.text.proofs.Decimals.{few, many, tenth, longer, by_ten}

-- What digits mean, highest first, after digits that make `value`
abbrev pub value_from : ℕ → List ℕ → ℕ
value_from value [] = value
value_from value (d ∷ rest) = value_from (value * 10 + (d - code "0")) rest

from_append : (value : ℕ) (s t : List ℕ) → value_from value (s ++ t) ≡ value_from (value_from value s) t
from_append value [] t = refl
from_append value (d ∷ s) t = from_append (value * 10 + (d - code "0")) s t

-- a digit below ten
ten_digit : (d : ℕ) → d < 10 → digit d ≡ code "0" + d
ten_digit d h = rw (lt-ltb d 10 h) refl

value_digits : (k n : ℕ) → n < 10 ^ k → value_from 0 (digits k n) ≡ n
unfolding digits
value_digits zero n h = omega arith
value_digits (suc k) n h =
    by_ten n
    (λ l. ap (λ (x : List ℕ). value_from 0 x) (few k n l) ∙ rw (ten_digit n l) (omega arith))
    (λ m.
    ap (λ (x : List ℕ). value_from 0 x) (many k n m)
    ∙ from_append 0 (digits k (n / 10)) (digit (n % 10) ∷ [])
    ∙ ap (λ (v : ℕ). v * 10 + (digit (n % 10) - code "0")) (value_digits k (n / 10) (tenth k n h))
    ∙ rw (ten_digit (n % 10) (omega arith)) (omega arith))

-- every number below 2^64, and on to 10^20, reads back
pub reads_back : (n : ℕ) → n < 10 ^ 20 → value_from 0 (decimal_of n) ≡ n
unfolding decimal_of
reads_back n h = value_digits 20 n h

-- so two numbers with the same digits are one
pub same_number : (m n : ℕ) → m < 10 ^ 20 → n < 10 ^ 20 → decimal_of m ≡ decimal_of n → m ≡ n
same_number m n h l e = sym (reads_back m h) ∙ ap (λ (x : List ℕ). value_from 0 x) e ∙ reads_back n l

-- a number has a digit
some_digit : (k n : ℕ) → n < 10 ^ k → 1 ≤ k → 1 ≤ length (digits k n)
some_digit zero n h o = absurd (omega arith)
some_digit (suc k) n h o =
    by_ten n
    (λ l. rw (few k n l) (omega arith))
    (λ m. rw (many k n m) (simp length-append (omega arith)))

first_digit : (k n : ℕ) → n < 10 ^ k → 1 ≤ n → get_or (digits k n) 0 0 ≡ code "0" → ⊥
first_digit zero n h o e = omega arith
first_digit (suc k) n h o e =
    by_ten n
    (λ l. let d : digit n ≡ code "0" = sym (ap (λ (x : List ℕ). get_or x 0 0) (few k n l)) ∙ e in omega (arith, ten_digit n l))
    (λ m.
    let rest = tenth k n h in
    first_digit k (n / 10) rest (omega arith)
    (sym (get_or-append (digits k (n / 10)) (digit (n % 10) ∷ []) 0 0 (some_digit k (n / 10) rest (longer k n h m)))
    ∙ sym (ap (λ (x : List ℕ). get_or x 0 0) (many k n m))
    ∙ e))

-- no leading zero but in 0 itself
pub no_leading_zero : (n : ℕ) → n < 10 ^ 20 → 1 ≤ n → get_or (decimal_of n) 0 0 ≡ code "0" → ⊥
unfolding decimal_of
no_leading_zero n h o = first_digit 20 n h o

pub zero_is : decimal_of 0 ≡ ascii "0"
unfolding decimal_of digits
zero_is = refl

-- a byte that is a decimal digit
abbrev pub Digit : ℕ → Type 0
Digit b = (code "0" ≤ b) × (b ≤ code "9")

-- all bytes of a list are
abbrev pub Digits : List ℕ → Type 0
Digits [] = Unit
Digits (b ∷ rest) = Digit b × Digits rest

is_digit : (d : ℕ) → d < 10 → Digit (digit d)
is_digit d h = rw (ten_digit d h) (omega arith, omega arith)

append_digits : (s t : List ℕ) → Digits s → Digits t → Digits (s ++ t)
append_digits [] t p q = q
append_digits (b ∷ s) t p q = (p.0, append_digits s t p.1 q)

only_digits : (k n : ℕ) → Digits (digits k n)
unfolding digits
only_digits zero n = tt
only_digits (suc k) n =
    by_ten n
    (λ l. rw (few k n l) (is_digit n l, tt))
    (λ m. rw (many k n m) (append_digits (digits k (n / 10)) (digit (n % 10) ∷ []) (only_digits k (n / 10)) (is_digit (n % 10) (omega arith), tt)))

-- a number in decimal is digits and nothing else
pub decimal_digits : (n : ℕ) → Digits (decimal_of n)
unfolding decimal_of
decimal_digits n = only_digits 20 n
