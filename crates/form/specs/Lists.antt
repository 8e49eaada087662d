-- So many of one thing, read one after the other.
-- Assumes nothing.
use Rattle.std.specs.Prelude.{ℕ, zero, suc, ◌≡◌, List, ◌∷◌, Result, Ok}
use Rattle.numbers.specs.declared.Fault.{Fault}
use Rattle.numbers.specs.Number.{Found, fault_at, after}

-- What was read, with the place after it; or the place of the first fault
pub data Listed (A : Type 0) : Type 0 where
  listed : List A → ℕ → Listed A
  stopped : ℕ → Listed A

-- one more, in front
abbrev pub before : {A : Type 0} → A → Listed A → Listed A
before x (listed rest next) = listed (x ∷ rest) next
before x (stopped place) = stopped place

-- what comes after all of them
abbrev pub after_all {ℓ} : {A : Type 0} {B : Type ℓ} → Listed A → (ℕ → B) → (List A → ℕ → B) → B
after_all (listed all next) fault good = good all next
after_all (stopped place) fault good = fault place

-- the same without what was read
abbrev pub skipped : {A : Type 0} → Listed A → Result ℕ Fault
skipped (listed all next) = Ok next
skipped (stopped place) = fault_at place

-- So many things, each read at the place after the one before it: the place after them all, or that of the first fault
unfoldable pub Skips : {A : Type 0} → (ℕ → Found A → Type 0) → ℕ → ℕ → Result ℕ Fault → Type 0
Skips Reads zero at r = r ≡ Ok at
Skips Reads (suc left) at r = (x : Found _) × Reads at x × after x (λ place. r ≡ fault_at place) (λ a next. Skips Reads left next r)
