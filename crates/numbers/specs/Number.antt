-- Numbers in groups of seven bits, lowest first, high bit set when more follow, shortest form only, below 2^32. The place of
-- a fault is the start of the number; where bytes run out, it is the input's length.
-- Assumes nothing.
use Rattle.std.specs.Prelude.{ℕ, ◌+◌, ◌-◌, ◌*◌, ◌&&◌, List, [], ◌∷◌, leb, ltb, eqb, length, drop, Result, Ok, Err}
use Rattle.laws.specs.Pick.{pick}
use Rattle.numbers.specs.declared.Fault.{Fault}

-- What reading finds: a value with the place after it, or the place of a fault
abbrev pub Found : Type 0 → Type 0
Found A = Result (A × ℕ) Fault

pattern abbrev pub found : {A : Type 0} → A → ℕ → Found A
found a next = Ok (a, next)

abbrev pub fault_at : {A : Type 0} → ℕ → Result A Fault
fault_at place = Err (record { place = place })

-- The last byte of a number, where `value` is what its groups make. Shortest form only: a last group of 0 after the first is
-- a fault
unfoldable pub ended : ℕ → ℕ → ℕ → ℕ → Found ℕ
ended start at byte value = pick (eqb byte 0 && ltb start at) (fault_at start) (found value (at + 1))

-- The rest of a number that starts at place `start` of an input whose length is `end`: `left` groups may still come, the
-- next of them counts `weight` times, the groups before it make `value`, and from place `at` on these bytes are left. The
-- last group that may come is at most `top`, its high bit included, even where bytes end
unfoldable pub groups_from : ℕ → ℕ → ℕ → ℕ → ℕ → ℕ → ℕ → List ℕ → Found ℕ
groups_from top start end left weight value at [] = fault_at end
groups_from top start end left weight value at (byte ∷ rest) =
    pick (eqb left 1 && ltb top byte) (fault_at start)
    (pick (ltb byte 128) (ended start at byte (value + byte * weight))
    (groups_from top start end (left - 1) (weight * 128) (value + (byte - 128) * weight) (at + 1) rest))

-- The number at a place, of at most `groups` groups, the last of these at most `top`
unfoldable pub number_of : ℕ → ℕ → List ℕ → ℕ → Found ℕ
number_of groups top bytes at = groups_from top at (length bytes) groups 1 0 at (drop at bytes)

-- Below 2^32: a fifth byte above 15 is a fault
unfoldable pub number : List ℕ → ℕ → Found ℕ
number bytes at = number_of 5 15 bytes at

-- A number that has a limit: above it, the fault is at the number's start
unfoldable pub within : ℕ → ℕ → Found ℕ → Found ℕ
within at most (Ok (value, next)) = pick (leb value most) (found value next) (fault_at at)
within at most (Err fault) = Err fault

unfoldable pub number_most : List ℕ → ℕ → ℕ → Found ℕ
number_most bytes at most = within at most (number bytes at)

-- What comes after what is found, by its value and the place after it. A fault stays what it is
abbrev pub after {ℓ} : {A : Type 0} {B : Type ℓ} → Found A → (ℕ → B) → (A → ℕ → B) → B
after (Ok (value, next)) fault good = good value next
after (Err f) fault good = fault f.place

-- A length that has a limit, and the place of its bytes. Too few bytes after it: the fault is at the input's length
unfoldable pub length_most : List ℕ → ℕ → ℕ → Found ℕ
length_most bytes at most = after (number_most bytes at most) fault_at (λ n start. pick (ltb (length bytes - start) n) (fault_at (length bytes)) (found n start))
