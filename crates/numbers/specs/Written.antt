-- A plain writer of numbers.
-- Assumes nothing.
use Rattle.std.specs.Prelude.{ℕ, zero, suc, ◌+◌, ◌/◌, ◌%◌, List, [], ◌∷◌, ltb}
use Rattle.laws.specs.Pick.{pick}

-- A number in at most so many groups: below 128 it is one byte; else its lowest seven bits with the high bit set, and then
-- the rest of it
unfoldable pub group_bytes : ℕ → ℕ → List ℕ
group_bytes zero value = []
group_bytes (suc more) value = pick (ltb value 128) (value ∷ []) ((128 + value % 128) ∷ group_bytes more (value / 128))

-- The bytes of a number below 2^32
unfoldable pub number_bytes : ℕ → List ℕ
number_bytes value = group_bytes 5 value
