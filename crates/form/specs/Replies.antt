-- The replies of a session: numbers below 2^32.
-- Assumes nothing.
use Rattle.std.specs.Prelude.{ℕ, zero, suc, List, [], ◌∷◌}
use Rattle.numbers.specs.Number.{number_most, after}
use Rattle.form.specs.Lists.{Listed, listed, stopped, before}

-- the largest number below 2^32
abbrev pub word_most : ℕ
word_most = 4294967295

-- So many replies from a place on
unfoldable pub replies_from : List ℕ → ℕ → ℕ → Listed ℕ
replies_from bytes zero at = listed [] at
replies_from bytes (suc left) at = after (number_most bytes at word_most) stopped (λ reply next. before reply (replies_from bytes left next))

-- The replies that can be read from a place on: so many, or those before the first fault
unfoldable pub replies_in : List ℕ → ℕ → ℕ → List ℕ
replies_in bytes zero at = []
replies_in bytes (suc left) at = after (number_most bytes at word_most) (λ place. []) (λ reply next. reply ∷ replies_in bytes left next)
