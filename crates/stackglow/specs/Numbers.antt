-- An answer in two numbers, as it is handed over.
-- Assumes nothing.
use Rattle.std.specs.Prelude.{ℕ, [], ◌∷◌}
use Rattle.card.specs.Answers.{Said}

-- document 01's number of the answer
abbrev pub number_of : Said → ℕ
number_of [] = 0
number_of (number ∷ values) = number

-- its value, 0 where it has none
abbrev pub value_of : Said → ℕ
value_of [] = 0
value_of (number ∷ []) = 0
value_of (number ∷ value ∷ rest) = value
