-- The lines of a session's calls, whatever runs them.
-- Assumes nothing.
use Rattle.std.specs.Prelude.{List, [], ◌∷◌, ◌++◌, ℕ}
use Rattle.form.specs.Calls.{Asked}

-- what a call prints, and the world that the next one finds
pub record Step (W : Type 0) : Type 0 where
  pub line : List ℕ
  pub world : W

-- a line for each call, and the end line
unfoldable pub lines_of : {W : Type 0} → (W → Asked → Step W) → (W → List ℕ) → W → List Asked → List ℕ
lines_of step end w [] = end w
lines_of step end w (call ∷ calls) = (step w call).line ++ lines_of step end (step w call).world calls
