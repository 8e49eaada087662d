-- Bytes that are pasted over others.
-- Assumes nothing.
use Rattle.std.specs.Prelude.{ℕ, ◌+◌, List, ◌++◌, take, drop}

-- `put d at s n`: d, where the n bytes from place `at` on are the first n of s. Every other byte of d stays
unfoldable pub put : List ℕ → ℕ → List ℕ → ℕ → List ℕ
put d at s n = take at d ++ take n s ++ drop (at + n) d
