-- No second answer meets a promise of this crate.
-- Assumes nothing.
use mathlib.Core.Path.{◌≡◌, sym, ◌∙◌}
use mathlib.Core.List.{List}
use Prim.Native.Nat.{ℕ}
use Rattle.numbers.specs.Number.{Found, number, number_most, length_most}

pub read_once : (bytes : List ℕ) (at : ℕ) (r s : Found ℕ) → r ≡ number bytes at → s ≡ number bytes at → r ≡ s
read_once bytes at r s p q = p ∙ sym q

pub read_most_once : (bytes : List ℕ) (at most : ℕ) (r s : Found ℕ) → r ≡ number_most bytes at most → s ≡ number_most bytes at most → r ≡ s
read_most_once bytes at most r s p q = p ∙ sym q

pub read_length_once : (bytes : List ℕ) (at most : ℕ) (r s : Found ℕ) → r ≡ length_most bytes at most → s ≡ length_most bytes at most → r ≡ s
read_length_once bytes at most r s p q = p ∙ sym q
