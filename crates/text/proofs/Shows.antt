-- What stands in the output when a text is printed: for whoever shows it.
-- Assumes nothing.
use mathlib.Core.Path.{◌≡◌, refl, ap, ◌∙◌}
use mathlib.Core.List.{List, ◌++◌}
use Prim.Native.Nat.{ℕ, ◌+◌, ◌≤◌}
use native.Mathlib.Omega.{arith}
use lib.ListN.{length, take, drop}
use lib.Seq.{take-length}
use Rattle.laws.specs.Put.{put}
use Rattle.laws.proofs.Puts.{put_none, take_put, drop-put}
use Rattle.text.specs.Printed.{printed, fitting}
use Rattle.text.proofs.Prints.{prints}

-- past the output's end nothing moves
pub past : (output : List ℕ) (at : ℕ) (text : List ℕ) → length output ≤ at → record { output = output; at = at } ≡ printed output at text
past output at text h = prints output output at at 0 text (put_none output at text) (omega arith) (omega arith)

-- with room for it, the text is whole
pub whole : (output : List ℕ) (at : ℕ) (text : List ℕ) → at + length text ≤ length output → record { output = put output at text (length text); at = at + length text } ≡ printed output at text
whole output at text h = prints output _ at _ (length text) text refl refl (omega arith)

-- the place stays within the output
pub place_within : (output : List ℕ) (at : ℕ) (text : List ℕ) → at ≤ length output → (printed output at text).at ≤ length output
unfolding printed
place_within output at text h = omega arith

-- up to the place after it stand the bytes before the text, and then the text, as far as it has room
pub front : (output : List ℕ) (at : ℕ) (text : List ℕ) → at ≤ length output → take (printed output at text).at (printed output at text).output ≡ take at output ++ take (fitting output at text) text
unfolding printed
front output at text h = take_put output at text (fitting output at text) h (omega arith)

-- the bytes after it stay
pub rest : (output : List ℕ) (at : ℕ) (text : List ℕ) → at ≤ length output → drop (printed output at text).at (printed output at text).output ≡ drop (printed output at text).at output
unfolding printed
rest output at text h = drop-put output at text (fitting output at text) h (omega arith)

-- with room for it, the whole text stands after the bytes before it
pub shows : (output : List ℕ) (at : ℕ) (text : List ℕ) → at + length text ≤ length output → take (printed output at text).at (printed output at text).output ≡ take at output ++ text
shows output at text h =
    let e : fitting output at text ≡ length text = omega arith in
    front output at text (omega arith) ∙ ap (λ (n : ℕ). take at output ++ take n text) e ∙ ap (λ (t : List ℕ). take at output ++ t) (take-length text)
