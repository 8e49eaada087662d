-- Parts of a slice, as a borrow of `&s[a..e]` gives them: `take (e - a) (drop a s)`.
-- Assumes nothing.
use mathlib.Core.Path.{◌≡◌, sym, ◌∙◌}
use mathlib.Core.List.{List}
use Prim.Native.Nat.{ℕ, ◌-◌, ◌≤◌, min}
use native.Mathlib.Decide.{dec_le}
use native.Mathlib.Omega.{arith}
use lib.ListN.{length, take, drop, length-drop, drop_of_length-le}
use lib.Seq.{take_all}

-- `&s[k..]`
pub rest : (k : ℕ) (s : List ℕ) → take (length s - k) (drop k s) ≡ drop k s
rest k s = take_all (length s - k) (drop k s) (simp length-drop (omega arith))

-- a place past the end is as good as the end
pub drop_least : (n k : ℕ) (s : List ℕ) → k ≡ min n (length s) → drop k s ≡ drop n s
drop_least n k s e = by (dec_le n (length s))
  where
    by : Dec (n ≤ length s) → drop k s ≡ drop n s
    by (yes h) =
        let q : k ≡ n = omega arith in
        rw q
    by (no h) = drop_of_length-le s {i = k} (omega arith) ∙ sym (drop_of_length-le s {i = n} (omega arith))

pub take_least : (n k : ℕ) (s : List ℕ) → k ≡ min n (length s) → take k s ≡ take n s
take_least n k s e = by (dec_le n (length s))
  where
    by : Dec (n ≤ length s) → take k s ≡ take n s
    by (yes h) =
        let q : k ≡ n = omega arith in
        rw q
    by (no h) = take_all k s (omega arith) ∙ sym (take_all n s (omega arith))
