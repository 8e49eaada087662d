-- The laws of the last newline.
-- Assumes nothing.
use mathlib.Core.Path.{◌≡◌, refl, sym, ap, ◌∙◌}
use mathlib.Core.Bool.{Bool, true, false}
use mathlib.Core.List.{List, [], ◌∷◌, ◌++◌}
use Prim.Native.Nat.{ℕ, zero, suc, ◌+◌, ◌-◌, ◌≤◌, ◌<◌}
use native.Mathlib.Numerals.{add-one}
use native.Mathlib.Omega.{arith}
use lib.ListN.{length, take, drop, get_or}
use lib.Dec.{ltb, eqb}
use lib.Seq.{take-suc, take_all, length-take-le}
use borrow.Author.Tests.{lt-ltb, eq-eqb, ne_eqb, lt-leb}
use Rattle.laws.specs.Pick.{pick}
use Rattle.line.specs.Line.{lines_length, newline, window, tail_kept}

-- one byte more at the end
pub lines_more : (xs : List ℕ) (b : ℕ) → lines_length (xs ++ (b ∷ [])) ≡ pick (eqb b newline) (length xs + 1) (lines_length xs)
unfolding lines_length
lines_more [] b = refl
lines_more (x ∷ xs) b = rw (lines_more xs b) (by (eqb b newline))
  where
    by : (t : Bool) → pick (ltb 0 (pick t (length xs + 1) (lines_length xs))) (suc (pick t (length xs + 1) (lines_length xs))) (pick (eqb x newline) 1 0) ≡ pick t (suc (length xs) + 1) (pick (ltb 0 (lines_length xs)) (suc (lines_length xs)) (pick (eqb x newline) 1 0))
    by true = rw (lt-ltb 0 (length xs + 1) (omega arith)) (omega arith)
    by false = refl

-- a byte that is none takes nothing away
miss : (s : List ℕ) (i j : ℕ) → (get_or s j 0 ≡ newline → ⊥) → j + 1 ≡ i → i ≤ length s → lines_length (take i s) ≡ lines_length (take j s)
miss s i j b q h =
    let inside : j < length s = omega arith in
    let one = ap (λ (k : ℕ). lines_length (take k s)) (sym q ∙ add-one j) ∙ ap lines_length (take-suc s j 0 inside) ∙ lines_more (take j s) (get_or s j 0) in
    let shown : pick (eqb (get_or s j 0) newline) (length (take j s) + 1) (lines_length (take j s)) ≡ lines_length (take j s) = rw (ne_eqb _ _ b) refl in
    one ∙ shown

-- no newline from place j on, so the last, if any, is before it
none_from : (s : List ℕ) (d j : ℕ) → j + d ≡ length s → ((k : ℕ) → j ≤ k → k < length s → get_or s k 0 ≡ newline → ⊥) → lines_length s ≡ lines_length (take j s)
none_from s zero j e none = ap lines_length (sym (take_all j s (omega arith)))
none_from s (suc d) j e none =
    let on = none_from s d (j + 1) (omega arith) (λ k l m. none k (omega arith) m) in
    on ∙ miss s (j + 1) j (none j (omega arith) (omega arith)) refl (omega arith)

-- the search from the end finds one, or none
pub found : (s : List ℕ) (last : ℕ) → last < length s → get_or s last 0 ≡ newline → ((k : ℕ) → last + 1 ≤ k → k < length s → get_or s k 0 ≡ newline → ⊥) → last + 1 ≡ lines_length s
found s last h b none =
    let e = none_from s (length s - (last + 1)) (last + 1) (omega arith) none in
    let one = ap (λ (k : ℕ). lines_length (take k s)) (add-one last) ∙ ap lines_length (take-suc s last 0 h) ∙ lines_more (take last s) (get_or s last 0) in
    let long = length-take-le last s (omega arith) in
    let shown : pick (eqb (get_or s last 0) newline) (length (take last s) + 1) (lines_length (take last s)) ≡ last + 1 = rw (eq-eqb _ _ b) (omega (arith, long)) in
    sym (e ∙ one ∙ shown)

pub missed : (s : List ℕ) → ((k : ℕ) → 0 ≤ k → k < length s → get_or s k 0 ≡ newline → ⊥) → 0 ≡ lines_length s
unfolding lines_length
missed s none = sym (none_from s (length s) 0 (omega arith) none)

-- no more than there are
pub lines_most : (s : List ℕ) → lines_length s ≤ length s
unfolding lines_length
lines_most [] = omega arith
lines_most (b ∷ rest) = by (lines_most rest) (ltb 0 (lines_length rest)) (eqb b newline)
  where
    by : lines_length rest ≤ length rest → (t u : Bool) → pick t (suc (lines_length rest)) (pick u 1 0) ≤ suc (length rest)
    by h true u = omega arith
    by h false true = omega arith
    by h false false = omega arith

pub window_most : (area : List ℕ) → window area ≤ length area
unfolding window
window_most area = by (eqb (lines_length area) 0)
  where
    by : (t : Bool) → pick t (length area) (lines_length area) ≤ length area
    by true = omega arith
    by false = lines_most area

-- the last way to keep a tail: the capacity bytes from f
pub tail_window : (most e f r : ℕ) (s : List ℕ) → r ≡ window (take (f + most - f) (drop f s)) → (f ≡ 0 → ⊥) → f < e → most < e - f → r ≡ tail_kept most s e f
unfolding tail_kept
tail_window most e f r s q a b c =
    let m : f + most - f ≡ most = omega arith in
    rw (ne_eqb f 0 a, lt-leb e f b, lt-leb (e - f) most c) (rw (← m) q)
