-- Laws of the sets of flags, and the loop over one.
-- Assumes nothing.
use mathlib.Core.Path.{◌≡◌}
use mathlib.Core.Logic.{◌↔◌, ◌⊎◌}
use mathlib.Core.Bool.{Bool, true, false, ◌||◌}
use mathlib.Core.List.{List}
use Prim.Native.Nat.{ℕ, ◌+◌, ◌-◌, ◌≤◌, ◌<◌}
use native.Mathlib.Omega.{arith}
use borrow.Rule.Slice.PartMut.{put_mid}
use lib.ListN.{length, get_or, set, take, drop, replicate, length-replicate}
use lib.Seq.{get_or-set_same}
use Rattle.std.proofs.lemmas.Bool.{cases_eq, or_cases, or_left, or_right}
use Rattle.std.proofs.lemmas.Bool.Decides.{nat_tests}
use Rattle.std.proofs.lemmas.List.{get_or_past, places}
use Rattle.judge.specs.Flags.{Has, landing, Lands, Between}

-- no flag is set past the end, nor in a new set
pub has_within : (l : List Bool) (k : ℕ) → Has l k → k < length l
has_within l k x = grind (arith, get_or_past)

pub none_set : (m k : ℕ) → Has (replicate m false) k → ⊥
none_set m k x = grind (arith, places)

-- a flag that is set
pub has_set : (l : List Bool) (i k : ℕ) → i < length l → Has (set l i true) k ↔ (Has l k ⊎ (k ≡ i))
has_set l i k h = grind (arith, places, get_or-set_same, cases_eq k i)

-- of a new set with its first flag
pub has_new : (m k : ℕ) → 0 < m → Has (set (replicate m false) 0 true) k ↔ (k ≡ 0)
has_new m k h = grind (arith, has_set (replicate m false) 0 k, none_set m k, length-replicate m false)

-- the first flag, set where b holds
pub has_first : (l : List Bool) (b : Bool) (k : ℕ) → 0 < length l → Has (set l 0 (get_or l 0 false || b)) k ↔ (Has l k ⊎ ((b ≡ true) × (k ≡ 0)))
has_first l b k h = grind (arith, places, get_or-set_same, cases_eq k 0, or_cases, or_left, or_right)

-- the flags from 1 to `most`, all set
pub has_filled : (l ys : List Bool) (most k : ℕ) → most < length l → ys ≡ replicate (length (take (most + 1 - 1) (drop 1 l))) true → Has (put_mid 1 (most + 1 - 1) l ys) k ↔ (Has l k ⊎ Between 1 (most + 1) k)
has_filled l ys most k h e = grind (arith, places)

-- ---- flags that land

-- a landing is within the capacity
pub landing_most : (C n h : ℕ) → n < C → landing C n h ≤ C
landing_most C n h l = grind (arith, nat_tests)

pub land_begins : (C n m : ℕ) (old : List Bool) (k : ℕ) → Has (replicate m false) k ↔ Lands C n 0 old k
land_begins C n m old k = grind (arith, places)

module _ (C n h : ℕ) (old l : List Bool) (landed : (k : ℕ) → Has l k ↔ Lands C n h old k) where
  pub land_more : (at : ℕ) → at ≡ landing C n h → get_or old h false ≡ true → at < length l → (k : ℕ) → Has (set l at true) k ↔ Lands C n (h + 1) old k
  land_more at q x b k = grind (arith, has_set l at k b, landed k)

  pub land_skip : get_or old h false ≡ false → (k : ℕ) → Has l k ↔ Lands C n (h + 1) old k
  land_skip x k = grind (arith, landed k)
