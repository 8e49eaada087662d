-- The offset of a seek as the reader sees it, and zeros.
-- Assumes nothing.
use mathlib.Core.Path.{◌≡◌, sym, ap, ◌∙◌}
use mathlib.Core.Bool.{Bool, true, false}
use mathlib.Core.List.{List}
use Prim.Native.Nat.{ℕ, ◌≤◌}
use native.Mathlib.Omega.{arith}
use lib.IntN.{ℤ}
use lib.ListN.{length, take, replicate, length-replicate}
use mir.Syntax.{w64}
use mir.Val.{SFits, to_z, of_z}
use mir.ValLaws.{to_z-of_z}
use Rattle.std.proofs.lemmas.List.{take-replicate}
use Rattle.session.specs.Reading.{offset_of}
use Rattle.session.specs.Steps.{Bounded}

-- the first n of k zeros are n
pub zeros_long : (n k : ℕ) → n ≤ k → n ≡ length (take {A = ℕ} n (replicate k 0))
zeros_long n k h = sym (ap (λ (l : List ℕ). length l) (take-replicate n k 0 h) ∙ length-replicate {A = ℕ} n 0)

-- an offset is read back from its bits as it is
offset_fits : (back : Bool) (size : ℕ) → Bounded back size → SFits w64 (offset_of back size)
offset_fits true size h = let m = h.most in record { sfits = omega arith }
offset_fits false size h = let m = h.most in record { sfits = omega arith }

pub seen : (back : Bool) (size : ℕ) (z : ℤ) → Bounded back size → z ≡ offset_of back size → to_z w64 (of_z w64 z) ≡ offset_of back size
seen back size z h e = ap (λ (x : ℤ). to_z w64 (of_z w64 x)) e ∙ to_z-of_z w64 (offset_of back size) (offset_fits back size h)
