-- Numbers worked out by hand, computed by the definition. Bytes are in hex, places as document 01 gives them.
-- Assumes nothing.
use mathlib.Core.Path.{◌≡◌, refl}
use mathlib.Core.List.{List, [], ◌∷◌}
use Prim.Native.Nat.{ℕ}
use native.Mathlib.Omega.{arith}
use Rattle.numbers.specs.Number.{Found, found, fault_at, ended, groups_from, number_of, number}
use Rattle.numbers.specs.Width.{Width}
use Rattle.numbers.specs.Written.{group_bytes, number_bytes}

pub record Row : Type 0 where
  pub bytes : List ℕ
  pub at : ℕ
  pub finds : Found ℕ

abbrev pub rows : List Row
rows =
    record { bytes = 0x85 ∷ 0x80 ∷ 0x04 ∷ []; at = 0; finds = found 65541 3 }
    ∷ record { bytes = 0x07 ∷ 0x7f ∷ []; at = 1; finds = found 127 2 }
    ∷ record { bytes = []; at = 0; finds = fault_at 0 }
    ∷ record { bytes = 0x00 ∷ 0xff ∷ 0xff ∷ []; at = 1; finds = fault_at 3 }
    ∷ record { bytes = 0x80 ∷ 0x80 ∷ 0x80 ∷ 0x80 ∷ 0x80 ∷ []; at = 0; finds = fault_at 0 }
    ∷ record { bytes = 0xff ∷ 0xff ∷ 0xff ∷ 0xff ∷ 0x0f ∷ []; at = 0; finds = found 4294967295 5 }
    ∷ record { bytes = 0x07 ∷ 0x80 ∷ 0x80 ∷ 0x80 ∷ 0x80 ∷ 0x10 ∷ 0x00 ∷ []; at = 1; finds = fault_at 1 }
    ∷ record { bytes = 0x80 ∷ 0x80 ∷ 0x80 ∷ 0x80 ∷ 0x00 ∷ []; at = 0; finds = fault_at 0 }
    ∷ record { bytes = 0x80 ∷ 0x00 ∷ 0x00 ∷ []; at = 0; finds = fault_at 0 }
    ∷ []

-- every row as it is said
abbrev pub Hold : List Row → Type 0
Hold [] = Unit
Hold (row ∷ rest) = (number row.bytes row.at ≡ row.finds) × Hold rest

pub rows_hold : Hold rows
unfolding number number_of groups_from ended
rows_hold = (refl, (refl, (refl, (refl, (refl, (refl, (refl, (refl, (refl, tt)))))))))

pub written : number_bytes 65541 ≡ 0x85 ∷ 0x80 ∷ 0x04 ∷ []
unfolding number_bytes group_bytes
written = refl

-- ten groups, of which the last is at most 1, are a width too: numbers below 2^64
pub ten : Width 10 1
ten = record { some = omega arith; more = omega arith; seven = omega arith; fits = omega arith }
