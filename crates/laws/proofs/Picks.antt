-- Cases of a test and of a choice by one.
-- Assumes nothing.
use mathlib.Core.Path.{◌≡◌, refl}
use mathlib.Core.Bool.{Bool, true, false}
use Rattle.laws.specs.Pick.{pick}

-- by a test's two answers
pub by_test {ℓ} : {A : Type ℓ} (b : Bool) → (b ≡ true → A) → (b ≡ false → A) → A
by_test true t f = t refl
by_test false t f = f refl

-- what holds of both choices, each under its test, holds of the choice
pub pick_holds {ℓ ℓ'} : {A : Type ℓ} (P : A → Type ℓ') (b : Bool) (x y : A) → (b ≡ true → P x) → (b ≡ false → P y) → P (pick b x y)
pick_holds P true x y t f = t refl
pick_holds P false x y t f = f refl
