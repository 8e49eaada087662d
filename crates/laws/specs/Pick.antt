-- A choice by a test. Definitions choose so, and not by patterns on numbers.
-- Assumes nothing.
use Rattle.std.specs.Prelude.{Bool, true, false}

-- `pick b x y`: x where b holds, else y
abbrev pub pick {ℓ} : {A : Type ℓ} → Bool → A → A → A
pick true x y = x
pick false x y = y
