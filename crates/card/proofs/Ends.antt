-- Error code 0 is the script's end and nothing else: what counts of device calls go by.
-- Assumes nothing.
use mathlib.Core.Path.{◌≡◌, refl}
use mathlib.Core.Bool.{Bool, true, false, ◌&&◌}
use mathlib.Core.List.{List, [], ◌∷◌}
use Prim.Native.Nat.{ℕ, ◌+◌, ◌-◌, ◌<◌}
use native.Mathlib.Omega.{arith}
use lib.Dec.{leb, eqb}
use lib.ListN.{get_or}
use borrow.Author.Tests.{leb-false, eqb-false, ne_eqb}
use Rattle.laws.specs.Pick.{pick}
use Rattle.std.specs.Prelude.{Ok, Err}
use Rattle.card.specs.declared.DeviceError.TheVariants.{Interrupted, Error}
use Rattle.card.specs.Answers.{Said}
use Rattle.card.specs.Device.{Reply, accept, interrupted, error, reply_of, next, takes, at_most, exchange}

-- 1 for an answer, and for a reply, that is error code 0; else 0
abbrev pub ended : Said → ℕ
ended a = pick (eqb (get_or a 0 0) 3 && eqb (get_or a 1 1) 0) 1 0

abbrev pub ended_by : Reply → ℕ
ended_by (Ok n) = 0
ended_by (Err Interrupted) = 0
ended_by (Err (Error code)) = pick (eqb code 0) 1 0

-- no number of the script gives it
pub no_end : (n most : ℕ) → ended_by (at_most most (reply_of n)) ≡ 0
unfolding reply_of at_most
no_end n most = by (leb n 65535) (eqb n 65536) (λ e. leb-false n 65535 e) (λ e. eqb-false n 65536 e)
  where
    by : (b k : Bool) → (b ≡ false → 65535 < n) → (k ≡ false → n ≡ 65536 → ⊥) → ended_by (at_most most (pick b (accept n) (pick k interrupted (error (n - 65536))))) ≡ 0
    by true k h g = refl
    by false true h g = refl
    by false false h g =
        let above : 65535 < n = h refl in
        let other : n ≡ 65536 → ⊥ = g refl in
        rw (ne_eqb (n - 65536) 0 (λ z. other (omega arith)))

-- one call of the device takes a reply, or meets the script's end
pub exchange_counts : (left : List ℕ) (used most : ℕ) → used + 1 ≡ (exchange left used most).used + ended_by (exchange left used most).reply
unfolding exchange next takes at_most
exchange_counts [] used most = omega arith
exchange_counts (n ∷ rest) used most = omega (arith, no_end n most)
