-- An offset's refusal and its place, from its size and its sign.
-- Assumes nothing.
use mathlib.Core.Path.{◌≡◌, refl, ap, ◌∙◌}
use mathlib.Core.Bool.{true, false}
use Prim.Native.Nat.{ℕ, suc, ◌+◌, ◌≤◌, ◌<◌}
use native.Mathlib.Omega.{arith}
use lib.IntN.{ℤ, pos, negsuc, nat_abs}
use lib.Signed.{lt_z}
use mir.Syntax.{w64}
use mir.Val.{SFits, to_z, of_z}
use mir.ValLaws.{to_z-of_z}
use borrow.Author.Tests.{le-leb, lt-leb, ltb-true}
use Rattle.reader.specs.declared.State.{State}
use Rattle.reader.specs.Buffer.{count, consume, unconsume}
use Rattle.reader.specs.Reader.{seek_refusal, sought}

-- a signed number as the machine reads it back from its bits
abbrev pub seen : ℤ → ℤ
seen z = to_z w64 (of_z w64 z)

-- a number below 0 is k + 1 below it, another is from 0 up
record Negative (z : ℤ) : Type 0 where
  pub less : ℕ
  pub is : z ≡ negsuc less

record Natural (z : ℤ) : Type 0 where
  pub size : ℕ
  pub is : z ≡ pos size

negative : (z : ℤ) → lt_z z (pos 0) ≡ true → Negative z
negative (pos n) t = absurd (omega (arith, ltb-true n 0 t))
negative (negsuc k) t = record { less = k; is = refl }

natural : (z : ℤ) → lt_z z (pos 0) ≡ false → Natural z
natural (pos n) t = record { size = n; is = refl }
natural (negsuc k) t = cc

-- what is told of an offset that is read back from its bits is told of the offset
module _ (z : ℤ) (f : SFits w64 z) where
  same : seen z ≡ z
  same = to_z-of_z w64 z f

  pub refusal_at : (n : ℕ) (st : State) → n ≡ seek_refusal (seen z) st → n ≡ seek_refusal z st
  refusal_at n st e = e ∙ ap (λ (x : ℤ). seek_refusal x st) same

  pub place_at : (r st : State) → r ≡ sought (seen z) st → r ≡ sought z st
  place_at r st e = e ∙ ap (λ (x : ℤ). sought x st) same

  module _ (st : State) (n : ℕ) (e : n ≡ nat_abs (seen z)) where
    module _ (t : lt_z (seen z) (pos 0) ≡ true) where
      back : Negative z
      back = negative z (rw same at t)

      size_back : n ≡ suc back.less
      size_back = e ∙ ap nat_abs (same ∙ back.is)

      pub back_in : n ≤ st.pos → 0 ≡ seek_refusal z st
      unfolding seek_refusal
      back_in h = rw (back.is, ← size_back, le-leb _ _ h)

      pub back_out : st.pos < n → 4 ≡ seek_refusal z st
      unfolding seek_refusal
      back_out h = rw (back.is, ← size_back, lt-leb _ _ h)

      pub back_to : (r : State) → r ≡ unconsume n st → r ≡ sought z st
      unfolding sought
      back_to r q = rw (back.is, ← size_back) q

    module _ (t : lt_z (seen z) (pos 0) ≡ false) where
      on : Natural z
      on = natural z (rw same at t)

      size_on : n ≡ on.size
      size_on = e ∙ ap nat_abs (same ∙ on.is)

      pub on_past : (k : ℕ) → k ≡ count st → k < n → st.pos ≤ st.filled → 4 ≡ seek_refusal z st
      unfolding seek_refusal
      on_past k ek h p =
          let past : st.filled < st.pos + n = omega arith in
          rw (on.is, ← size_on, lt-leb _ _ past)

      pub on_in : (k : ℕ) → k ≡ count st → n ≤ k → st.pos ≤ st.filled → 0 ≡ seek_refusal z st
      unfolding seek_refusal
      on_in k ek h p =
          let within : st.pos + n ≤ st.filled = omega arith in
          rw (on.is, ← size_on, le-leb _ _ within)

      pub on_to : (r : State) → r ≡ consume n st → r ≡ sought z st
      unfolding sought
      on_to r q = rw (on.is, ← size_on) q
