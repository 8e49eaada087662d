-- The loop that reads a number: what holds at each of its turns, for every width.
-- Assumes nothing.
use mathlib.Core.Path.{◌≡◌, refl, sym, ap, ◌∙◌}
use mathlib.Core.Bool.{false, ◌&&◌}
use mathlib.Core.List.{List}
use mathlib.Core.Logic.{◌⊎◌, inl, inr}
use Prim.Native.Nat.{ℕ, suc, ◌+◌, ◌-◌, ◌*◌, ◌^◌, ◌≤◌, ◌<◌}
use native.Mathlib.Nat.{add-mul, one-mul, mul-one, mul_assoc, mul_comm, pow-suc, one-le-pow, mul-le-mul_left, mul-le-mul_right, zero-lt-suc}
use native.Mathlib.Numerals.{add-one}
use native.Mathlib.Decide.{dec_le}
use native.Mathlib.Omega.{arith}
use lib.Dec.{ltb, eqb}
use lib.ListN.{length, drop, get_or, drop_of_length-le}
use lib.Seq.{drop-cons}
use borrow.Author.Tests.{lt-ltb, le-ltb, eq-eqb, ltb-false, eqb-true, eqb-false}
use Rattle.laws.proofs.Picks.{by_test}
use Rattle.numbers.specs.Number.{found, fault_at, ended, groups_from, number_of}
use Rattle.numbers.specs.Width.{Width}

-- At the head of a turn: the number is what the definition reads from here on, and the groups so far are below the weight of
-- the next
pub record Turn (bytes : List ℕ) (at groups top place left weight value : ℕ) : Type 0 where
  pub same : number_of groups top bytes at ≡ groups_from top at (length bytes) left weight value place (drop place bytes)
  pub some : 1 ≤ left
  pub whole : weight * 128 ^ (left - 1) ≡ 128 ^ (groups - 1)
  pub below : value < weight

pub start : (bytes : List ℕ) (at groups top : ℕ) → Width groups top → Turn bytes at groups top at groups 1 0
unfolding number_of
start bytes at groups top w = record { same = refl; some = w.some; whole = one-mul _; below = omega arith }

-- where an `&&` of two tests was false
pub second : {A B : Type 0} → (A × B) ⊎ (A → ⊥) → A → B
second (inl p) a = p.1
second (inr n) a = absurd (n a)

-- the test of the last group, which a byte passes, and back
pub not_past : (left top byte : ℕ) → (left ≡ 1 → byte ≤ top) → (eqb left 1 && ltb top byte) ≡ false
not_past left top byte h = by_test (eqb left 1) (λ e. rw e (le-ltb top byte (h (eqb-true left 1 e)))) (λ e. rw e refl)

pub unpast : (left top byte : ℕ) → (eqb left 1 && ltb top byte) ≡ false → left ≡ 1 → byte ≤ top
unpast left top byte e h = ltb-false top byte (rw (eq-eqb left 1 h) at e)

-- the test of the shortest form
pub not_long : (start at byte : ℕ) → (byte ≡ 0 → at ≤ start) → (eqb byte 0 && ltb start at) ≡ false
not_long start at byte h = by_test (eqb byte 0) (λ e. rw e (le-ltb start at (h (eqb-true byte 0 e)))) (λ e. rw e refl)

-- a byte with more to follow is not the last group that may come
pub more : (left top byte : ℕ) → (left ≡ 1 → byte ≤ top) → 128 ≤ byte → top < 128 → 1 ≤ left → 2 ≤ left
more left top byte p s t o = by_test (eqb left 1) (λ e. absurd (omega (arith, p (eqb-true left 1 e)))) (λ e. omega (arith, eqb-false left 1 e))

-- the weight one group on
pub weigh : (weight left : ℕ) → 2 ≤ left → weight * 128 * 128 ^ (left - 1 - 1) ≡ weight * 128 ^ (left - 1)
weigh weight left h =
    let e : left - 1 ≡ suc (left - 1 - 1) = omega arith in
    mul_assoc weight 128 (128 ^ (left - 1 - 1))
    ∙ ap (λ (x : ℕ). weight * x) (mul_comm 128 (128 ^ (left - 1 - 1)) ∙ sym (pow-suc 128 (left - 1 - 1)) ∙ ap (λ (x : ℕ). 128 ^ x) (sym e))

-- a weight is no more than a whole power
pub at_most : (weight k p : ℕ) → weight * 128 ^ k ≡ p → weight ≤ p
at_most weight k p e =
    let l : weight * 1 ≤ weight * 128 ^ k = mul-le-mul_left weight (one-le-pow k 128 (zero-lt-suc 127)) in
    omega (arith, mul-one weight)

-- the weight fits 64 bits
pub weight_fits : {bytes : List ℕ} {at groups top place left weight value : ℕ} → Width groups top → Turn bytes at groups top place left weight value → weight < 2 ^ 64
weight_fits {groups = groups} {top = top} {left = left} {weight = weight} w t =
    let a = at_most weight (left - 1) (128 ^ (groups - 1)) t.whole in
    let k : 2 * 128 ^ (groups - 1) ≤ (top + 1) * 128 ^ (groups - 1) = mul-le-mul_right (128 ^ (groups - 1)) (omega (arith, w.more)) in
    omega (arith, w.fits)

-- the last group fits 64 bits
pub fits : {bytes : List ℕ} {at groups top place left weight value : ℕ} (byte : ℕ) → Width groups top → Turn bytes at groups top place left weight value → (left ≡ 1 → byte ≤ top) → byte < 128 → value + byte * weight < 2 ^ 64
fits {bytes} {at} {groups} {top} {place} {left} {weight} {value} byte w t p h = by (dec_le 2 left)
  where
    by : Dec (2 ≤ left) → value + byte * weight < 2 ^ 64
    by (yes m) =
        let a = at_most (weight * 128) (left - 1 - 1) (128 ^ (groups - 1)) (weigh weight left m ∙ t.whole) in
        let b : byte * weight ≤ 127 * weight = mul-le-mul_right weight (omega arith) in
        let k : 1 * 128 ^ (groups - 1) ≤ (top + 1) * 128 ^ (groups - 1) = mul-le-mul_right (128 ^ (groups - 1)) (omega arith) in
        omega (arith, w.fits, t.below)
    by (no m) =
        let one : left ≡ 1 = omega (arith, t.some) in
        let a = at_most weight (left - 1) (128 ^ (groups - 1)) t.whole in
        let b : (byte + 1) * weight ≤ (top + 1) * weight = mul-le-mul_right weight (omega (arith, p one)) in
        let k : (top + 1) * weight ≤ (top + 1) * 128 ^ (groups - 1) = mul-le-mul_left (top + 1) a in
        let s : (byte + 1) * weight ≡ byte * weight + weight = add-mul byte 1 weight ∙ ap (λ (x : ℕ). byte * weight + x) (one-mul weight) in
        omega (arith, w.fits, t.below)

-- the definition's step at the byte of a place
module _ {bytes : List ℕ} {at groups top place left weight value : ℕ} (t : Turn bytes at groups top place left weight value) (h : place < length bytes) where
  -- above what the last group may be
  pub over : left ≡ 1 → top < get_or bytes place 0 → fault_at at ≡ number_of groups top bytes at
  unfolding groups_from
  over o l = rw t.same (rw (drop-cons bytes place 0 h) (rw (eq-eqb left 1 o, lt-ltb _ _ l) refl))

  module _ (p : left ≡ 1 → get_or bytes place 0 ≤ top) where
    -- a last group of 0 after the first
    pub long : get_or bytes place 0 ≡ 0 → at < place → fault_at at ≡ number_of groups top bytes at
    unfolding groups_from ended
    long z l = rw t.same (rw (drop-cons bytes place 0 h) (rw (not_past left top (get_or bytes place 0) p, z, lt-ltb at place l) refl))

    -- the last byte
    pub finish : get_or bytes place 0 < 128 → (get_or bytes place 0 ≡ 0 → place ≤ at) → found (value + get_or bytes place 0 * weight) (place + 1) ≡ number_of groups top bytes at
    unfolding groups_from ended
    finish l s = rw t.same (rw (drop-cons bytes place 0 h) (rw (not_past left top (get_or bytes place 0) p, lt-ltb _ _ l, not_long at place (get_or bytes place 0) s) refl))

    -- more follow
    pub again : Width groups top → 128 ≤ get_or bytes place 0 → get_or bytes place 0 < 256 → Turn bytes at groups top (place + 1) (left - 1) (weight * 128) (value + (get_or bytes place 0 - 128) * weight)
    unfolding groups_from
    again w l m =
        let byte = get_or bytes place 0 in
        let two : 2 ≤ left = more left top byte p l w.seven t.some in
        let b : (byte - 128) * weight ≤ 127 * weight = mul-le-mul_right weight (omega arith) in
        record {
          same = t.same ∙ rw (drop-cons bytes place 0 h) (rw (not_past left top byte p) (rw (le-ltb _ _ l) (rw (add-one place) refl)));
          some = omega arith;
          whole = weigh weight left two ∙ t.whole;
          below = omega (arith, t.below);
        }

-- past the last byte
pub cut : {bytes : List ℕ} {at groups top place left weight value : ℕ} → Turn bytes at groups top place left weight value → length bytes ≤ place → fault_at (length bytes) ≡ number_of groups top bytes at
unfolding groups_from
cut {bytes} t h = rw t.same (rw (drop_of_length-le bytes h) refl)

-- what closes the loop's goals
pub ruleset turns = (start, over, long, finish, cut, fits)
