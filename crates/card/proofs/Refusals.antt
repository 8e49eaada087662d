-- What is so where no refusal applies.
-- Assumes nothing.
use mathlib.Core.Path.{◌≡◌, refl}
use mathlib.Core.Bool.{Bool, true, false}
use mathlib.Core.Logic.{◌⊎◌, inl, inr}
use Prim.Native.Nat.{ℕ, ◌≤◌, ◌<◌}
use native.Mathlib.Omega.{arith}
use borrow.Author.Tests.{ltb-false, le-ltb, lt-ltb}
use lib.Dec.{ltb}
use Rattle.laws.specs.Pick.{pick}
use Rattle.card.specs.declared.limits.Refusal.{Refusal}
use Rattle.card.specs.declared.limits.Refusal.TheVariants.{Capacity, Length, Peek, Seek, Device, State}
use Rattle.card.specs.Limits.{refusal_of, length_refusal, refusal_number, capacity_most, script_most, bytes_most}

pub record Unrefused (capacity script device pos filled moved used own : ℕ) : Type 0 where
  pub capacity_within : capacity ≤ capacity_most
  pub script_within : script ≤ script_most
  pub device_most : device ≤ bytes_most
  pub filled_fits : filled ≤ capacity
  pub pos_fits : pos ≤ filled
  pub moved_fits : moved ≤ device
  pub used_fits : used ≤ script
  pub own_none : own ≡ 0

-- a row of the table that does not apply
passed : (a b k rest : ℕ) → (k ≡ 0 → ⊥) → pick (ltb a b) k rest ≡ 0 → (b ≤ a) × (rest ≡ 0)
passed a b k rest h e = by (ltb a b) refl e
  where
    by : (t : Bool) → ltb a b ≡ t → pick t k rest ≡ 0 → (b ≤ a) × (rest ≡ 0)
    by true p q = absurd (h q)
    by false p q = (ltb-false a b p, q)

pub unrefused : (capacity script device pos filled moved used own : ℕ) → refusal_of capacity script device pos filled moved used own ≡ 0 → Unrefused capacity script device pos filled moved used own
unfolding refusal_of
unrefused capacity script device pos filled moved used own e =
    let a = passed capacity_most capacity 1 _ (omega arith) e in
    let b = passed script_most script 5 _ (omega arith) a.1 in
    let c = passed bytes_most device 5 _ (omega arith) b.1 in
    let d = passed capacity filled 8 _ (omega arith) c.1 in
    let f = passed filled pos 8 _ (omega arith) d.1 in
    let g = passed device moved 8 _ (omega arith) f.1 in
    let h = passed script used 8 own (omega arith) g.1 in
    record {
      capacity_within = a.0;
      script_within = b.0;
      device_most = c.0;
      filled_fits = d.0;
      pos_fits = f.0;
      moved_fits = g.0;
      used_fits = h.0;
      own_none = h.1;
    }

-- and where everything is within its limit, none but the call's own applies
pub within_limits : (capacity script device pos filled moved used : ℕ) → capacity ≤ capacity_most → script ≤ script_most → device ≤ bytes_most → filled ≤ capacity → pos ≤ filled → moved ≤ device → used ≤ script → refusal_of capacity script device pos filled moved used 0 ≡ 0
unfolding refusal_of
within_limits capacity script device pos filled moved used a b c d e f g =
    rw (le-ltb capacity_most capacity a, le-ltb script_most script b, le-ltb bytes_most device c, le-ltb capacity filled d, le-ltb filled pos e, le-ltb device moved f, le-ltb script used g) refl

-- ---- the rows of the table

module _ (capacity script device pos filled moved used own : ℕ) where
  pub row_1 : capacity_most < capacity → 1 ≡ refusal_of capacity script device pos filled moved used own
  unfolding refusal_of
  row_1 h = rw (lt-ltb capacity_most capacity h) refl

  pub row_5 : capacity ≤ capacity_most → (script_most < script) ⊎ ((script ≤ script_most) × (bytes_most < device)) → 5 ≡ refusal_of capacity script device pos filled moved used own
  unfolding refusal_of
  row_5 a (inl h) = rw (le-ltb capacity_most capacity a, lt-ltb script_most script h) refl
  row_5 a (inr (b, h)) = rw (le-ltb capacity_most capacity a, le-ltb script_most script b, lt-ltb bytes_most device h) refl

  pub row_8 : capacity ≤ capacity_most → script ≤ script_most → device ≤ bytes_most → (capacity < filled) ⊎ (((filled ≤ capacity) × (filled < pos)) ⊎ (((filled ≤ capacity) × ((pos ≤ filled) × (device < moved))) ⊎ ((filled ≤ capacity) × ((pos ≤ filled) × ((moved ≤ device) × (script < used)))))) → 8 ≡ refusal_of capacity script device pos filled moved used own
  unfolding refusal_of
  row_8 a b c (inl h) = rw (le-ltb capacity_most capacity a, le-ltb script_most script b, le-ltb bytes_most device c, lt-ltb capacity filled h) refl
  row_8 a b c (inr (inl (d, h))) = rw (le-ltb capacity_most capacity a, le-ltb script_most script b, le-ltb bytes_most device c, le-ltb capacity filled d, lt-ltb filled pos h) refl
  row_8 a b c (inr (inr (inl (d, (e, h))))) = rw (le-ltb capacity_most capacity a, le-ltb script_most script b, le-ltb bytes_most device c, le-ltb capacity filled d, le-ltb filled pos e, lt-ltb device moved h) refl
  row_8 a b c (inr (inr (inr (d, (e, (f, h)))))) = rw (le-ltb capacity_most capacity a, le-ltb script_most script b, le-ltb bytes_most device c, le-ltb capacity filled d, le-ltb filled pos e, le-ltb device moved f, lt-ltb script used h) refl

  -- where none of them applies, the call's own; else whatever the call's own would be
  pub own_row : refusal_of capacity script device pos filled moved used 0 ≡ 0 → own ≡ refusal_of capacity script device pos filled moved used own
  unfolding refusal_of
  own_row e =
      let u = unrefused capacity script device pos filled moved used 0 e in
      rw (le-ltb capacity_most capacity u.capacity_within, le-ltb script_most script u.script_within, le-ltb bytes_most device u.device_most, le-ltb capacity filled u.filled_fits, le-ltb filled pos u.pos_fits, le-ltb device moved u.moved_fits, le-ltb script used u.used_fits) refl

  pub other_row : (n : ℕ) → n ≡ refusal_of capacity script device pos filled moved used 0 → (n ≡ 0 → ⊥) → n ≡ refusal_of capacity script device pos filled moved used own
  unfolding refusal_of
  other_row n e h =
      by (ltb capacity_most capacity) (ltb script_most script) (ltb bytes_most device) (ltb capacity filled) (ltb filled pos) (ltb device moved) (ltb script used) e
    where
      by : (a b c d f g k : Bool) → n ≡ pick a 1 (pick b 5 (pick c 5 (pick d 8 (pick f 8 (pick g 8 (pick k 8 0)))))) → n ≡ pick a 1 (pick b 5 (pick c 5 (pick d 8 (pick f 8 (pick g 8 (pick k 8 own))))))
      by true b c d f g k q = q
      by false true c d f g k q = q
      by false false true d f g k q = q
      by false false false true f g k q = q
      by false false false false true g k q = q
      by false false false false false true k q = q
      by false false false false false false true q = q
      by false false false false false false false q = absurd (h q)

-- no refusal has number 0
pub refusal_some : (r : Refusal) (n : ℕ) → n ≡ refusal_number r → n ≡ 0 → ⊥
refusal_some Capacity n e z = omega arith
refusal_some Length n e z = omega arith
refusal_some Peek n e z = omega arith
refusal_some Seek n e z = omega arith
refusal_some Device n e z = omega arith
refusal_some State n e z = omega arith

-- a slice or destination that is not too long
pub length_unrefused : (n : ℕ) → length_refusal n ≡ 0 → n ≤ bytes_most
unfolding length_refusal
length_unrefused n e = (passed bytes_most n 2 0 (omega arith) e).0

pub length_within : (n : ℕ) → n ≤ bytes_most → length_refusal n ≡ 0
unfolding length_refusal
length_within n h = rw (le-ltb bytes_most n h) refl
