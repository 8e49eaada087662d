-- One thing after another: the definition's way, and the code's.
-- Assumes nothing.
use mathlib.Core.Path.{◌≡◌, refl, sym, ap, ◌∙◌}
use mathlib.Core.Bool.{Bool, true, false}
use mathlib.Core.List.{List}
use Prim.Native.Nat.{ℕ, ◌+◌}
use native.Mathlib.Nat.{add-zero}
use native.Mathlib.Omega.{arith}
use Rattle.card.specs.Answers.{Said}
use Rattle.flushing.specs.declared.State.{State}
use Rattle.flushing.specs.World.{Answered}
use Rattle.flushing.specs.World.{World, Called, Told, world_after, told, reported, is_ok, and_then}

pub then_ok : (c : Called) (next : World → Called) → is_ok c.answer ≡ true → and_then c next ≡ next c.world
unfolding and_then
then_ok c next e = rw e

pub then_failed : (c : Called) (next : World → Called) → is_ok c.answer ≡ false → and_then c next ≡ c
unfolding and_then
then_failed c next e = rw e

-- by the first thing's answer
pub then_cases : (c : Called) (next : World → Called) (P : Called → Type 0) → (is_ok c.answer ≡ true → P (next c.world)) → (is_ok c.answer ≡ false → P c) → P (and_then c next)
then_cases c next P yes-then no-then = by (is_ok c.answer) refl
  where
    by : (t : Bool) → is_ok c.answer ≡ t → P (and_then c next)
    by true e = rw (then_ok c next e) (yes-then e)
    by false e = rw (then_failed c next e) (no-then e)

pub then_assoc : (c : Called) (f g : World → Called) → and_then (and_then c f) g ≡ and_then c (λ v. and_then (f v) g)
then_assoc c f g = by (is_ok c.answer) refl
  where
    by : (t : Bool) → is_ok c.answer ≡ t → and_then (and_then c f) g ≡ and_then c (λ v. and_then (f v) g)
    by true e = ap (λ (d : Called). and_then d g) (then_ok c f e) ∙ sym (then_ok c (λ v. and_then (f v) g) e)
    by false e = ap (λ (d : Called). and_then d g) (then_failed c f e) ∙ then_failed c g e ∙ sym (then_failed c (λ v. and_then (f v) g) e)

-- a call that was told, as the definition has it
pub told_called : (c : Called) (r : Answered) (x y : List ℕ) → told r x y ≡ reported c → c.world.flushes ≡ 0 → c ≡ record { answer = r.answer; world = world_after r.state x y r.calls }
told_called c r x y e z =
    let calls : c.world.writes ≡ r.calls = counted c.world.writes c.world.flushes r.calls (ap (λ (t : Told). t.calls) e) z in
    λ i.
    record {
      answer = sym (ap (λ (t : Told). t.answer) e) i;
      world =
          record {
            storage = sym (ap (λ (t : Told). t.storage) e) i;
            medium = sym (ap (λ (t : Told). t.medium) e) i;
            held = sym (ap (λ (t : Told). t.held) e) i;
            out = sym (ap (λ (t : Told). t.out) e) i;
            used = sym (ap (λ (t : Told). t.used) e) i;
            writes = calls i;
            flushes = z i;
          };
    }
  where
    counted : (a b k : ℕ) → k ≡ a + b → b ≡ 0 → a ≡ k
    counted a b k p q = omega arith

-- the code goes on where the answer is an ok, and stops where it is none
pub then_done : (c : Called) (next : World → Called) (v : World) (a : Said) (t : Told) → c ≡ record { answer = a; world = v } → is_ok a ≡ true → t ≡ reported (next v) → t ≡ reported (and_then c next)
unfolding and_then
then_done c next v a t e o q = rw e (rw o q)

pub then_stopped : (c : Called) (next : World → Called) (state : State) (x y : List ℕ) (writes : ℕ) (a : Said) → c ≡ record { answer = a; world = world_after state x y writes } → is_ok a ≡ false → record { answer = a; calls = writes; held = state.held; out = state.out; used = state.used; storage = x; medium = y } ≡ reported (and_then c next)
unfolding and_then
then_stopped c next state x y writes a e o = rw e (rw o (cc (add-zero writes)))
