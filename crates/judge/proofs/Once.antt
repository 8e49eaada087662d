-- No second verdict keeps the judge's promise.
-- Assumes nothing.
use mathlib.Core.Path.{◌≡◌, refl, sym, ap, ◌∙◌}
use mathlib.Core.Logic.{◌↔◌}
use mathlib.Core.List.{List, [], ◌∷◌}
use Prim.Native.Nat.{ℕ}
use lib.Dec.{eqb}
use lib.ListN.{get_or}
use Rattle.std.specs.Prelude.{Result, Ok, Err}
use Rattle.laws.specs.Pick.{pick}
use Rattle.numbers.specs.declared.Fault.{Fault}
use Rattle.trace.specs.Trace.{Parsed, fault, trace}
use Rattle.judge.specs.declared.Verdict.{Verdict}
use Rattle.judge.specs.declared.Verdict.TheVariants.{Possible as possible, Impossible as impossible}
use Rattle.judge.specs.Judge.{Possible, ruling, Judged}

-- the verdict that rules so, and back: two verdicts that rule the same are the same
unruled : List ℕ → Result Verdict Fault
unruled l = pick (eqb (get_or l 0 9) 1) (Ok possible) (pick (eqb (get_or l 0 9) 0) (Ok impossible) (Err (record { place = get_or l 2 0 })))

unruled_ruling : (v : Result Verdict Fault) → unruled (ruling v) ≡ v
unfolding unruled
unruled_ruling (Ok possible) = refl
unruled_ruling (Ok impossible) = refl
unruled_ruling (Err e) = refl

pub ruling_same : (v u : Result Verdict Fault) → ruling v ≡ ruling u → v ≡ u
ruling_same v u e = sym (unruled_ruling v) ∙ ap unruled e ∙ unruled_ruling u

-- both halves of the promise on a trace without a fault
abbrev Halves : Type 0 → Result Verdict Fault → Type 0
Halves P v = ((ruling v ≡ 1 ∷ []) ↔ P) × ((ruling v ≡ 0 ∷ []) ↔ (P → ⊥))

-- such a trace is not refused: whoever denies that it is possible has to say impossible
not_refused : (P : Type 0) (e : Fault) → Halves P (Err e) → ⊥
not_refused P e h =
    let never : P → ⊥ = λ p. cc (h.0.1 p) in
    cc (h.1.1 never)

halves_once : (P : Type 0) (v u : Result Verdict Fault) → Halves P v → Halves P u → v ≡ u
halves_once P (Ok possible) (Ok possible) a b = refl
halves_once P (Ok possible) (Ok impossible) a b = absurd (b.1.0 refl (a.0.0 refl))
halves_once P (Ok possible) (Err e) a b = absurd (not_refused P e b)
halves_once P (Ok impossible) (Ok possible) a b = absurd (a.1.0 refl (b.0.0 refl))
halves_once P (Ok impossible) (Ok impossible) a b = refl
halves_once P (Ok impossible) (Err e) a b = absurd (not_refused P e b)
halves_once P (Err e) u a b = absurd (not_refused P e a)

pub judge_once : (p : Parsed) (v u : Result Verdict Fault) → Judged p v → Judged p u → v ≡ u
unfolding Judged
judge_once (fault place) v u a b = ruling_same v u (a ∙ sym b)
judge_once (trace header calls card) v u a b = halves_once (Possible header.capacity calls card) v u a b
