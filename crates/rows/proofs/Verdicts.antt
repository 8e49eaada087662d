-- The rows of traces: the impossible ones by the judge's table, and what each row makes of the judge's verdict.
-- Assumes nothing.
use mathlib.Core.Path.{◌≡◌, sym, subst}
use mathlib.Core.List.{List, [], ◌∷◌}
use Prim.Native.Nat.{ℕ, ◌+◌, ◌≤◌, ◌<◌}
use native.Mathlib.Omega.{arith}
use lib.ListN.{length}
use Rattle.std.specs.Prelude.{Result, Ok}
use Rattle.card.specs.Answers.{Said}
use Rattle.numbers.specs.declared.Fault.{Fault}
use Rattle.trace.specs.Calls.{Told, wrote}
use Rattle.trace.specs.Trace.{Parsed, trace, trace_of}
use Rattle.judge.specs.declared.Verdict.{Verdict}
use Rattle.judge.specs.declared.Verdict.TheVariants.{Possible as possible, Impossible as impossible}
use Rattle.judge.specs.Judge.{Possible, Judged}
use Rattle.judge.specs.Table.{WriteStep, Reach, pieces}
use Rattle.judge.proofs.Runs.{possible_goes}
use Rattle.judge.proofs.Verdicts.{left_begins}
use Rattle.judge.proofs.Once.{ruling_same}
use Rattle.rows.specs.Claims.{Says}

-- after one write the card's bytes and what is held are all that its claim answers for
pub one_write : (C : ℕ) (s : List ℕ) (said : Said) (card : List ℕ) → Possible C (wrote s said ∷ []) card → (h : ℕ) × (WriteStep C 0 (length s) said h × (length card + h ≡ length (pieces (wrote s said ∷ []))))
unfolding Reach
one_write C s said card p =
    let g = possible_goes C (wrote s said ∷ []) card p in
    let l = left_begins g.end (pieces (wrote s said ∷ [])) card g.left in
    (g.reach.0, (g.reach.1.0, omega (arith, l.1, g.reach.1.1)))

-- a first slice that is shorter than the capacity is held whole
pub first_short : (C n : ℕ) (said : Said) (h : ℕ) → n < C → WriteStep C 0 n said h → h ≡ n
first_short C n said h l (WriteStep.stored x y z w) = omega arith
first_short C n said h l (WriteStep.refilled x y z w) = omega arith
first_short C n said h l (WriteStep.direct x y z) = omega arith
first_short C n said h l (WriteStep.stopped x y z w) = omega arith

-- of a longer one nothing is held
pub first_long : (C n : ℕ) (said : Said) (h : ℕ) → C ≤ n → WriteStep C 0 n said h → h ≡ 0
first_long C n said h l (WriteStep.stored x y z w) = omega arith
first_long C n said h l (WriteStep.refilled x y z w) = omega arith
first_long C n said h l (WriteStep.direct x y z) = omega arith
first_long C n said h l (WriteStep.stopped x y z w) = omega arith

-- THE VERDICT of a row: what keeps the judge's promise is the row's
pub says_possible : (bytes : List ℕ) (C : ℕ) (calls : List Told) (card : List ℕ) → Says bytes C calls card → Possible C calls card → (v : Result Verdict Fault) → Judged (trace_of bytes) v → v ≡ Ok possible
unfolding Judged
says_possible bytes C calls card s p v j =
    let k : Judged (trace s.header calls card) v = subst (λ (x : Parsed). Judged x v) s.is j in
    ruling_same v (Ok possible) (k.0.1 (subst (λ (n : ℕ). Possible n calls card) (sym s.capacity_is) p))

pub says_impossible : (bytes : List ℕ) (C : ℕ) (calls : List Told) (card : List ℕ) → Says bytes C calls card → (Possible C calls card → ⊥) → (v : Result Verdict Fault) → Judged (trace_of bytes) v → v ≡ Ok impossible
unfolding Judged
says_impossible bytes C calls card s n v j =
    let k : Judged (trace s.header calls card) v = subst (λ (x : Parsed). Judged x v) s.is j in
    ruling_same v (Ok impossible) (k.1.1 (λ p. n (subst (λ (m : ℕ). Possible m calls card) s.capacity_is p)))
