-- The walk over a session's calls, whatever runs them: the text from the start is what is printed and the text from here.
-- Assumes nothing.
use mathlib.Core.Path.{◌≡◌, sym, ap, ◌∙◌}
use mathlib.Core.List.{List, []}
use Prim.Native.Nat.{ℕ, ◌+◌, ◌-◌, ◌≤◌, ◌<◌}
use native.Mathlib.Omega.{arith}
use Rattle.std.specs.Prelude.{Err}
use Rattle.numbers.specs.declared.Fault.{Fault}
use Rattle.numbers.specs.Number.{found}
use Rattle.form.specs.declared.Call.{Call}
use Rattle.form.specs.Lists.{listed}
use Rattle.form.specs.Calls.{Asked, asked, call_at, calls_from}
use Rattle.form.proofs.Rests.{next, no_fault, last}
use Rattle.text.specs.declared.Page.{Page}
use Rattle.text.specs.Printed.{written}
use Rattle.text.proofs.Prints.{nothing, then}
use Rattle.session.specs.Lines.{Step, lines_of}
use Rattle.session.specs.Steps.{Steps, Lines}

-- a call that is none of this session's prints nothing and leaves everything
pub idles : {W : Type 0} (s : Step W) (w : W) (page : Page) → s ≡ record { line = []; world = w } → Steps s page page w
idles {W} s w page e =
    record {
      prints = nothing page ∙ ap (λ (z : Step W). written page z.line) (sym e);
      leaves = ap (λ (z : Step W). z.world) (sym e);
    }

pub record Here {W : Type 0} (t : List ℕ) (kind left place : ℕ) (step : W → Asked → Step W) (ends : W → List ℕ) (w : W) (page : Page) (end : ℕ) (whole : Page) : Type 0 where
  pub rest : List Asked
  pub is : calls_from t kind left place ≡ listed rest end
  pub same : written page (lines_of step ends w rest) ≡ whole

pub record Inv {W : Type 0} (t : List ℕ) (kind count first : ℕ) (step : W → Asked → Step W) (ends : W → List ℕ) (w₀ : W) (page₀ : Page) (w : W) (done place : ℕ) (page : Page) : Type 0 where
  pub here : (calls : List Asked) (end : ℕ) → calls_from t kind count first ≡ listed calls end → Here t kind (count - done) place step ends w page end (written page₀ (lines_of step ends w₀ calls))

module _ {W : Type 0} (t : List ℕ) (kind count first : ℕ) (step : W → Asked → Step W) (finish : W → List ℕ) (w₀ : W) (page₀ : Page) (w : W) (done place : ℕ) (page : Page) (i : Inv t kind count first step finish w₀ page₀ w done place page) where
  pub again : (call : Call) (next-place : ℕ) (after : Page) (v : W) → call_at t kind place ≡ found call next-place → Steps (step w (asked t call)) page after v → done < count → Inv t kind count first step finish w₀ page₀ v (done + 1) next-place after
  unfolding lines_of
  again call next-place after v q p lt =
      record {
        here = λ calls end e.
            let h = i.here calls end e in
            let m = next t kind (count - done) place h.rest end h.is call next-place q (omega arith) in
            let left : count - (done + 1) ≡ count - done - 1 = omega arith in
            let later = lines_of step finish (step w (asked t call)).world m.later in
            record {
              rest = m.later;
              is = rw left m.goes;
              same =
                  ap (λ (u : W). written after (lines_of step finish u m.later)) p.leaves
                  ∙ ap (λ (x : Page). written x later) p.prints
                  ∙ then page (step w (asked t call)).line later
                  ∙ ap (λ (l : List Asked). written page (lines_of step finish w l)) (sym m.front)
                  ∙ h.same;
            };
      }

  pub ends : (after : Page) (text : List ℕ) → after ≡ written page text → text ≡ finish w → count ≤ done → Lines t kind count first step finish w₀ page₀ after
  unfolding lines_of
  ends after text p pt z =
      record {
        prints = λ calls end e.
            let h = i.here calls end e in
            let none = last t kind (count - done) place h.rest end h.is (omega arith) in
            p
            ∙ ap (λ (l : List ℕ). written page l) pt
            ∙ ap (λ (l : List Asked). written page (lines_of step finish w l)) (sym none.0)
            ∙ h.same;
      }

  pub never : (f : Fault) (after : Page) → call_at t kind place ≡ Err f → done < count → Lines t kind count first step finish w₀ page₀ after
  never f after q lt =
      record {
        prints = λ calls end e.
            let h = i.here calls end e in
            absurd (no_fault t kind (count - done) place h.rest end h.is f q (omega arith));
      }
