-- No second text satisfies the promises.
-- Assumes nothing.
use mathlib.Core.Path.{◌≡◌, sym, ap, ◌∙◌}
use mathlib.Core.List.{List}
use Prim.Native.Nat.{ℕ}
use Rattle.std.specs.Prelude.{Result}
use Rattle.numbers.specs.declared.Fault.{Fault}
use Rattle.trace.specs.Trace.{trace_of}
use Rattle.judge.specs.declared.Verdict.{Verdict}
use Rattle.judge.proofs.Once.{judge_once}
use Rattle.form.specs.Session.{Parsed, fault, traced, session, session_of}
use Rattle.text.specs.Printed.{Printed, printed}
use Rattle.session.specs.Session.{verdict_line, JudgeText, Ruled, TextOf, Shown}

line_once : (trace x y : List ℕ) → JudgeText trace x → JudgeText trace y → x ≡ y
line_once trace x y a b =
    a.is ∙ ap (λ (v : Result Verdict Fault). verdict_line v) (judge_once (trace_of trace) a.verdict b.verdict a.judged b.judged) ∙ sym b.is

text_once : (p : Parsed) (x y : List ℕ) → TextOf p x → TextOf p y → x ≡ y
text_once (fault place) x y a b = a ∙ sym b
text_once (traced start trace) x y a b = line_once trace x y a b
text_once (session header replies stock calls) x y a b = a ∙ sym b

module _ (output : List ℕ) (r s : ℕ) (o p : List ℕ) where
  pub stackglow_judge_once : (trace : List ℕ) → Ruled trace output r o → Ruled trace output s p → ◌≡◌ {A = Printed} (record { output = o; at = r }) (record { output = p; at = s })
  stackglow_judge_once trace a b =
      a.is ∙ ap (λ (l : List ℕ). printed output 0 l) (line_once trace a.text b.text a.right b.right) ∙ sym b.is

  pub stackglow_session_once : (t : List ℕ) → Shown t output r o → Shown t output s p → ◌≡◌ {A = Printed} (record { output = o; at = r }) (record { output = p; at = s })
  stackglow_session_once t a b =
      a.is ∙ ap (λ (l : List ℕ). printed output 0 l) (text_once (session_of t) a.text b.text a.right b.right) ∙ sym b.is
