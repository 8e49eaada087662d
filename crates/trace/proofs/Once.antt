-- No second answer meets a promise of this crate.
-- Assumes nothing.
use mathlib.Core.Path.{◌≡◌, sym, ◌∙◌}
use mathlib.Core.List.{List}
use Prim.Native.Nat.{ℕ}
use Rattle.std.specs.Prelude.{Result}
use Rattle.numbers.specs.declared.Fault.{Fault}
use Rattle.trace.specs.declared.TracedCall.{TracedCall}
use Rattle.trace.specs.declared.Header.{Header}
use Rattle.trace.specs.Calls.{call_at}
use Rattle.trace.specs.Trace.{trace_of, checked}

pub read_call_once : (t : List ℕ) (total at : ℕ) (r s : Result TracedCall Fault) → r ≡ call_at t total at → s ≡ call_at t total at → r ≡ s
read_call_once t total at r s p q = p ∙ sym q

pub check_once : (t : List ℕ) (r s : Result Header Fault) → r ≡ checked (trace_of t) → s ≡ checked (trace_of t) → r ≡ s
check_once t r s p q = p ∙ sym q
