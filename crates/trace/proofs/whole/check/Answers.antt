use mathlib.Core.Path.{sym, ◌∙◌}
use native.Mathlib.Omega.{arith}
use Rattle.numbers.proofs.Most.{handed_on}
use Rattle.trace.proofs.Walk.{again, stop}
use Rattle.trace.proofs.whole.check.Goals as goal

pub returns-in_err-call : goal.returns-in_err-call
returns-in_err-call c = stop _ _ _ _ _ (sym c.read_most.ensures ∙ c.in_ok-capacity.was) (sym c.read_most-2.ensures ∙ c.in_ok-count.was) _ _ _ c.loop.invariant _ _ (sym c.read_call.ensures ∙ c.in_err-call.was) c.loop-test.true (handed_on _ _ c.from_residual-in_err-call.ensures.1)

pub loop-preserved : goal.loop-preserved
loop-preserved c = again _ _ _ _ _ c.loop.invariant (sym c.read_call.ensures ∙ c.in_ok-call.was) c.loop-test.true

pub overflow_add-total : goal.overflow_add-total
overflow_add-total c = omega (arith, (loop-preserved c).small)
