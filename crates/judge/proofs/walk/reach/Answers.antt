use mathlib.Core.Path.{sym, ◌∙◌}
use native.Mathlib.Omega.{arith}
use Rattle.judge.proofs.Walks.{begins, again, ends, never, call_short}
use Rattle.judge.proofs.walk.reach.Goals as goal

pub loop-init : goal.loop-init
loop-init c = begins _ _ _ _ c.new-counts.ensures.capacity c.new-counts.ensures.flags

pub returns-in_default : goal.returns-in_default
returns-in_default c = never _ _ _ _ _ _ _ _ _ c.loop.invariant (sym c.read_call.ensures ∙ c.in_default.is) c.loop-test.true

pub turn-requires : goal.turn-requires
turn-requires c = omega (arith, call_short _ _ _ _ (sym c.read_call.ensures ∙ c.in-Ok.is) c.loop.invariant.few)

pub overflow_add-total : goal.overflow_add-total
overflow_add-total c = omega (arith, call_short _ _ _ _ (sym c.read_call.ensures ∙ c.in-Ok.is) c.loop.invariant.few)

pub loop-preserved : goal.loop-preserved
loop-preserved c = again _ _ _ _ _ _ _ _ _ _ c.loop.invariant (sym c.read_call.ensures ∙ c.in-Ok.is) c.turn.ensures.capacity c.turn.ensures.flags c.loop-test.true

pub returns : goal.returns
returns c = ends _ _ _ _ _ _ _ c.loop.invariant c.loop-test.false
