use mathlib.Core.Path.{refl, sym, ◌∙◌}
use Rattle.session.proofs.Walks.{again, ends, never}
use Rattle.session.proofs.WriteSteps.{lent_on, same_lent}
use Rattle.session.proofs.writing.run.Goals as goal

pub loop-preserved : goal.loop-preserved
loop-preserved c = record {
  lent = lent_on _ _ _ c.loop.invariant.lent c.step.ensures.lent;
  walked = again _ _ _ _ _ _ _ _ _ _ _ _ c.loop.invariant.walked _ _ _ _ (sym c.read_call.ensures ∙ c.in-Ok.is) (same_lent _ _ _ c.loop.invariant.lent _ _ _ _ _ c.step.ensures.steps) c.loop-test.true;
}

pub returns-in_default : goal.returns-in_default
returns-in_default c = never _ _ _ _ _ _ _ _ _ _ _ _ c.loop.invariant.walked _ _ (sym c.read_call.ensures ∙ c.in_default.is) c.loop-test.true

pub returns : goal.returns
returns c = ends _ _ _ _ _ _ _ _ _ _ _ _ c.loop.invariant.walked _ _ c.end.ensures refl c.loop-test.false
