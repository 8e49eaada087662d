use mathlib.Core.Path.{sym, ◌∙◌}
use Rattle.session.proofs.Walks.{again, ends, never}
use Rattle.session.proofs.ReadSteps.{lent_on, same_lent, ends_text, runs}
use Rattle.session.proofs.reading.run.Goals as goal

pub step-requires : goal.step-requires
step-requires c = runs _ _ c.in-Ok.call _ (sym c.read_call.ensures ∙ c.in-Ok.is)

pub loop-preserved : goal.loop-preserved
loop-preserved c = record {
  lent = lent_on _ _ _ c.loop.invariant.lent c.step.ensures.lent;
  walked = again _ _ _ _ _ _ _ _ _ _ _ _ c.loop.invariant.walked _ _ _ _ (sym c.read_call.ensures ∙ c.in-Ok.is) (same_lent _ _ c.loop.invariant.lent _ _ _ _ _ c.step.ensures.steps) c.loop-test.true;
}

pub returns-in_default : goal.returns-in_default
returns-in_default c = never _ _ _ _ _ _ _ _ _ _ _ _ c.loop.invariant.walked _ _ (sym c.read_call.ensures ∙ c.in_default.is) c.loop-test.true

pub returns : goal.returns
returns c = ends _ _ _ _ _ _ _ _ _ _ _ _ c.loop.invariant.walked _ _ c.reader_end.ensures (ends_text c.loop.r _ c.buffered.ensures) c.loop-test.false
