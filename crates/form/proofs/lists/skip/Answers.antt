use Rattle.form.proofs.Skipping.{again}
use Rattle.form.proofs.lists.skip.Goals as goal

pub loop-preserved : goal.loop-preserved
loop-preserved g c = again _ _ _ _ _ c.loop.invariant _ _ c.in_ok-next.ensures c.loop-test.true
