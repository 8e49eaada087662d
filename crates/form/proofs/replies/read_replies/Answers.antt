use mathlib.Core.Path.{sym, ◌∙◌}
use native.Mathlib.Omega.{arith}
use lib.ListN.{length-take}
use Rattle.std.proofs.lemmas.List.{set-get_or}
use Rattle.form.proofs.Filling.{start, again, stop, end}
use Rattle.form.proofs.replies.read_replies.Goals as goal

pub loop-place-init : goal.loop-place-init
loop-place-init c = start _ _ _ _ _

pub returns-in_default : goal.returns-in_default
returns-in_default c = rw set-get_or (stop _ _ _ _ _ _ _ c.loop-place.invariant _ (sym c.read_most.ensures ∙ c.in_default.is))

pub loop-place-preserved : goal.loop-place-preserved
loop-place-preserved c = again _ _ _ _ c.loop-place.place-items _ _ _ c.loop-place.invariant _ _ (sym c.read_most.ensures ∙ c.in-Ok.is) (omega (arith, c.loop-place.auto.place-items, c.loop-place-test.true)) (omega (arith, c.min-most.ensures, c.loop-place-test.true, length-take c.min-most.result c.args.script.now))

pub returns : goal.returns
returns c = end _ _ _ _ _ _ _ c.loop-place.invariant (omega (arith, c.min-most.ensures, c.loop-place-test.false, length-take c.min-most.result c.args.script.now))
