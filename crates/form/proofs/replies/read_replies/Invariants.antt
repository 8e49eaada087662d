-- `form::replies::read_replies` meets its contract. The loop's invariant is `Filled`: the first replies stand in the script, and the
-- others are read from here on. Assumes nothing.
use mathlib.Core.List.{◌++◌}
use lib.ListN.{drop}
use Rattle.form.proofs.Filling.{Filled}
use Rattle.form.proofs.replies.read_replies.Given as goal

abbrev pub invariant-loop-place : goal.invariant-loop-place
invariant-loop-place l = Filled l.session l.count l.first l.fn.script (l.place-items ++ drop l.most l.fn.script) l.place-index l.at
