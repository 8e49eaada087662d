-- `reader::State::consume` meets its contract. Assumes nothing.
use mathlib.Core.Path.{refl}
use Rattle.reader.specs.Reader.{consume}
use Rattle.reader.proofs.Refusals.{answered_so, checked, fails_with, refused_first}
use Rattle.reader.proofs.State.consume.Goals as goal

pub returns-in_err-check : goal.returns-in_err-check
unfolding consume
returns-in_err-check c = λ storage script stock q. rw (fails_with c.from_residual.ensures.1) (refused_first _ _ _ _ _ _ (checked _ _ _ c.args.self _ _ c.in_err-check.ensures q))

pub returns : goal.returns
unfolding consume
returns c = λ storage script stock q. answered_so _ _ _ _ _ _ (checked _ _ _ c.args.self _ _ c.in_ok-check.ensures q) refl (rw c.consumed.ensures)
