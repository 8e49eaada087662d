-- `reader::check_peek` meets its contract. Assumes nothing.
use borrow.Author.Tests.{lt-ltb, le-ltb}
use Rattle.reader.specs.Reader.{peek_refusal}
use Rattle.reader.proofs.check_peek.Goals as goal

pub returns-then-capacity-n : goal.returns-then-capacity-n
unfolding peek_refusal
returns-then-capacity-n c = simp (lt-ltb _ _ c.if-capacity-n.true)

pub returns : goal.returns
unfolding peek_refusal
returns c = simp (le-ltb _ _ c.if-capacity-n.false)
