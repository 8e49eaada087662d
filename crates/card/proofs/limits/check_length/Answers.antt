-- `card::limits::check_length` meets its contract. Assumes nothing.
use borrow.Author.Tests.{le-ltb, lt-ltb}
use Rattle.card.specs.Limits.{length_refusal}
use Rattle.card.proofs.limits.check_length.Goals as goal

pub returns-then-n-gt-BYTES_MOST : goal.returns-then-n-gt-BYTES_MOST
unfolding length_refusal
returns-then-n-gt-BYTES_MOST c = simp (lt-ltb _ _ c.if-n-gt-BYTES_MOST.true)

pub returns : goal.returns
unfolding length_refusal
returns c = simp (le-ltb _ _ c.if-n-gt-BYTES_MOST.false)
