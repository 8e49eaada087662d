-- `line::linewriter::ends_line` meets its contract. Assumes nothing.
use borrow.Author.Tests.{eq-eqb, ne_eqb}
use Rattle.line.specs.Line.{ends_line}
use Rattle.line.proofs.linewriter.ends_line.Goals as goal

pub returns-then-held-eq0 : goal.returns-then-held-eq0
unfolding ends_line
returns-then-held-eq0 c = simp (eq-eqb _ _ c.if-held-eq0.true)

pub returns : goal.returns
unfolding ends_line
returns c = simp (ne_eqb _ _ c.if-held-eq0.false)
