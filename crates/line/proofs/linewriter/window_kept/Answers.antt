-- `line::linewriter::window_kept` meets its contract. Assumes nothing.
use mathlib.Core.Path.{refl}
use borrow.Author.Tests.{eq-eqb, ne_eqb}
use Rattle.line.specs.Line.{window}
use Rattle.line.proofs.linewriter.window_kept.Goals as goal

pub returns-then-lines-eq0 : goal.returns-then-lines-eq0
unfolding window
returns-then-lines-eq0 c = rw (← c.lines_length-lines.ensures) (rw (eq-eqb _ _ c.if-lines-eq0.true) refl)

pub returns : goal.returns
unfolding window
returns c = rw (← c.lines_length-lines.ensures) (rw (ne_eqb _ _ c.if-lines-eq0.false) refl)
