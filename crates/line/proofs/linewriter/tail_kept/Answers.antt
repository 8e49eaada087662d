-- `line::linewriter::tail_kept` meets its contract. Assumes nothing.
use borrow.Author.Tests.{eq-eqb, ne_eqb, le-leb, lt-leb}
use Rattle.line.specs.Line.{tail_kept}
use Rattle.line.proofs.Newlines.{tail_window}
use Rattle.line.proofs.linewriter.tail_kept.Goals as goal

pub returns-then-f-eq0 : goal.returns-then-f-eq0
unfolding tail_kept
returns-then-f-eq0 c = simp (eq-eqb _ _ c.if-f-eq0.true)

pub returns-then-capacity-slice : goal.returns-then-capacity-slice
unfolding tail_kept
returns-then-capacity-slice c = simp (ne_eqb _ _ c.if-f-eq0.false, le-leb _ _ c.if-e-f.true, le-leb _ _ c.if-capacity-slice.true)

pub returns-then-e-f : goal.returns-then-e-f
unfolding tail_kept
returns-then-e-f c = simp (ne_eqb _ _ c.if-f-eq0.false, le-leb _ _ c.if-e-f.true, lt-leb _ _ c.if-capacity-slice.false)

pub returns-then-e-f-2 : goal.returns-then-e-f-2
unfolding tail_kept
returns-then-e-f-2 c = simp (ne_eqb _ _ c.if-f-eq0.false, lt-leb _ _ c.if-e-f.false, le-leb _ _ c.if-e-f-2.true)

pub returns : goal.returns
returns c = tail_window _ _ _ _ _ c.window_kept.ensures c.if-f-eq0.false c.if-e-f.false c.if-e-f-2.false
