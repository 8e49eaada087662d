-- `line::newline::lines_length` meets its contract. Assumes nothing.
use borrow.Author.Tests.{eq-eqb, eqb-true}
use Rattle.line.proofs.Newlines.{found, missed}
use Rattle.line.proofs.newline.lines_length.Goals as goal

pub returns-in-Some : goal.returns-in-Some
returns-in-Some c =
    let last = c.in-Some.ensures in
    found _ _ last.0.high (eqb-true _ _ last.1) (λ k a b e. last.0.after k a b (eq-eqb _ _ e))

pub returns-in-None : goal.returns-in-None
returns-in-None c = missed _ (λ k a b e. c.in-None.ensures k a b (eq-eqb _ _ e))
