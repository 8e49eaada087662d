-- `text::Page::judge_refused` meets its contract. Assumes nothing.
use Rattle.text.specs.Lines.{judge_refused}
use Rattle.text.proofs.Prints.{then}
use Rattle.text.proofs.Page.judge_refused.Goals as goal

pub returns : goal.returns
unfolding judge_refused
returns c = rw (c.say.ensures, c.say_number.ensures) (then _ _ _)
