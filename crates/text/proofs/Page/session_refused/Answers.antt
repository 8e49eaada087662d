-- `text::Page::session_refused` meets its contract. Assumes nothing.
use Rattle.text.specs.Lines.{session_refused}
use Rattle.text.proofs.Prints.{then}
use Rattle.text.proofs.Page.session_refused.Goals as goal

pub returns : goal.returns
unfolding session_refused
returns c = rw (c.say.ensures, c.say_number.ensures) (then _ _ _)
