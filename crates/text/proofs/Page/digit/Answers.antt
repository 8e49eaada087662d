-- `text::Page::digit` meets its contract. Assumes nothing.
use Rattle.text.proofs.Prints.{pages}
use Rattle.text.proofs.Page.digit.Goals as goal

pub returns : goal.returns
returns c = pages _ _ _ _ c.store_digit-self.ensures
