-- `text::Page::hex_digits` meets its contract. Assumes nothing.
use Rattle.text.proofs.Prints.{pages}
use Rattle.text.proofs.Page.hex_digits.Goals as goal

pub returns : goal.returns
returns c = pages _ _ _ _ c.store_hex-self.ensures
