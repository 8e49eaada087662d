-- `text::Page::say` meets its contract. Assumes nothing.
use native.Mathlib.Omega.{arith}
use Rattle.laws.proofs.Puts.{put_count}
use Rattle.text.proofs.Prints.{writes}
use Rattle.text.proofs.Page.say.Goals as goal

pub returns : goal.returns
returns c = writes _ _ _ _ (put_count _ _ _ _ _ _ c.copy.ensures (omega arith)) (omega arith)
