-- `text::Page::decimal` meets its contract. It calls itself on the tenth part: the measure is the number. Assumes nothing.
use Rattle.text.proofs.Page.+decimal.Given as goal

abbrev pub decreases-decimal : goal.decreases-decimal
decreases-decimal l = l.n
