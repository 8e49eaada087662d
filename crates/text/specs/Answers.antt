-- Answers as they are printed.
-- Assumes nothing.
use Rattle.std.specs.Prelude.{ℕ, List, [], ◌∷◌, ◌++◌, eqb}
use Rattle.laws.specs.Pick.{pick}
use Rattle.card.specs.Answers.{Said, Answer, said}
use Rattle.text.specs.Words.{ascii}
use Rattle.text.specs.Numbers.{decimal_of}

-- the word of an answer, by its number
unfoldable pub word_of : ℕ → List ℕ
word_of number =
    pick (eqb number 0) (ascii "ok")
    (pick (eqb number 1) (ascii "interrupted")
    (pick (eqb number 2) (ascii "zero")
    (pick (eqb number 3) (ascii "error")
    (pick (eqb number 4) (ascii "whole") (ascii "refused")))))

-- its values: the count after ok, the code of an error, the number of a refusal
unfoldable pub values_of : List ℕ → List ℕ
values_of [] = []
values_of (value ∷ rest) = ascii " " ++ decimal_of value ++ values_of rest

-- An answer by what it says: its word, and its values each after a space. Where it has none, the word alone
unfoldable pub said_of : Said → List ℕ
said_of [] = []
said_of (number ∷ values) = word_of number ++ values_of values

unfoldable pub answer_of : Answer → List ℕ
answer_of answer = said_of (said answer)
