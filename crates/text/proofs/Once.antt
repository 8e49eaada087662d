-- No second answer meets a promise of this crate: each gives the page after the text, whole.
-- Assumes nothing.
use mathlib.Core.Path.{◌≡◌, sym, ◌∙◌}
use mathlib.Core.List.{List, ◌++◌}
use Prim.Native.Nat.{ℕ}
use Rattle.text.specs.declared.Name.{Name}
use Rattle.text.specs.declared.Page.{Page}
use Rattle.text.specs.Printed.{written}
use Rattle.text.specs.Words.{name_of}
use Rattle.text.specs.Numbers.{decimal_of, hex_of}
use Rattle.text.specs.Answers.{answer_of}
use Rattle.card.specs.Answers.{Answer, said}
use Rattle.text.specs.Lines.{session_line, writer_line, reader_line, writer_end, reader_end, judge_possible, judge_impossible, judge_refused, session_refused}

-- what two functions that print the same text on the same page leave is the same
abbrev pub Once : List ℕ → Type 0
Once text = (page p q : Page) → p ≡ written page text → q ≡ written page text → p ≡ q

once : (text : List ℕ) → Once text
once text page p q e f = e ∙ sym f

pub say_once : (words : List ℕ) → Once words
say_once words = once words

pub decimal_once : (n : ℕ) → Once (decimal_of n)
decimal_once n = once (decimal_of n)

pub hex_once : (shown : List ℕ) → Once (hex_of shown)
hex_once shown = once (hex_of shown)

pub say_number_once : (words : List ℕ) (n : ℕ) → Once (words ++ decimal_of n)
say_number_once words n = once (words ++ decimal_of n)

pub say_hex_once : (words shown : List ℕ) → Once (words ++ hex_of shown)
say_hex_once words shown = once (words ++ hex_of shown)

pub name_once : (name : Name) → Once (name_of name)
name_once name = once (name_of name)

pub answer_once : (answer : Answer) → Once (answer_of answer)
answer_once answer = once (answer_of answer)

pub session_once : (kind capacity : ℕ) → Once (session_line kind capacity)
session_once kind capacity = once (session_line kind capacity)

pub writer_once : (name : Name) (answer : Answer) (calls held out : ℕ) → Once (writer_line name (said answer) calls held out)
writer_once name answer calls held out = once (writer_line name (said answer) calls held out)

pub reader_once : (name : Name) (answer : Answer) (calls pos filled : ℕ) (bytes : List ℕ) → Once (reader_line name (said answer) calls pos filled bytes)
reader_once name answer calls pos filled bytes = once (reader_line name (said answer) calls pos filled bytes)

pub writer_end_once : (held out : List ℕ) → Once (writer_end held out)
writer_end_once held out = once (writer_end held out)

pub reader_end_once : (held : List ℕ) (taken : ℕ) → Once (reader_end held taken)
reader_end_once held taken = once (reader_end held taken)

pub judge_possible_once : Once judge_possible
judge_possible_once = once judge_possible

pub judge_impossible_once : Once judge_impossible
judge_impossible_once = once judge_impossible

pub judge_refused_once : (place : ℕ) → Once (judge_refused place)
judge_refused_once place = once (judge_refused place)

pub session_refused_once : (place : ℕ) → Once (session_refused place)
session_refused_once place = once (session_refused place)
