-- An answer's text, for each answer.
-- Assumes nothing.
use mathlib.Core.Path.{◌≡◌, refl}
use mathlib.Core.List.{◌++◌, append-nil}
use Prim.Native.Nat.{ℕ}
use Rattle.std.specs.Prelude.{Ok, Err, Some, None}
use Rattle.card.specs.declared.Failure.{Failure}
use Rattle.card.specs.Answers.{failed}
use Rattle.card.specs.declared.Failure.TheVariants.{Interrupted, Zero, Whole, Error, Refused}
use Rattle.text.specs.Words.{ascii}
use Rattle.text.specs.Numbers.{decimal_of}
use Rattle.text.specs.Answers.{word_of, values_of, said_of, answer_of}

pub said_ok : (n : ℕ) → answer_of (Ok (Some n)) ≡ ascii "ok " ++ decimal_of n
unfolding answer_of said_of word_of values_of
said_ok n = simp append-nil

pub said_done : answer_of (Ok None) ≡ ascii "ok"
unfolding answer_of said_of word_of values_of
said_done = refl

pub said_interrupted : said_of (failed Interrupted) ≡ ascii "interrupted"
unfolding said_of word_of values_of
said_interrupted = refl

pub said_zero : said_of (failed Zero) ≡ ascii "zero"
unfolding said_of word_of values_of
said_zero = refl

pub said_whole : said_of (failed Whole) ≡ ascii "whole"
unfolding said_of word_of values_of
said_whole = refl

pub said_error : (code : ℕ) → said_of (failed (Error code)) ≡ ascii "error " ++ decimal_of code
unfolding said_of word_of values_of
said_error code = simp append-nil

pub said_refused : (number : ℕ) → said_of (failed (Refused number)) ≡ ascii "refused " ++ decimal_of number
unfolding said_of word_of values_of
said_refused number = simp append-nil

pub ruleset failures = (said_interrupted, said_zero, said_whole, said_error, said_refused)

-- what an answer that is none says
pub said_failed : (f : Failure) → answer_of (Err f) ≡ said_of (failed f)
unfolding answer_of
said_failed f = refl

pub ruleset answers = (said_ok, said_done, said_failed)
