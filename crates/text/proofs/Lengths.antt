-- How long the texts are at most: the room that a whole line wants.
-- Assumes nothing.
use mathlib.Core.Path.{◌≡◌, refl}
use mathlib.Core.List.{List, [], ◌∷◌}
use Prim.Native.Nat.{ℕ, zero, suc, ◌+◌, ◌*◌, ◌/◌, ◌≤◌}
use native.Mathlib.Omega.{arith}
use lib.ListN.{length, length-append}
use Rattle.std.specs.Prelude.{Ok, Err, Some, None}
use Rattle.card.specs.declared.Failure.TheVariants.{Interrupted, Zero, Whole, Error, Refused}
use Rattle.text.specs.declared.Name.{Name}
use Rattle.text.specs.declared.Name.TheVariants.{Write, WriteAll, Flush, Read, Peek, Consume, SeekRelative, Fill}
use Rattle.text.specs.Words.{name_of}
use Rattle.text.specs.Numbers.{digits, decimal_of, hex_digits, hex_of}
use Rattle.text.specs.Answers.{said_of, answer_of}
use Rattle.card.specs.declared.Failure.{Failure}
use Rattle.card.specs.Answers.{Answer, said, failed}
use Rattle.text.specs.Lines.{session_line, call_of, writer_calls, writer_line, reader_line, writer_end, reader_end, judge_refused, session_refused}
use Rattle.text.proofs.Decimals.{few, many, by_ten}
use Rattle.text.proofs.Saids.{said_ok, said_done, said_interrupted, said_zero, said_whole, said_error, said_refused, said_failed}

digits_most : (k n : ℕ) → length (digits k n) ≤ k
unfolding digits
digits_most zero n = omega arith
digits_most (suc k) n =
    by_ten n
    (λ l. rw (few k n l) (omega arith))
    (λ m. rw (many k n m) (simp length-append (omega (arith, digits_most k (n / 10)))))

pub decimal_most : (n : ℕ) → length (decimal_of n) ≤ 20
unfolding decimal_of
decimal_most n = digits_most 20 n

pub length-hex_digits : (shown : List ℕ) → length (hex_digits shown) ≡ 2 * length shown
unfolding hex_digits
length-hex_digits [] = refl
length-hex_digits (b ∷ rest) = omega (arith, length-hex_digits rest)

pub hex_most : (shown : List ℕ) → length (hex_of shown) ≤ 2 * length shown + 1
unfolding hex_of
hex_most [] = omega arith
hex_most (b ∷ rest) = omega (arith, length-hex_digits (b ∷ rest))

pub name_most : (name : Name) → length (name_of name) ≤ 13
name_most Write = omega arith
name_most WriteAll = omega arith
name_most Flush = omega arith
name_most Read = omega arith
name_most Peek = omega arith
name_most Consume = omega arith
name_most SeekRelative = omega arith
name_most Fill = omega arith

failed_most : (f : Failure) → length (said_of (failed f)) ≤ 28
failed_most Interrupted = rw said_interrupted (omega arith)
failed_most Zero = rw said_zero (omega arith)
failed_most Whole = rw said_whole (omega arith)
failed_most (Error code) = rw (said_error code) (omega (arith, decimal_most code))
failed_most (Refused number) = rw (said_refused number) (omega (arith, decimal_most number))

pub answer_most : (answer : Answer) → length (answer_of answer) ≤ 28
answer_most (Ok (Some n)) = rw (said_ok n) (omega (arith, decimal_most n))
answer_most (Ok None) = rw said_done (omega arith)
answer_most (Err f) = rw (said_failed f) (failed_most f)

pub session_most_lem : (kind capacity : ℕ) → length (session_line kind capacity) ≤ 59
unfolding session_line
session_most_lem kind capacity = simp length-append (omega (arith, decimal_most kind, decimal_most capacity))

call_most : (name : Name) (answer : Answer) → length (call_of name (said answer)) ≤ 42
unfolding call_of answer_of
call_most name answer = simp length-append (omega (arith, name_most name, answer_most answer))

writer_calls_most : (calls : ℕ) → length (writer_calls calls) ≤ 27
unfolding writer_calls
writer_calls_most calls = simp length-append (omega (arith, decimal_most calls))

pub writer_most : (name : Name) (answer : Answer) (calls held out : ℕ) → length (writer_line name (said answer) calls held out) ≤ 121
unfolding writer_line
writer_most name answer calls held out = simp length-append (omega (arith, call_most name answer, writer_calls_most calls, decimal_most held, decimal_most out))

pub reader_most : (name : Name) (answer : Answer) (calls pos filled : ℕ) (bytes : List ℕ) → length (reader_line name (said answer) calls pos filled bytes) ≤ 131 + 2 * length bytes
unfolding reader_line
reader_most name answer calls pos filled bytes = simp length-append (omega (arith, call_most name answer, decimal_most calls, decimal_most pos, decimal_most filled, hex_most bytes))

pub writer_end_most : (held out : List ℕ) → length (writer_end held out) ≤ 17 + 2 * length held + 2 * length out
unfolding writer_end
writer_end_most held out = simp length-append (omega (arith, hex_most held, hex_most out))

pub reader_end_most : (held : List ℕ) (taken : ℕ) → length (reader_end held taken) ≤ 38 + 2 * length held
unfolding reader_end
reader_end_most held taken = simp length-append (omega (arith, hex_most held, decimal_most taken))

pub judge_refused_most : (place : ℕ) → length (judge_refused place) ≤ 40
unfolding judge_refused
judge_refused_most place = simp length-append (omega (arith, decimal_most place))

pub session_refused_most : (place : ℕ) → length (session_refused place) ≤ 34
unfolding session_refused
session_refused_most place = simp length-append (omega (arith, decimal_most place))
