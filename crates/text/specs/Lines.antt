-- The lines that the bench program prints. Every line ends with a newline.
-- Assumes nothing.
use Rattle.std.specs.Prelude.{ℕ, List, ◌++◌}
use Rattle.card.specs.Answers.{Said}
use Rattle.text.specs.declared.Name.{Name}
use Rattle.text.specs.Words.{ascii, name_of}
use Rattle.text.specs.Numbers.{with_number, with_hex}
use Rattle.text.specs.Answers.{said_of}

-- `session K capacity C`, the first line: the session's kind, and its capacity
unfoldable pub session_line : ℕ → ℕ → List ℕ
session_line kind capacity = with_number "session " kind ++ with_number " capacity " capacity ++ ascii "\n"

-- `NAME ANSWER`: a call's line opens with the call's name, and then its answer
unfoldable pub call_of : Name → Said → List ℕ
call_of name answer = name_of name ++ ascii " " ++ said_of answer

-- ` calls C`: how many device calls a writer's call made
unfoldable pub writer_calls : ℕ → List ℕ
writer_calls calls = with_number " calls " calls

-- `NAME ANSWER calls C held H out O`: a writer's call, with the counts of bytes held and out after it
unfoldable pub writer_line : Name → Said → ℕ → ℕ → ℕ → List ℕ
writer_line name answer calls held out =
    call_of name answer ++ writer_calls calls ++ with_number " held " held ++ with_number " out " out ++ ascii "\n"

-- `NAME ANSWER calls C pos P filled F bytes HEX`: a reader's call, with the bytes read or shown
unfoldable pub reader_line : Name → Said → ℕ → ℕ → ℕ → List ℕ → List ℕ
reader_line name answer calls pos filled bytes =
    call_of name answer
    ++ with_number " calls " calls
    ++ with_number " pos " pos
    ++ with_number " filled " filled
    ++ with_hex " bytes " bytes
    ++ ascii "\n"

-- `end held HEX out HEX`, a writer's last line: the bytes that it holds, and those that are out
unfoldable pub writer_end : List ℕ → List ℕ → List ℕ
writer_end held out = with_hex "end held " held ++ with_hex " out " out ++ ascii "\n"

-- `end held HEX taken N`, a reader's last line: the bytes that it holds, and how many of the stock are taken
unfoldable pub reader_end : List ℕ → ℕ → List ℕ
reader_end held taken = with_hex "end held " held ++ with_number " taken " taken ++ ascii "\n"

-- Kind 3 prints one line: `judge possible`, `judge impossible` or `judge refused 7 at P`
unfoldable pub judge_possible : List ℕ
judge_possible = ascii "judge possible\n"

unfoldable pub judge_impossible : List ℕ
judge_impossible = ascii "judge impossible\n"

unfoldable pub judge_refused : ℕ → List ℕ
judge_refused place = with_number "judge refused 7 at " place ++ ascii "\n"

-- A bad session prints only `refused 6 at P`
unfoldable pub session_refused : ℕ → List ℕ
session_refused place = with_number "refused 6 at " place ++ ascii "\n"
