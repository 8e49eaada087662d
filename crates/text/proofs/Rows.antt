-- Lines as document 01 shows them, computed by the definitions.
-- Assumes nothing.
use mathlib.Core.Path.{◌≡◌, refl}
use mathlib.Core.List.{List, [], ◌∷◌, ◌++◌}
use Prim.Native.Nat.{ℕ, ◌^◌, ◌-◌}
use Prim.Native.String.{String}
use Rattle.std.specs.Prelude.{Ok, Err, Some, None}
use Rattle.card.specs.declared.Failure.TheVariants.{Interrupted, Zero, Whole, Error, Refused}
use Rattle.text.specs.declared.Name.TheVariants.{Write, WriteAll, Flush, Read, Peek, Consume, SeekRelative, Fill}
use Rattle.text.specs.Words.{ascii}
use Rattle.text.specs.Numbers.{digits, decimal_of, hex_digits, hex_of}
use Rattle.text.specs.Answers.{word_of, values_of, said_of, answer_of}
use Rattle.card.specs.Answers.{said}
use Rattle.text.specs.Lines.{session_line, call_of, writer_calls, writer_line, reader_line, writer_end, reader_end, judge_possible, judge_impossible, judge_refused, session_refused}

-- the document's session, whole
pub example :
    session_line 0 4
    ++ writer_line Write (said (Ok (Some 3))) 0 3 0
    ++ writer_line Flush (said (Err (Error 5))) 2 2 1
    ++ writer_end (0x62 ∷ 0x63 ∷ []) (0x61 ∷ [])
    ≡ ascii "session 0 capacity 4\nwrite ok 3 calls 0 held 3 out 0\nflush error 5 calls 2 held 2 out 1\nend held 6263 out 61\n"
unfolding session_line writer_line writer_calls writer_end call_of answer_of said_of word_of values_of decimal_of digits hex_of hex_digits
example = refl

-- a text, and what it must be
pub record Row : Type 0 where
  pub text : List ℕ
  pub shown : String

abbrev pub rows : List Row
rows =
    record { text = reader_line Fill (said (Err (Error 0))) 1 0 0 []; shown = "fill error 0 calls 1 pos 0 filled 0 bytes -\n" }
    ∷ record { text = reader_line Consume (said (Ok None)) 0 0 0 []; shown = "consume ok calls 0 pos 0 filled 0 bytes -\n" }
    ∷ record { text = reader_line Read (said (Ok (Some 2))) 1 2 3 (0x61 ∷ 0x62 ∷ []); shown = "read ok 2 calls 1 pos 2 filled 3 bytes 6162\n" }
    ∷ record { text = reader_line Peek (said (Err (Refused 3))) 0 0 2 []; shown = "peek refused 3 calls 0 pos 0 filled 2 bytes -\n" }
    ∷ record { text = reader_line SeekRelative (said (Ok None)) 0 3 3 []; shown = "seek_relative ok calls 0 pos 3 filled 3 bytes -\n" }
    ∷ record { text = writer_line WriteAll (said (Err Whole)) 10 1024 16384; shown = "write_all whole calls 10 held 1024 out 16384\n" }
    ∷ record { text = writer_line Write (said (Err Interrupted)) 1 0 0; shown = "write interrupted calls 1 held 0 out 0\n" }
    ∷ record { text = writer_line Flush (said (Err Zero)) 2 1 2; shown = "flush zero calls 2 held 1 out 2\n" }
    ∷ record { text = writer_end [] (0x00 ∷ 0x0f ∷ 0xa0 ∷ 0xff ∷ []); shown = "end held - out 000fa0ff\n" }
    ∷ record { text = reader_end (0x63 ∷ []) 5; shown = "end held 63 taken 5\n" }
    ∷ record { text = judge_possible; shown = "judge possible\n" }
    ∷ record { text = judge_impossible; shown = "judge impossible\n" }
    ∷ record { text = judge_refused 0; shown = "judge refused 7 at 0\n" }
    ∷ record { text = session_refused 32768; shown = "refused 6 at 32768\n" }
    ∷ record { text = decimal_of (2 ^ 64 - 1); shown = "18446744073709551615" }
    ∷ []

-- every row as it is said
abbrev pub Hold : List Row → Type 0
Hold [] = Unit
Hold (row ∷ rest) = (row.text ≡ ascii row.shown) × Hold rest

pub rows_hold : Hold rows
unfolding writer_line writer_calls reader_line writer_end reader_end call_of answer_of said_of word_of values_of decimal_of digits hex_of hex_digits judge_possible judge_impossible judge_refused session_refused
rows_hold = (refl, (refl, (refl, (refl, (refl, (refl, (refl, (refl, (refl, (refl, (refl, (refl, (refl, (refl, (refl, tt)))))))))))))))
