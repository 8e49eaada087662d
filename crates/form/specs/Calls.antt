-- The calls of a session. Writers only: 0 `write` and 1 `write_all` with length and bytes, 2 `flush`; reader only: 3 `read` n,
-- 4 `peek` n, 5 `consume` n, 6 `seek_relative` with direction (0 on, 1 back) and size, 7 fill.
-- Assumes nothing.
use Rattle.std.specs.Prelude.{ℕ, zero, suc, ◌+◌, Bool, true, false, List, [], eqb, take, drop}
use Rattle.laws.specs.Pick.{pick}
use Rattle.card.specs.Limits.{bytes_most}
use Rattle.numbers.specs.Number.{Found, found, fault_at, number_most, length_most, after}
use Rattle.form.specs.declared.Call.{Call}
use Rattle.form.specs.declared.Call.TheVariants.{Write, WriteAll, Flush, Read, Peek, Consume, Seek, Fill}
use Rattle.form.specs.Lists.{Listed, listed, stopped, before}
use Rattle.form.specs.Replies.{word_most}

-- A call as the session asks for it. A seek is back where its first is true
pub data Asked : Type 0 where
  write : List ℕ → Asked
  write_all : List ℕ → Asked
  flush : Asked
  read : ℕ → Asked
  peek : ℕ → Asked
  consume : ℕ → Asked
  seek_relative : Bool → ℕ → Asked
  fill : Asked

-- what each case of the enum asks for; the bytes of a write are the session's, from a start on
abbrev pub asked : List ℕ → Call → Asked
asked bytes (Write start n) = write (take n (drop start bytes))
asked bytes (WriteAll start n) = write_all (take n (drop start bytes))
asked bytes Flush = flush
asked bytes (Read n) = read n
asked bytes (Peek n) = peek n
asked bytes (Consume n) = consume n
asked bytes (Seek back size) = seek_relative back size
asked bytes Fill = fill

-- the number of each, as document 01 gives it
abbrev pub call_number : Asked → ℕ
call_number (write bytes) = 0
call_number (write_all bytes) = 1
call_number flush = 2
call_number (read n) = 3
call_number (peek n) = 4
call_number (consume n) = 5
call_number (seek_relative back size) = 6
call_number fill = 7

-- Length and bytes: the length, and the place of its bytes. A length over 16,384 is a fault at the length, before its bytes.
-- Too few bytes: the input's length
unfoldable pub length_at : List ℕ → ℕ → Found ℕ
length_at bytes at = length_most bytes at bytes_most

-- what follows each call number
unfoldable pub write_at : List ℕ → ℕ → Found Call
write_at bytes at = after (length_at bytes at) fault_at (λ n start. found (Write start n) (start + n))

unfoldable pub write_all_at : List ℕ → ℕ → Found Call
write_all_at bytes at = after (length_at bytes at) fault_at (λ n start. found (WriteAll start n) (start + n))

unfoldable pub read_at : List ℕ → ℕ → Found Call
read_at bytes at = after (number_most bytes at bytes_most) fault_at (λ n next. found (Read n) next)

unfoldable pub peek_at : List ℕ → ℕ → Found Call
peek_at bytes at = after (number_most bytes at word_most) fault_at (λ n next. found (Peek n) next)

unfoldable pub consume_at : List ℕ → ℕ → Found Call
consume_at bytes at = after (number_most bytes at word_most) fault_at (λ n next. found (Consume n) next)

-- Size 0 after direction 1 is malformed: at the size
unfoldable pub size_at : List ℕ → ℕ → ℕ → Found Call
size_at bytes direction at =
    after (number_most bytes at word_most) fault_at (λ size next.
    pick (eqb direction 0) (found (Seek false size) next)
    (pick (eqb size 0) (fault_at at) (found (Seek true size) next)))

unfoldable pub seek_at : List ℕ → ℕ → Found Call
seek_at bytes at = after (number_most bytes at 1) fault_at (λ direction next. size_at bytes direction next)

-- Writers only. A number that the kind does not have: at the call number, which stands at place `at`
unfoldable pub writer_call : List ℕ → ℕ → ℕ → ℕ → Found Call
writer_call bytes at number next =
    pick (eqb number 0) (write_at bytes next)
    (pick (eqb number 1) (write_all_at bytes next)
    (pick (eqb number 2) (found Flush next)
    (fault_at at)))

-- Reader only
unfoldable pub reader_call : List ℕ → ℕ → ℕ → ℕ → Found Call
reader_call bytes at number next =
    pick (eqb number 3) (read_at bytes next)
    (pick (eqb number 4) (peek_at bytes next)
    (pick (eqb number 5) (consume_at bytes next)
    (pick (eqb number 6) (seek_at bytes next)
    (pick (eqb number 7) (found Fill next)
    (fault_at at)))))

-- The call at a place of a session of this kind: 2 is the reader
unfoldable pub call_at : List ℕ → ℕ → ℕ → Found Call
call_at bytes kind at =
    after (number_most bytes at 7) fault_at (λ number next.
    pick (eqb kind 2) (reader_call bytes at number next) (writer_call bytes at number next))

-- So many calls from a place on
unfoldable pub calls_from : List ℕ → ℕ → ℕ → ℕ → Listed Asked
calls_from bytes kind zero at = listed [] at
calls_from bytes kind (suc left) at = after (call_at bytes kind at) stopped (λ call next. before (asked bytes call) (calls_from bytes kind left next))
