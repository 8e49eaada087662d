-- Sessions worked out by hand, computed by the definition. Bytes are in hex.
-- Assumes nothing.
use mathlib.Core.Path.{◌≡◌, refl}
use mathlib.Core.Bool.{true, false}
use mathlib.Core.List.{List, [], ◌∷◌}
use Prim.Native.Nat.{ℕ}
use Rattle.numbers.specs.Number.{ended, groups_from, number_of, number, within, number_most, length_most}
use Rattle.form.specs.Replies.{replies_from}
use Rattle.form.specs.Calls.{write, write_all, flush, read, peek, consume, seek_relative, fill, length_at, write_at, write_all_at, read_at, peek_at, consume_at, size_at, seek_at, writer_call, reader_call, call_at, calls_from}
use Rattle.form.specs.Session.{Parsed, fault, traced, session, stock_of, calls_of, count_at, stock_at, script_at, replies_at, capacity_at, session_of}

pub record Row : Type 0 where
  pub bytes : List ℕ
  pub says : Parsed

-- Document 01's session: a writer of capacity 4, replies 1 and error 5, write abc, flush. A line writer's write_all. A reader
-- with stock abc and each of its calls. A trace. Then the faults: nothing at all, a kind above 3, a capacity past its limit by
-- one, a cut number, a reply count past its limit, a reply of five bytes that is not below 2^32, a stock over 16,384, a call
-- count past its limit, a reader's call of a writer, a writer's of a reader, a call number that no kind has, a write with too
-- few bytes and one over 16,384, a read over 16,384, a direction above 1, size 0 after direction 1, a surplus byte.
abbrev pub rows : List Row
rows =
    record {
      bytes = 0x00 ∷ 0x04 ∷ 0x02 ∷ 0x01 ∷ 0x85 ∷ 0x80 ∷ 0x04 ∷ 0x02 ∷ 0x00 ∷ 0x03 ∷ 0x61 ∷ 0x62 ∷ 0x63 ∷ 0x02 ∷ [];
      says =
          session (record { kind = 0; capacity = 4; replies = 2; script = 3; stock = 7; length = 0; count = 2; first = 8 })
          (1 ∷ 65541 ∷ []) [] (write (0x61 ∷ 0x62 ∷ 0x63 ∷ []) ∷ flush ∷ []);
    }
    ∷ record {
      bytes = 0x01 ∷ 0x00 ∷ 0x00 ∷ 0x01 ∷ 0x01 ∷ 0x01 ∷ 0x0a ∷ [];
      says =
          session (record { kind = 1; capacity = 0; replies = 0; script = 3; stock = 3; length = 0; count = 1; first = 4 })
          [] [] (write_all (0x0a ∷ []) ∷ []);
    }
    ∷ record {
      bytes = 0x02 ∷ 0x04 ∷ 0x01 ∷ 0x09 ∷ 0x03 ∷ 0x61 ∷ 0x62 ∷ 0x63 ∷ 0x06 ∷ 0x03 ∷ 0x02 ∷ 0x04 ∷ 0x01 ∷ 0x05 ∷ 0x00 ∷ 0x06 ∷ 0x01 ∷ 0x02 ∷ 0x06 ∷ 0x00 ∷ 0x00 ∷ 0x07 ∷ [];
      says =
          session (record { kind = 2; capacity = 4; replies = 1; script = 3; stock = 5; length = 3; count = 6; first = 9 })
          (9 ∷ []) (0x61 ∷ 0x62 ∷ 0x63 ∷ []) (read 2 ∷ peek 1 ∷ consume 0 ∷ seek_relative true 2 ∷ seek_relative false 0 ∷ fill ∷ []);
    }
    ∷ record { bytes = 0x03 ∷ 0x04 ∷ 0x00 ∷ []; says = traced 1 (0x04 ∷ 0x00 ∷ []) }
    ∷ record { bytes = []; says = fault 0 }
    ∷ record { bytes = 0x04 ∷ 0x00 ∷ []; says = fault 0 }
    ∷ record { bytes = 0x00 ∷ 0x81 ∷ 0x08 ∷ 0x00 ∷ 0x00 ∷ []; says = fault 1 }
    ∷ record { bytes = 0x00 ∷ 0xff ∷ 0xff ∷ []; says = fault 3 }
    ∷ record { bytes = 0x00 ∷ 0x04 ∷ 0x81 ∷ 0x20 ∷ []; says = fault 2 }
    ∷ record { bytes = 0x00 ∷ 0x04 ∷ 0x01 ∷ 0x80 ∷ 0x80 ∷ 0x80 ∷ 0x80 ∷ 0x10 ∷ []; says = fault 3 }
    ∷ record { bytes = 0x02 ∷ 0x04 ∷ 0x00 ∷ 0x81 ∷ 0x80 ∷ 0x01 ∷ []; says = fault 3 }
    ∷ record { bytes = 0x00 ∷ 0x04 ∷ 0x00 ∷ 0x81 ∷ 0x08 ∷ []; says = fault 3 }
    ∷ record { bytes = 0x00 ∷ 0x04 ∷ 0x00 ∷ 0x01 ∷ 0x07 ∷ []; says = fault 4 }
    ∷ record { bytes = 0x02 ∷ 0x04 ∷ 0x00 ∷ 0x00 ∷ 0x01 ∷ 0x02 ∷ []; says = fault 5 }
    ∷ record { bytes = 0x02 ∷ 0x04 ∷ 0x00 ∷ 0x00 ∷ 0x01 ∷ 0x08 ∷ []; says = fault 5 }
    ∷ record { bytes = 0x00 ∷ 0x04 ∷ 0x00 ∷ 0x01 ∷ 0x00 ∷ 0x03 ∷ 0x61 ∷ []; says = fault 7 }
    ∷ record { bytes = 0x00 ∷ 0x04 ∷ 0x00 ∷ 0x01 ∷ 0x00 ∷ 0x81 ∷ 0x80 ∷ 0x01 ∷ []; says = fault 5 }
    ∷ record { bytes = 0x02 ∷ 0x04 ∷ 0x00 ∷ 0x00 ∷ 0x01 ∷ 0x03 ∷ 0x81 ∷ 0x80 ∷ 0x01 ∷ []; says = fault 6 }
    ∷ record { bytes = 0x02 ∷ 0x04 ∷ 0x00 ∷ 0x00 ∷ 0x01 ∷ 0x06 ∷ 0x02 ∷ 0x01 ∷ []; says = fault 6 }
    ∷ record { bytes = 0x02 ∷ 0x04 ∷ 0x00 ∷ 0x00 ∷ 0x01 ∷ 0x06 ∷ 0x01 ∷ 0x00 ∷ []; says = fault 7 }
    ∷ record { bytes = 0x00 ∷ 0x04 ∷ 0x00 ∷ 0x01 ∷ 0x02 ∷ 0x02 ∷ []; says = fault 5 }
    ∷ []

-- every row as it is said
abbrev pub Hold : List Row → Type 0
Hold [] = Unit
Hold (row ∷ rest) = (session_of row.bytes ≡ row.says) × Hold rest

pub rows_hold : Hold rows
unfolding session_of capacity_at replies_at script_at stock_at count_at calls_of stock_of calls_from call_at reader_call writer_call seek_at size_at consume_at peek_at read_at write_all_at write_at length_at replies_from length_most number_most within number number_of groups_from ended
rows_hold = (refl, (refl, (refl, (refl, (refl, (refl, (refl, (refl, (refl, (refl, (refl, (refl, (refl, (refl, (refl, (refl, (refl, (refl, (refl, (refl, (refl, tt)))))))))))))))))))))
