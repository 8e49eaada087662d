-- Traces worked out by hand, computed by the definition. Bytes are in hex.
-- Assumes nothing.
use mathlib.Core.Path.{◌≡◌, refl}
use mathlib.Core.List.{List, [], ◌∷◌}
use Prim.Native.Nat.{ℕ}
use Rattle.card.specs.Answers.{ok, error}
use Rattle.numbers.specs.Number.{ended, groups_from, number_of, number, within, number_most, length_most}
use Rattle.trace.specs.Claims.{ok_at, error_at, claim_of, claim_at}
use Rattle.trace.specs.Calls.{wrote, flushed, traced, write_at, call_at}
use Rattle.trace.specs.Trace.{Parsed, fault, trace, card_at, calls_from, count_at, trace_of}

pub record Row : Type 0 where
  pub bytes : List ℕ
  pub says : Parsed

-- Capacity 4: write abc ok 3, flush error 5, card ab. The same with a surplus byte, and cut after each of a few places. Then
-- a code 0, a number that no answer has, one that no call has, a capacity and a call count past their limits by one, a length
-- over 16,384, a second length that passes the total, and one that just fits it and has too few bytes.
abbrev pub rows : List Row
rows =
    record {
      bytes = 0x04 ∷ 0x02 ∷ 0x00 ∷ 0x03 ∷ 0x61 ∷ 0x62 ∷ 0x63 ∷ 0x00 ∷ 0x03 ∷ 0x01 ∷ 0x03 ∷ 0x05 ∷ 0x02 ∷ 0x61 ∷ 0x62 ∷ [];
      says =
          trace (record { capacity = 4; count = 2; first = 2; card = 13; length = 2 })
          (wrote (0x61 ∷ 0x62 ∷ 0x63 ∷ []) (ok 3) ∷ flushed (error 5) ∷ [])
          (0x61 ∷ 0x62 ∷ []);
    }
    ∷ record { bytes = 0x04 ∷ 0x00 ∷ 0x00 ∷ 0x07 ∷ []; says = fault 3 }
    ∷ record { bytes = []; says = fault 0 }
    ∷ record { bytes = 0x04 ∷ []; says = fault 1 }
    ∷ record { bytes = 0x04 ∷ 0x01 ∷ 0x00 ∷ 0x03 ∷ 0x61 ∷ []; says = fault 5 }
    ∷ record { bytes = 0x04 ∷ 0x00 ∷ 0x02 ∷ 0x61 ∷ []; says = fault 4 }
    ∷ record { bytes = 0x04 ∷ 0x01 ∷ 0x01 ∷ 0x03 ∷ 0x00 ∷ 0x00 ∷ []; says = fault 4 }
    ∷ record { bytes = 0x04 ∷ 0x01 ∷ 0x01 ∷ 0x04 ∷ 0x00 ∷ []; says = fault 3 }
    ∷ record { bytes = 0x04 ∷ 0x01 ∷ 0x02 ∷ 0x00 ∷ 0x00 ∷ []; says = fault 2 }
    ∷ record { bytes = 0x81 ∷ 0x08 ∷ 0x00 ∷ 0x00 ∷ []; says = fault 0 }
    ∷ record { bytes = 0x04 ∷ 0x81 ∷ 0x02 ∷ 0x00 ∷ []; says = fault 1 }
    ∷ record { bytes = 0x04 ∷ 0x01 ∷ 0x00 ∷ 0x81 ∷ 0x80 ∷ 0x01 ∷ []; says = fault 3 }
    ∷ record { bytes = 0x04 ∷ 0x02 ∷ 0x00 ∷ 0x01 ∷ 0x61 ∷ 0x00 ∷ 0x01 ∷ 0x00 ∷ 0x80 ∷ 0x80 ∷ 0x01 ∷ []; says = fault 8 }
    ∷ record { bytes = 0x04 ∷ 0x02 ∷ 0x00 ∷ 0x01 ∷ 0x61 ∷ 0x00 ∷ 0x01 ∷ 0x00 ∷ 0xff ∷ 0x7f ∷ []; says = fault 10 }
    ∷ []

-- every row as it is said
abbrev pub Hold : List Row → Type 0
Hold [] = Unit
Hold (row ∷ rest) = (trace_of row.bytes ≡ row.says) × Hold rest

pub rows_hold : Hold rows
unfolding trace_of count_at calls_from card_at call_at write_at traced claim_at claim_of error_at ok_at length_most number_most within number number_of groups_from ended
rows_hold = (refl, (refl, (refl, (refl, (refl, (refl, (refl, (refl, (refl, (refl, (refl, (refl, (refl, (refl, tt))))))))))))))
