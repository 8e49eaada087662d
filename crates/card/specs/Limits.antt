-- The limits of document 01, each named once, and its refusal table.
-- Assumes nothing.
use Rattle.std.specs.Prelude.{ℕ, ltb, Result, Ok, Err}
use Rattle.laws.specs.Pick.{pick}
use Rattle.card.specs.declared.limits.Refusal.{Refusal}
use Rattle.card.specs.declared.limits.Refusal.TheVariants.{Capacity, Length, Peek, Seek, Device, State}
use Rattle.card.specs.declared.Failure.{Failure}
use Rattle.card.specs.declared.Failure.TheVariants.{Refused}

abbrev pub capacity_most : ℕ
capacity_most = 1024

abbrev pub script_most : ℕ
script_most = 4096

-- of a medium, a stock, a slice to write and a destination
abbrev pub bytes_most : ℕ
bytes_most = 16384

-- Which refusal applies, in the table's order: 1, 5, 8, then the call's own (2, 3 or 4); 0 where none does.
-- A writer's pos is 0 and its filled the held count; moved is the bytes out of a medium or taken of a stock.
unfoldable pub refusal_of : ℕ → ℕ → ℕ → ℕ → ℕ → ℕ → ℕ → ℕ → ℕ
refusal_of capacity script device pos filled moved used own =
    pick (ltb capacity_most capacity) 1
    (pick (ltb script_most script) 5
    (pick (ltb bytes_most device) 5
    (pick (ltb capacity filled) 8
    (pick (ltb filled pos) 8
    (pick (ltb device moved) 8
    (pick (ltb script used) 8 own))))))

-- the call's own refusal of a slice to write or a destination that is too long
unfoldable pub length_refusal : ℕ → ℕ
length_refusal n = pick (ltb bytes_most n) 2 0

-- the number of each refusal
abbrev pub refusal_number : Refusal → ℕ
refusal_number Capacity = 1
refusal_number Length = 2
refusal_number Peek = 3
refusal_number Seek = 4
refusal_number Device = 5
refusal_number State = 8

-- the same of a test, 0 where it refuses nothing
abbrev pub refusal_by : Result Unit Refusal → ℕ
refusal_by (Ok nothing) = 0
refusal_by (Err refusal) = refusal_number refusal

abbrev pub refused_by : Refusal → Failure
refused_by refusal = Refused (refusal_number refusal)
