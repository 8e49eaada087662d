-- Words as bytes, and the names of the calls.
-- Assumes nothing.
use Rattle.std.specs.Prelude.{ℕ, List, [], ◌∷◌}
use Prim.Native.Char.{code}
use Prim.Native.String.{String, [] as end, ◌∷◌ as ◌then◌}
use Rattle.text.specs.declared.Name.{Name}
use Rattle.text.specs.declared.Name.TheVariants.{Write, WriteAll, Flush, Read, Peek, Consume, SeekRelative, Fill}

-- The bytes of a text in ASCII: each character's code
abbrev pub ascii : String → List ℕ
ascii end = []
ascii (letter then rest) = code letter ∷ ascii rest

-- Lines open with the call's name
abbrev pub name_of : Name → List ℕ
name_of Write = ascii "write"
name_of WriteAll = ascii "write_all"
name_of Flush = ascii "flush"
name_of Read = ascii "read"
name_of Peek = ascii "peek"
name_of Consume = ascii "consume"
name_of SeekRelative = ascii "seek_relative"
name_of Fill = ascii "fill"
