-- The ledger: what the medium and the buffer hold after any `write` and `flush` calls of either writer.
-- Assumes nothing.
use Rattle.std.specs.Prelude.{ℕ, List, [], ◌∷◌, ◌++◌, take}
use Rattle.laws.specs.Pick.{pick}
use Rattle.card.specs.Answers.{Said}
use Rattle.flushing.specs.World.{World, Called, is_ok, count_of}
use Rattle.writer.specs.Writer.{write_call, flush_call}
use Rattle.line.specs.Line.{line_write_call}

-- a call of either writer; the line writer's flush is the plain one
pub data Call : Type 0 where
  write : List ℕ → Call
  flush : Call
  line_write : List ℕ → Call
  line_flush : Call

-- what the calls promise
abbrev pub made : List ℕ → World → Call → Called
made script w (write s) = write_call script w s
made script w flush = flush_call script w
made script w (line_write s) = line_write_call script w s
made script w line_flush = flush_call script w

-- The prefix that an answer accepts of a slice: its first n bytes for ok n. A call that failed or was refused adds nothing
abbrev pub accepted : List ℕ → Said → List ℕ
accepted s answer = pick (is_ok answer) (take (count_of answer) s) []

-- the slice of a call
abbrev pub slice : Call → List ℕ
slice (write s) = s
slice flush = []
slice (line_write s) = s
slice line_flush = []

-- the world after the calls
unfoldable pub after : List ℕ → World → List Call → World
after script w [] = w
after script w (call ∷ calls) = after script (made script w call).world calls

-- the answered prefixes in call order
unfoldable pub prefixes : List ℕ → World → List Call → List ℕ
prefixes script w [] = []
prefixes script w (call ∷ calls) =
    accepted (slice call) (made script w call).answer ++ prefixes script (made script w call).world calls

-- medium then held bytes
abbrev pub ledger : World → List ℕ
ledger w = take w.out w.medium ++ take w.held w.storage
