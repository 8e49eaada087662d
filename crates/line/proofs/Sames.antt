-- No second answer keeps a promise: each public function's promise has one answer, one count of calls, one state and one
-- set of lent bytes.
-- Assumes nothing.
use mathlib.Core.Path.{◌≡◌}
use mathlib.Core.List.{List}
use Prim.Native.Nat.{ℕ}
use Rattle.card.proofs.Sames.{one}
use Rattle.std.specs.Prelude.{Result}
use Rattle.card.specs.declared.Failure.{Failure}
use Rattle.card.specs.Answers.{said_count, said_done}
use Rattle.card.proofs.Saids.{count_same, done_same}
use Rattle.flushing.specs.declared.BufWriter.{BufWriter}
use Rattle.flushing.specs.World.{Lent, tells, reported, world}
use Rattle.flushing.proofs.Sames.{Left, left_one}
use Rattle.writer.specs.Writer.{flush_call}
use Rattle.writer.proofs.Sames.{flush_one}
use Rattle.line.specs.Line.{lines_length, line_write_call, line_write_all_call}

-- the calls of a writer v: two answers a and b, that leave it w and x
module _ (v w x : BufWriter) (lw : Lent v w) (lx : Lent v x) where
  pub line_write_one : (slice : List ℕ) (a b : Result ℕ Failure) → tells (said_count a) w ≡ reported (line_write_call v.script.now (world v) slice) → tells (said_count b) x ≡ reported (line_write_call v.script.now (world v) slice) → (a ≡ b) × Left v w x
  line_write_one slice a b ew ex =
      let both = left_one (reported (line_write_call v.script.now (world v) slice)) (said_count a) (said_count b) v w x lw lx ew ex in
      (count_same a b both.0, both.1)

  pub line_write_all_one : (slice : List ℕ) (a b : Result Unit Failure) → tells (said_done a) w ≡ reported (line_write_all_call v.script.now (world v) slice) → tells (said_done b) x ≡ reported (line_write_all_call v.script.now (world v) slice) → (a ≡ b) × Left v w x
  line_write_all_one slice a b ew ex =
      let both = left_one (reported (line_write_all_call v.script.now (world v) slice)) (said_done a) (said_done b) v w x lw lx ew ex in
      (done_same a b both.0, both.1)

  pub line_flush_one : (a b : Result Unit Failure) → tells (said_done a) w ≡ reported (flush_call v.script.now (world v)) → tells (said_done b) x ≡ reported (flush_call v.script.now (world v)) → (a ≡ b) × Left v w x
  line_flush_one a b ew ex = flush_one v w x lw lx a b ew ex

-- the search's promise is an equation for the result itself
pub lines_length_one : (s : List ℕ) (r q : ℕ) → r ≡ lines_length s → q ≡ lines_length s → r ≡ q
lines_length_one s = one (lines_length s)
