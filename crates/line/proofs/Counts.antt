-- The device calls that a call reports are the replies that it took, plus one if it met the script's end.
-- Assumes nothing.
use mathlib.Core.List.{List}
use Prim.Native.Nat.{ℕ}
use native.Mathlib.Omega.{arith}
use lib.ListN.{length, take, drop}
use lib.Dec.{eqb}
use Rattle.laws.proofs.Picks.{pick_holds}
use Rattle.card.specs.Limits.{length_refusal}
use Rattle.flushing.specs.declared.State.{State}
use Rattle.flushing.specs.World.{World, world_of, reported, count_of}
use Rattle.flushing.proofs.Counts.{Reports, CountsCalls, flush_buf_counts, nothing_counts, then_counts, refusing_counts}
use Rattle.writer.specs.Writer.{device_write}
use Rattle.writer.proofs.Counts.{device_write_counts, device_write_all_counts, write_counts, write_all_counts}
use Rattle.line.specs.Line.{lines_length, ends_line, completed, keep_tail, send_lines, line_write, lines_all, line_write_all, line_write_call, line_write_all_call}

-- ---- the calls where they meet no refusal

completed_counts : (script : List ℕ) (w : World) → Reports w (completed script w)
unfolding completed
completed_counts script w = pick_holds (Reports w) (ends_line w.storage w.held) _ _ (λ e. flush_buf_counts script w) (λ e. nothing_counts w)

tail_counts : (w : World) (s : List ℕ) (e f : ℕ) → Reports w (keep_tail w s e f)
unfolding keep_tail Reports
tail_counts w s e f = omega arith

send_lines_counts : (script : List ℕ) (w : World) (s : List ℕ) (e : ℕ) → Reports w (send_lines script w s e)
unfolding send_lines
send_lines_counts script w s e = then_counts w _ _ (device_write_counts script w (take e s)) (λ v. tail_counts v s e (count_of (device_write script w (take e s)).answer))

line_write_counts : (script : List ℕ) (w : World) (s : List ℕ) → Reports w (line_write script w s)
unfolding line_write
line_write_counts script w s =
    pick_holds (Reports w) (eqb (lines_length s) 0) _ _
    (λ e. then_counts w _ _ (completed_counts script w) (λ v. write_counts script v s))
    (λ e. then_counts w _ _ (flush_buf_counts script w) (λ v. send_lines_counts script v s (lines_length s)))

lines_all_counts : (script : List ℕ) (w : World) (lines : List ℕ) → Reports w (lines_all script w lines)
unfolding lines_all
lines_all_counts script w lines =
    pick_holds (Reports w) (eqb w.held 0) _ _
    (λ e. device_write_all_counts script w lines)
    (λ e. then_counts w _ _ (write_all_counts script w lines) (λ v. flush_buf_counts script v))

line_write_all_counts : (script : List ℕ) (w : World) (s : List ℕ) → Reports w (line_write_all script w s)
unfolding line_write_all
line_write_all_counts script w s =
    pick_holds (Reports w) (eqb (lines_length s) 0) _ _
    (λ e. then_counts w _ _ (completed_counts script w) (λ v. write_all_counts script v s))
    (λ e. then_counts w _ _ (lines_all_counts script w (take (lines_length s) s)) (λ v. write_all_counts script v (drop (lines_length s) s)))

-- ---- THE DEVICE CALLS of each public call, on every input

module _ (script : List ℕ) (st : State) (s m : List ℕ) where
  pub line_write_reports : (slice : List ℕ) → CountsCalls st (reported (line_write_call script (world_of st s m) slice))
  unfolding line_write_call
  line_write_reports slice = refusing_counts script st s m (length_refusal (length slice)) _ (λ v. line_write_counts script v slice)

  pub line_write_all_reports : (slice : List ℕ) → CountsCalls st (reported (line_write_all_call script (world_of st s m) slice))
  unfolding line_write_all_call
  line_write_all_reports slice = refusing_counts script st s m (length_refusal (length slice)) _ (λ v. line_write_all_counts script v slice)
