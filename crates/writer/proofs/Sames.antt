-- No second answer keeps a promise: each public function's promise has one answer, one count of calls, one state and one
-- set of lent bytes.
-- Assumes nothing.
use mathlib.Core.Path.{◌≡◌, refl, sym, ap, ◌∙◌}
use mathlib.Core.List.{List}
use lib.ListN.{take, get_or}
use Prim.Native.Nat.{ℕ}
use Rattle.std.specs.Prelude.{Result, Ok}
use Rattle.card.specs.declared.Failure.{Failure}
use Rattle.card.specs.Answers.{Said, ok, done, said_count, said_done}
use Rattle.card.proofs.Saids.{count_same, done_same}
use Rattle.card.proofs.Sames.{one}
use Rattle.flushing.specs.declared.State.{State}
use Rattle.flushing.specs.declared.BufWriter.{BufWriter}
use Rattle.flushing.specs.World.{Lent, tells, reported, world, fresh}
use Rattle.flushing.proofs.Sames.{Left, left_one}
use Rattle.writer.specs.Writer.{device_write_all, write_call, write_all_call, flush_call}

-- the calls of a writer v: two answers a and b, that leave it w and x
module _ (v w x : BufWriter) (lw : Lent v w) (lx : Lent v x) where
  pub write_one : (slice : List ℕ) (a b : Result ℕ Failure) → tells (said_count a) w ≡ reported (write_call v.script.now (world v) slice) → tells (said_count b) x ≡ reported (write_call v.script.now (world v) slice) → (a ≡ b) × Left v w x
  write_one slice a b ew ex =
      let both = left_one (reported (write_call v.script.now (world v) slice)) (said_count a) (said_count b) v w x lw lx ew ex in
      (count_same a b both.0, both.1)

  pub write_all_one : (slice : List ℕ) (a b : Result Unit Failure) → tells (said_done a) w ≡ reported (write_all_call v.script.now (world v) slice) → tells (said_done b) x ≡ reported (write_all_call v.script.now (world v) slice) → (a ≡ b) × Left v w x
  write_all_one slice a b ew ex =
      let both = left_one (reported (write_all_call v.script.now (world v) slice)) (said_done a) (said_done b) v w x lw lx ew ex in
      (done_same a b both.0, both.1)

  pub device_write_all_one : (slice : List ℕ) (a b : Result Unit Failure) → tells (said_done a) w ≡ reported (device_write_all v.script.now (world v) slice) → tells (said_done b) x ≡ reported (device_write_all v.script.now (world v) slice) → (a ≡ b) × Left v w x
  device_write_all_one slice a b ew ex =
      let both = left_one (reported (device_write_all v.script.now (world v) slice)) (said_done a) (said_done b) v w x lw lx ew ex in
      (done_same a b both.0, both.1)

  pub flush_one : (a b : Result Unit Failure) → tells (said_done a) w ≡ reported (flush_call v.script.now (world v)) → tells (said_done b) x ≡ reported (flush_call v.script.now (world v)) → (a ≡ b) × Left v w x
  flush_one a b ew ex =
      let both = left_one (reported (flush_call v.script.now (world v))) (said_done a) (said_done b) v w x lw lx ew ex in
      (done_same a b both.0, both.1)

-- the promises that are an equation for the result itself
pub new_one : (r q : State) → r ≡ fresh → q ≡ fresh → r ≡ q
new_one = one fresh

pub buffer_one : (st : State) (s x y : List ℕ) → x ≡ take st.held s → y ≡ take st.held s → x ≡ y
buffer_one st s = one (take st.held s)

-- what a stored slice answers
pub stored_count_one : (n r q : ℕ) → said_count (Ok r) ≡ ok n → said_count (Ok q) ≡ ok n → r ≡ q
stored_count_one n r q e f = ap (λ (s : Said). get_or s 1 0) (e ∙ sym f)

pub stored_done_one : (r q : Unit) → said_done (Ok r) ≡ done → said_done (Ok q) ≡ done → r ≡ q
stored_done_one r q e f = refl
