-- No second answer keeps a promise: what a call hands over has a field for its result and for every number and byte
-- that it may change, and each promise is an equation for all of them.
-- Assumes nothing.
use mathlib.Core.Path.{◌≡◌, sym, ap, ◌∙◌}
use mathlib.Core.List.{List}
use Prim.Native.Nat.{ℕ}
use lib.IntN.{ℤ}
use Rattle.card.specs.Answers.{Said}
use Rattle.card.proofs.Sames.{one}
use Rattle.flushing.specs.declared.State.{State}
use Rattle.stackglow.specs.Numbers.{number_of, value_of}
use Rattle.stackglow.specs.declared.writing.Places.{Places}
use Rattle.flushing.specs.World.{World, Called, Told, reported}
use Rattle.flushing.specs.Flush.{flush_buf_call}
use Rattle.writer.specs.Writer.{write_call, write_all_call, flush_call}
use Rattle.reader.specs.World as Reader
use Rattle.reader.specs.Reader.{fill_buf, consume, seek_relative, peek, read}
use Rattle.stackglow.specs.Writing as Writing
use Rattle.stackglow.specs.Reading as Reading

-- ---- the writers' calls

module _ (script : List ℕ) (w : World) (r q : Writing.Handed) where
  -- two that hand over what one call reports
  two : (c : Called) → r ≡ Writing.handed (reported c) → q ≡ Writing.handed (reported c) → r ≡ q
  two c = one (Writing.handed (reported c)) r q

  pub flush_buf_one : r ≡ Writing.handed (reported (flush_buf_call script w)) → q ≡ Writing.handed (reported (flush_buf_call script w)) → r ≡ q
  flush_buf_one = two (flush_buf_call script w)

  pub flush_one : r ≡ Writing.handed (reported (flush_call script w)) → q ≡ Writing.handed (reported (flush_call script w)) → r ≡ q
  flush_one = two (flush_call script w)

  module _ (slice : List ℕ) where
    pub write_one : r ≡ Writing.handed (reported (write_call script w slice)) → q ≡ Writing.handed (reported (write_call script w slice)) → r ≡ q
    write_one = two (write_call script w slice)

    pub write_all_one : r ≡ Writing.handed (reported (write_all_call script w slice)) → q ≡ Writing.handed (reported (write_all_call script w slice)) → r ≡ q
    write_all_one = two (write_all_call script w slice)

-- what was told, handed over, with whatever bytes were lent
pub hand_one : (t : List ℕ → List ℕ → Told) (r q : List ℕ → List ℕ → Writing.Handed) → ((storage medium : List ℕ) → r storage medium ≡ Writing.handed (t storage medium)) → ((storage medium : List ℕ) → q storage medium ≡ Writing.handed (t storage medium)) → (storage medium : List ℕ) → r storage medium ≡ q storage medium
hand_one t r q e f storage medium = one (Writing.handed (t storage medium)) (r storage medium) (q storage medium) (e storage medium) (f storage medium)

-- ---- the reader's calls

module _ (script stock : List ℕ) (w : Reader.World) (r q : Reading.Handed) where
  pub fill_buf_one : r ≡ Reading.handed (fill_buf script stock w) → q ≡ Reading.handed (fill_buf script stock w) → r ≡ q
  fill_buf_one = one (Reading.handed (fill_buf script stock w)) r q

  pub consume_one : (amt : ℕ) → r ≡ Reading.handed (consume script stock amt w) → q ≡ Reading.handed (consume script stock amt w) → r ≡ q
  consume_one amt = one (Reading.handed (consume script stock amt w)) r q

  pub peek_one : (n : ℕ) → r ≡ Reading.handed (peek script stock n w) → q ≡ Reading.handed (peek script stock n w) → r ≡ q
  peek_one n = one (Reading.handed (peek script stock n w)) r q

  pub seek_relative_one : (offset : ℤ) → r ≡ Reading.handed (seek_relative script stock offset w) → q ≡ Reading.handed (seek_relative script stock offset w) → r ≡ q
  seek_relative_one offset = one (Reading.handed (seek_relative script stock offset w)) r q

pub read_one : (script stock destination : List ℕ) (w : Reader.World) (r q : Reading.HandedRead) → r ≡ Reading.handed_read (read script stock destination w) → q ≡ Reading.handed_read (read script stock destination w) → r ≡ q
read_one script stock destination w = one (Reading.handed_read (read script stock destination w))

-- ---- the places of a writer's numbers

pub state_one : (p : Places) (r q : State) → r ≡ Writing.state_of p.held.now p.out.now p.used.now → q ≡ Writing.state_of p.held.now p.out.now p.used.now → r ≡ q
state_one p = one (Writing.state_of p.held.now p.out.now p.used.now)

-- what a call left, in the places p: two numbers r and q, with what they leave in them
pub record Left (x y : Places) : Type 0 where
  pub value : x.value.now ≡ y.value.now
  pub calls : x.calls.now ≡ y.calls.now
  pub held : x.held.now ≡ y.held.now
  pub out : x.out.now ≡ y.out.now
  pub used : x.used.now ≡ y.used.now

pub left_one : (a : Said) (state : State) (calls r q : ℕ) (x y : Places) → r ≡ number_of a → q ≡ number_of a → x.value.now ≡ value_of a → y.value.now ≡ value_of a → x.calls.now ≡ calls → y.calls.now ≡ calls → Writing.state_of x.held.now x.out.now x.used.now ≡ state → Writing.state_of y.held.now y.out.now y.used.now ≡ state → (r ≡ q) × Left x y
left_one a state calls r q x y nr nq vx vy cx cy sx sy =
    let s = sx ∙ sym sy in (
      nr ∙ sym nq,
      record {
        value = vx ∙ sym vy;
        calls = cx ∙ sym cy;
        held = ap (λ (t : State). t.held) s;
        out = ap (λ (t : State). t.out) s;
        used = ap (λ (t : State). t.used) s;
      },
    )
