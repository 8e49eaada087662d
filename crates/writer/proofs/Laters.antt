-- `write` and `write_all` count on from the device writes before them.
-- Assumes nothing.
use mathlib.Core.Path.{◌≡◌, refl, ap, ◌∙◌}
use mathlib.Core.Bool.{Bool, true, false}
use mathlib.Core.List.{List}
use Prim.Native.Nat.{ℕ, ◌+◌}
use native.Mathlib.Omega.{arith}
use lib.ListN.{length}
use lib.Dec.{leb, ltb}
use Rattle.laws.specs.Pick.{pick}
use Rattle.card.specs.Answers.{Said, ok, done}
use Rattle.flushing.specs.declared.Sent.{Sent}
use Rattle.flushing.specs.World.{World, Called, capacity, spare, room, replies, nothing}
use Rattle.flushing.specs.Flush.{flush_buf}
use Rattle.flushing.proofs.Sends.{send_later}
use Rattle.flushing.proofs.Laters.{from, later, Counting, flush_later, then_later}
use Rattle.writer.specs.Writer.{device_write, taken_by, device_write_all, stored, placed, readied, cold, written, write, write_all}

device_later : (script s : List ℕ) → Counting (λ w. device_write script w s)
unfolding device_write Counting
device_later script s k w = cc (one_more k w.writes)
  where
    one_more : (a b : ℕ) → a + b + 1 ≡ a + (b + 1)
    one_more a b = omega arith

pub device_all_later : (script s : List ℕ) → Counting (λ w. device_write_all script w s)
unfolding device_write_all Counting
device_all_later script s k w = ap (λ (f : Sent). taken_by (from k w) s f) (send_later (replies script w) (length s) (room w) 0 w.used w.writes k)

-- a choice that does not look at the count
pick_later : (t : World → Bool) (f g : World → Called) → ((k : ℕ) (w : World) → t (from k w) ≡ t w) → Counting f → Counting g → Counting (λ w. pick (t w) (f w) (g w))
unfolding Counting
pick_later t f g same a b k w = ap (λ (c : Bool). pick c (f (from k w)) (g (from k w))) (same k w) ∙ by (t w)
  where
    by : (c : Bool) → pick c (f (from k w)) (g (from k w)) ≡ later k (pick c (f w) (g w))
    by true = a k w
    by false = b k w

stored_later : (answer : Said) (s : List ℕ) → Counting (λ w. stored answer w s)
unfolding Counting
stored_later answer s k w = refl

nothing_later : Counting nothing
unfolding Counting
nothing_later k w = refl

placed_later : (answer : Said) (device : World → Called) (s : List ℕ) → Counting device → Counting (λ w. placed answer device w s)
unfolding placed
placed_later answer device s d = pick_later (λ w. leb (capacity w) (length s)) device (λ w. stored answer w s) (λ k w. refl) d (stored_later answer s)

cold_later : (script : List ℕ) (answer : Said) (device : World → Called) (s : List ℕ) → Counting device → Counting (λ w. cold script answer device w s)
unfolding cold readied
cold_later script answer device s d =
    then_later (λ w. pick (ltb (spare w) (length s)) (flush_buf script w) (nothing w)) (λ v. placed answer device v s)
    (pick_later (λ w. ltb (spare w) (length s)) (λ w. flush_buf script w) nothing (λ k w. refl) (flush_later script) nothing_later)
    (placed_later answer device s d)

written_later : (script : List ℕ) (answer : Said) (device : World → Called) (s : List ℕ) → Counting device → Counting (λ w. written script answer device w s)
unfolding written
written_later script answer device s d = pick_later (λ w. ltb (length s) (spare w)) (λ w. stored answer w s) (λ w. cold script answer device w s) (λ k w. refl) (stored_later answer s) (cold_later script answer device s d)

pub write_later : (script s : List ℕ) → Counting (λ w. write script w s)
unfolding write
write_later script s = written_later script (ok (length s)) (λ v. device_write script v s) s (device_later script s)

pub write_all_later : (script s : List ℕ) → Counting (λ w. write_all script w s)
unfolding write_all
write_all_later script s = written_later script done (λ v. device_write_all script v s) s (device_all_later script s)
