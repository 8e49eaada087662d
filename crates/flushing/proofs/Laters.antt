-- A call that begins after k device writes does what it does from none, and counts k more.
-- Assumes nothing.
use mathlib.Core.Path.{◌≡◌, refl, sym, ap, ◌∙◌}
use mathlib.Core.Bool.{Bool, true, false}
use mathlib.Core.List.{List}
use Prim.Native.Nat.{ℕ, ◌+◌}
use native.Mathlib.Nat.{add-zero}
use native.Mathlib.Omega.{arith}
use Rattle.flushing.specs.declared.State.{State}
use Rattle.flushing.specs.World.{Answered}
use Rattle.flushing.specs.declared.Sent.{Sent}
use Rattle.flushing.specs.World.{World, Called, Told, Sound, room, replies, is_ok, and_then, world_of, world_after, told, reported, refusing, begun}
use Rattle.flushing.specs.Flush.{flush_buf, flushed_by}
use Rattle.flushing.proofs.Sends.{send_later}
use Rattle.flushing.proofs.Thens.{then_ok, then_failed}
use Rattle.flushing.proofs.Calls.{sound_call}

abbrev pub from : ℕ → World → World
from k w = record { storage = w.storage; medium = w.medium; held = w.held; out = w.out; used = w.used; writes = k + w.writes; flushes = w.flushes }

abbrev pub later : ℕ → Called → Called
later k c = record { answer = c.answer; world = from k c.world }

-- a step that counts on from where it begins
unfoldable pub Counting : (World → Called) → Type 0
Counting call = (k : ℕ) (w : World) → call (from k w) ≡ later k (call w)

pub flush_later : (script : List ℕ) → Counting (λ w. flush_buf script w)
unfolding flush_buf Counting
flush_later script k w = ap (λ (f : Sent). flushed_by (from k w) f) (send_later (replies script w) w.held (room w) 0 w.used w.writes k)

pub then_later : (call next : World → Called) → Counting call → Counting next → Counting (λ w. and_then (call w) next)
unfolding Counting
then_later call next f g k w = ap (λ (c : Called). and_then c next) (f k w) ∙ by (is_ok (call w).answer) refl
  where
    by : (t : Bool) → is_ok (call w).answer ≡ t → and_then (later k (call w)) next ≡ later k (and_then (call w) next)
    by true e = then_ok (later k (call w)) next e ∙ g k (call w).world ∙ ap (later k) (sym (then_ok (call w) next e))
    by false e = then_failed (later k (call w)) next e ∙ ap (later k) (sym (then_failed (call w) next e))

-- what is told of such a step made from none, and reported with k more
module _ (script st me : List ℕ) (state : State) (call : World → Called) (b : Answered) (x y : List ℕ) (k : ℕ) (counting : Counting call) where
  pub after_is : told b x y ≡ reported (call (world_of state st me)) → record { answer = b.answer; calls = k + b.calls; held = b.state.held; out = b.state.out; used = b.state.used; storage = x; medium = y } ≡ reported (call (world_after state st me k))
  unfolding Counting
  after_is e =
      let c = call (world_of state st me) in
      let begin : world_after state st me k ≡ from k (world_of state st me) = ap (λ (n : ℕ). world_after state st me n) (sym (add-zero k)) in
      let on : reported (call (world_after state st me k)) ≡ reported (later k c) = ap (λ (w : World). reported (call w)) begin ∙ ap reported (counting k (world_of state st me)) in
      let more : k + b.calls ≡ k + c.world.writes + c.world.flushes = counted k b.calls c.world.writes c.world.flushes (ap (λ (t : Told). t.calls) e) in
      (λ i.
      record {
        answer = ap (λ (t : Told). t.answer) e i;
        calls = more i;
        held = ap (λ (t : Told). t.held) e i;
        out = ap (λ (t : Told). t.out) e i;
        used = ap (λ (t : Told). t.used) e i;
        storage = ap (λ (t : Told). t.storage) e i;
        medium = ap (λ (t : Told). t.medium) e i;
      })
      ∙ sym on
    where
      counted : (a n p q : ℕ) → n ≡ p + q → a + n ≡ a + p + q
      counted a n p q h = omega arith

-- a call that no refusal meets is the step
pub called_is : (script : List ℕ) (w : World) (own : ℕ) (call : World → Called) (t : Told) → t ≡ reported (refusing script w own call) → own ≡ 0 → Sound script w → w.writes ≡ 0 → w.flushes ≡ 0 → t ≡ reported (call w)
called_is script w own call t e z s p q =
    let made : refusing script w own call ≡ call (begun w) = ap (λ (k : ℕ). refusing script w k call) z ∙ sound_call script w call s in
    e ∙ ap reported (made ∙ ap call same)
  where
    same : begun w ≡ w
    same = λ i. record { storage = w.storage; medium = w.medium; held = w.held; out = w.out; used = w.used; writes = sym p i; flushes = sym q i }
