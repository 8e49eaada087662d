-- The device calls that a call reports are the replies that it took, plus one if it met the script's end.
-- Assumes nothing.
use mathlib.Core.Path.{◌≡◌, refl, sym, ap, ◌∙◌}
use mathlib.Core.Bool.{Bool, true, false, ◌&&◌}
use mathlib.Core.List.{List, [], ◌∷◌}
use Prim.Native.Nat.{ℕ, ◌+◌, ◌-◌, ◌≤◌, min}
use native.Mathlib.Omega.{arith}
use lib.ListN.{length, get_or, length-drop}
use lib.Dec.{eqb}
use borrow.Author.Tests.{eqb-true}
use Rattle.laws.specs.Pick.{pick}
use Rattle.laws.proofs.Picks.{pick_holds}
use Rattle.card.specs.Answers.{Said}
use Rattle.card.specs.Limits.{refusal_of}
use Rattle.card.specs.Device.{reply_of, at_most, Reply}
use Rattle.card.proofs.Ends.{ended, ended_by, no_end}
use Rattle.flushing.specs.declared.Sent.{Sent}
use Rattle.flushing.specs.declared.State.{State}
use Rattle.flushing.specs.World.{World, Called, Told, room, replies, is_ok, and_then, nothing, begun, refusing, world_of, reported}
use Rattle.flushing.specs.Send.{flush_said, send_from, on_reply, Outcome}
use Rattle.flushing.specs.Flush.{flush_buf, flush_buf_call}
use Rattle.flushing.proofs.Sends.{within}
use Rattle.flushing.proofs.Thens.{then_cases}
use Rattle.std.specs.Prelude.{Ok, Err}
use Rattle.card.specs.declared.DeviceError.TheVariants.{Interrupted, Error}
use Rattle.flushing.specs.declared.Stop.TheVariants.{Zero, Failed}

-- ---- a run of device writes

abbrev pub ended_out : Outcome → ℕ
ended_out (Ok nothing) = 0
ended_out (Err Zero) = 0
ended_out (Err (Failed code)) = pick (eqb code 0) 1 0

-- the writes made since there were `writes` are the replies taken since `used`, and one more at the script's end
unfoldable pub Counts : ℕ → ℕ → Sent → Type 0
Counts used writes f = f.writes + used ≡ f.used + writes + ended_out f.outcome

on_counts : (used writes : ℕ) (r : Reply) (accept : ℕ → Sent) (interrupted : Sent) (error : ℕ → Sent) → ((t : ℕ) → Counts used writes (accept t)) → Counts used writes interrupted → ((code : ℕ) → r ≡ Err (Error code) → Counts used writes (error code)) → Counts used writes (on_reply r accept interrupted error)
on_counts used writes (Ok n) accept interrupted error a i e = a n
on_counts used writes (Err Interrupted) accept interrupted error a i e = i
on_counts used writes (Err (Error code)) accept interrupted error a i e = e code refl

pub send_counts : (l : List ℕ) (left space sent used writes : ℕ) → Counts used writes (send_from l left space sent used writes)
unfolding send_from Counts
send_counts [] left space sent used writes = pick_holds (Counts used writes) (eqb left 0) _ _ (λ e. omega arith) (λ e. omega arith)
send_counts (n ∷ rest) left space sent used writes =
    pick_holds (Counts used writes) (eqb left 0) _ _ (λ e. omega arith)
    (λ e. on_counts used writes (at_most (min left space) (reply_of n)) _ _ _
    (λ t. pick_holds (Counts used writes) (eqb t 0) _ _ (λ z. omega arith) (λ z. omega (arith, send_counts rest (left - t) (space - t) (sent + t) (used + 1) (writes + 1))))
    (omega (arith, send_counts rest left space sent (used + 1) (writes + 1)))
    (λ code q.
    let none : ended_by (Err (Error code)) ≡ 0 = sym (ap ended_by q) ∙ no_end n (min left space) in
    omega arith))

-- ---- the parts of a call, from world w

unfoldable pub Reports : World → Called → Type 0
Reports w c = c.world.writes + c.world.flushes + w.used ≡ c.world.used + w.writes + w.flushes + ended c.answer

flush_ended : (o : Outcome) → ended (flush_said o) ≡ ended_out o
flush_ended (Ok nothing) = refl
flush_ended (Err Zero) = refl
flush_ended (Err (Failed code)) = refl

pub flush_buf_counts : (script : List ℕ) (w : World) → Reports w (flush_buf script w)
unfolding flush_buf Reports Counts
flush_buf_counts script w =
    let f = send_from (replies script w) w.held (room w) 0 w.used w.writes in
    omega (arith, send_counts (replies script w) w.held (room w) 0 w.used w.writes, flush_ended f.outcome)

pub nothing_counts : (w : World) → Reports w (nothing w)
unfolding Reports
nothing_counts w = omega arith

-- an ok is no end
ok_ended : (a : Said) → is_ok a ≡ true → ended a ≡ 0
ok_ended [] e =
    let z : ◌≡◌ {A = ℕ} 0 1 = cc in
    absurd (omega arith)
ok_ended (n ∷ values) e =
    let none : n ≡ 0 = eqb-true n 0 e in
    rw none

pub then_counts : (w : World) (c : Called) (next : World → Called) → Reports w c → ((v : World) → Reports v (next v)) → Reports w (and_then c next)
unfolding Reports
then_counts w c next h k = then_cases c next (Reports w) (λ e. omega (arith, h, ok_ended c.answer e, k c.world)) (λ e. h)

-- ---- so a call makes few of them

-- the script's position stays within the script
unfoldable pub Uses : List ℕ → World → Called → Type 0
Uses script w c = w.used ≤ length script → c.world.used ≤ length script

pub flush_buf_uses : (script : List ℕ) (w : World) → Uses script w (flush_buf script w)
unfolding flush_buf Uses
flush_buf_uses script w h =
    let left : length (replies script w) ≡ length script - w.used = length-drop w.used script in
    omega (arith, (within (replies script w) w.held (room w) 0 w.used w.writes).end)

pub then_uses : (script : List ℕ) (w : World) (c : Called) (next : World → Called) → Uses script w c → ((v : World) → Uses script v (next v)) → Uses script w (and_then c next)
unfolding Uses
then_uses script w c next h k = then_cases c next (Uses script w) (λ e u. k c.world (h u)) (λ e. h)

ended_most : (a : Said) → ended a ≤ 1
ended_most a = by (eqb (get_or a 0 0) 3 && eqb (get_or a 1 1) 0)
  where
    by : (t : Bool) → pick t 1 0 ≤ 1
    by true = omega arith
    by false = omega arith

pub few_calls : (script st me : List ℕ) (state : State) (c : Called) (calls : ℕ) → Reports (world_of state st me) c → Uses script (world_of state st me) c → state.used ≤ length script → calls ≡ (reported c).calls → calls ≤ length script + 1
unfolding Reports Uses
few_calls script st me state c calls r u h e = omega (arith, r, u h, e, ended_most c.answer)

-- ---- THE DEVICE CALLS of each public call, on every input: the replies that it took, plus one if it met the script's end

unfoldable pub CountsCalls : State → Told → Type 0
CountsCalls st t = t.calls + st.used ≡ t.used + ended t.answer

pub refusing_counts : (script : List ℕ) (st : State) (s m : List ℕ) (own : ℕ) (call : World → Called) → ((v : World) → Reports v (call v)) → CountsCalls st (reported (refusing script (world_of st s m) own call))
unfolding refusing CountsCalls Reports
refusing_counts script st s m own call h =
    pick_holds (λ (c : Called). CountsCalls st (reported c)) (eqb (refusal_of (length s) (length script) (length m) 0 st.held st.out st.used own) 0) _ _
    (λ e. omega (arith, h (begun (world_of st s m))))
    (λ e. omega arith)

module _ (script : List ℕ) (st : State) (s m : List ℕ) where
  pub flush_buf_reports : CountsCalls st (reported (flush_buf_call script (world_of st s m)))
  unfolding flush_buf_call
  flush_buf_reports = refusing_counts script st s m 0 _ (λ v. flush_buf_counts script v)
