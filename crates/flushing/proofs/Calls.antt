-- The definitions as the code builds them: refusals, and the flush of the buffer.
-- Assumes nothing.
use mathlib.Core.Path.{◌≡◌, refl, sym, ap, ◌∙◌, subst}
use mathlib.Core.Bool.{true, false}
use mathlib.Core.List.{List}
use Prim.Native.Nat.{ℕ, ◌+◌, ◌-◌, ◌≤◌, min}
use native.Mathlib.Nat.{add-zero}
use native.Mathlib.Omega.{arith}
use lib.ListN.{length, take, drop}
use lib.Seq.{length-take-le}
use lib.Dec.{eqb}
use borrow.Author.Tests.{eq-eqb, ne_eqb, eqb-true}
use Rattle.laws.proofs.Picks.{by_test}
use Rattle.laws.specs.Put.{put}
use Rattle.laws.proofs.Puts.{put-take}
use Rattle.card.specs.Answers.{Said, done, refused}
use Rattle.card.specs.Limits.{refusal_of, refusal_number}
use Rattle.card.specs.declared.limits.Numbers.{Numbers}
use Rattle.card.specs.declared.limits.Refusal.{Refusal}
use Rattle.card.proofs.Refusals.{Unrefused, unrefused, within_limits, own_row, other_row, refusal_some}
use Rattle.flushing.specs.declared.State.{State}
use Rattle.flushing.specs.declared.BufWriter.{BufWriter}
use Rattle.flushing.specs.declared.Sent.{Sent}
use Rattle.flushing.specs.World.{World, Called, Answered, Told, numbers, world, Fit, Sound, capacity, world_of, world_after, told, reported, refusing, begun, is_ok}
use Rattle.flushing.specs.Send.{flush_said, send_from}
use Rattle.flushing.specs.Flush.{flush_buf, flush_buf_call}
use Rattle.flushing.proofs.Sends.{within}
use Rattle.flushing.proofs.Flushes.{Keeps, keeps, fit_after}
use Rattle.flushing.proofs.Cases.{flush_ok_done}
use Rattle.flushing.proofs.Thens.{told_called}

-- ---- refusals

-- a call's own refusal by its definition
pub with_own : (number a b c d e f g own k : ℕ) → number ≡ refusal_of a b c d e f g own → own ≡ k → number ≡ refusal_of a b c d e f g k
with_own number a b c d e f g own k p q = rw (← q) p

module _ (script st me : List ℕ) (state : State) (number own : ℕ) (pn : number ≡ refusal_of (length st) (length script) (length me) 0 state.held state.out state.used own) where
  pub refused_is : (call : World → Called) → (number ≡ 0 → ⊥) → record { answer = refused number; calls = 0; held = state.held; out = state.out; used = state.used; storage = st; medium = me } ≡ reported (refusing script (world_of state st me) own call)
  unfolding refusing
  refused_is call h = rw (← pn) (rw (ne_eqb number 0 h) refl)

  pub unrefused_is : (call : World → Called) (t : Told) → number ≡ 0 → t ≡ reported (call (world_of state st me)) → t ≡ reported (refusing script (world_of state st me) own call)
  unfolding refusing
  unrefused_is call t h q = rw (← pn) (rw (eq-eqb number 0 h) q)

  limits_of : number ≡ 0 → Unrefused (length st) (length script) (length me) 0 state.held state.out state.used own
  limits_of h = unrefused (length st) (length script) (length me) 0 state.held state.out state.used own (sym pn ∙ h)

  pub unrefused_own : number ≡ 0 → own ≡ 0
  unrefused_own h = (limits_of h).own_none

  -- a world that a call was not refused at is sound
  pub unrefused_sound : number ≡ 0 → Sound script (world_of state st me)
  unrefused_sound h =
      let u = limits_of h in
      record {
        none = within_limits (length st) (length script) (length me) 0 state.held state.out state.used u.capacity_within u.script_within u.device_most u.filled_fits u.pos_fits u.moved_fits u.used_fits;
      }

-- a writer whose numbers were asked of the limits
module _ (v : BufWriter) (n : Numbers) (pn : n ≡ numbers v) where
  refusal_here : ℕ → ℕ
  refusal_here own = refusal_of (length v.storage.now) (length v.script.now) (length v.medium.now) 0 v.state.held v.state.out v.state.used own

  here : (k : ℕ) → k ≡ refusal_of n.capacity n.script n.device n.pos n.filled n.moved n.used 0 → k ≡ refusal_here 0
  unfolding refusal_here
  here k e = e ∙ ap (λ (m : Numbers). refusal_of m.capacity m.script m.device m.pos m.filled m.moved m.used 0) pn

  -- refused by them
  pub refused_told : (r : Refusal) (own : ℕ) (call : World → Called) → refusal_number r ≡ refusal_of n.capacity n.script n.device n.pos n.filled n.moved n.used 0 → record { answer = refused (refusal_number r); calls = 0; held = v.state.held; out = v.state.out; used = v.state.used; storage = v.storage.now; medium = v.medium.now } ≡ reported (refusing v.script.now (world v) own call)
  unfolding refusal_here
  refused_told r own call e =
      refused_is v.script.now v.storage.now v.medium.now v.state (refusal_number r) own
      (other_row (length v.storage.now) (length v.script.now) (length v.medium.now) 0 v.state.held v.state.out v.state.used own (refusal_number r) (here (refusal_number r) e) (refusal_some r (refusal_number r) refl))
      call (refusal_some r (refusal_number r) refl)

  module _ (none : 0 ≡ refusal_of n.capacity n.script n.device n.pos n.filled n.moved n.used 0) where
    own_here : (own : ℕ) → own ≡ refusal_here own
    unfolding refusal_here
    own_here own = own_row (length v.storage.now) (length v.script.now) (length v.medium.now) 0 v.state.held v.state.out v.state.used own (sym (here 0 none))

    -- refused for its own reason
    pub own_told : (r : Refusal) (own : ℕ) (call : World → Called) → refusal_number r ≡ own → record { answer = refused (refusal_number r); calls = 0; held = v.state.held; out = v.state.out; used = v.state.used; storage = v.storage.now; medium = v.medium.now } ≡ reported (refusing v.script.now (world v) own call)
    unfolding refusal_here
    own_told r own call e = refused_is v.script.now v.storage.now v.medium.now v.state (refusal_number r) own (e ∙ own_here own) call (refusal_some r (refusal_number r) refl)

    -- not refused
    pub unrefused_told : (own : ℕ) (call : World → Called) (t : Told) → 0 ≡ own → t ≡ reported (call (world v)) → t ≡ reported (refusing v.script.now (world v) own call)
    unfolding refusal_here
    unrefused_told own call t e q = unrefused_is v.script.now v.storage.now v.medium.now v.state own own (own_here own) call t (sym e) q

    pub sound_here : Sound v.script.now (world v)
    unfolding refusal_here
    sound_here = record { none = sym (here 0 none) }

-- what soundness says of the numbers
pub limits : (script : List ℕ) (w : World) → Sound script w → Unrefused (capacity w) (length script) (length w.medium) 0 w.held w.out w.used 0
limits script w s = unrefused (capacity w) (length script) (length w.medium) 0 w.held w.out w.used 0 s.none

pub sound_fit : (script : List ℕ) (w : World) → Sound script w → w.writes ≤ w.used → Fit script w
sound_fit script w s h =
    let u = limits script w s in
    record { held = u.filled_fits; out = u.moved_fits; used = u.used_fits; few = h }

-- a world with as much storage and medium, and numbers within them, is as sound
pub sound_on : (script : List ℕ) (w v : World) → Sound script w → length v.storage ≡ length w.storage → length v.medium ≡ length w.medium → v.held ≤ length w.storage → v.out ≤ length w.medium → v.used ≤ length script → Sound script v
sound_on script w v s a b h o u =
    let l = limits script w s in
    record {
      none = within_limits (length v.storage) (length script) (length v.medium) 0 v.held v.out v.used (omega (arith, l.capacity_within)) l.script_within (omega (arith, l.device_most)) (omega arith) (omega arith) (omega arith) u;
    }

-- so a call is made
pub sound_call : (script : List ℕ) (w : World) (call : World → Called) → Sound script w → refusing script w 0 call ≡ call (begun w)
unfolding refusing
sound_call script w call s = rw (eq-eqb _ 0 s.none)

-- ---- `flush_buf`

module _ (script st me : List ℕ) (state : State) (sound : Sound script (world_of state st me)) (f : Sent) (pf : f ≡ send_from (drop state.used script) (length (take state.held st)) (length me - state.out) 0 state.used 0) where
  held_fits : state.held ≤ length st
  held_fits = (limits script (world_of state st me) sound).filled_fits

  sent_is : f ≡ send_from (drop state.used script) state.held (length me - state.out) 0 state.used 0
  sent_is = pf ∙ ap (λ (k : ℕ). send_from (drop state.used script) k (length me - state.out) 0 state.used 0) (length-take-le state.held st held_fits)

  -- no more is sent than is held, nor than there is room for
  pub sent_held : f.sent ≤ state.held
  sent_held = rw sent_is (omega (arith, (within (drop state.used script) state.held (length me - state.out) 0 state.used 0).most))

  pub sent_room : state.out + f.sent ≤ length me
  sent_room = rw sent_is (omega (arith, (within (drop state.used script) state.held (length me - state.out) 0 state.used 0).fits, (limits script (world_of state st me) sound).moved_fits))

  pub flush_is : (x y : List ℕ) (a : Said) → y ≡ put me state.out (take state.held st) f.sent → x ≡ put st 0 (drop f.sent st) (min state.held (length st) - f.sent) → a ≡ flush_said f.outcome → record { answer = a; calls = f.writes; held = state.held - f.sent; out = state.out + f.sent; used = f.used; storage = x; medium = y } ≡ reported (flush_buf script (world_of state st me))
  unfolding flush_buf
  flush_is x y a py px pa =
      let least : min state.held (length st) ≡ state.held = omega (arith, held_fits) in
      let x_is : x ≡ put st 0 (drop f.sent st) (state.held - f.sent) = px ∙ ap (λ (k : ℕ). put st 0 (drop f.sent st) (k - f.sent)) least in
      let y-is : y ≡ put me state.out st f.sent = py ∙ put-take me state.out st state.held f.sent sent_held in
      rw (← sent_is) (cc (add-zero f.writes))

-- ---- the flush, for those who call it

module _ (script st me : List ℕ) (state : State) (r : Answered) (x y : List ℕ) (e : told r x y ≡ reported (flush_buf_call script (world_of state st me))) (sound : Sound script (world_of state st me)) where
  pub flush_made : flush_buf script (world_of state st me) ≡ record { answer = r.answer; world = world_after r.state x y r.calls }
  unfolding flush_buf_call
  flush_made =
      told_called (flush_buf script (world_of state st me)) r x y
      (e ∙ ap reported (sound_call script (world_of state st me) (λ v. flush_buf script v) sound))
      (keeps script (world_of state st me) (sound_fit script (world_of state st me) sound (omega arith))).flushes_same

  kept : Keeps script (world_of state st me) (record { answer = r.answer; world = world_after r.state x y r.calls })
  kept = subst (λ (c : Called). Keeps script (world_of state st me) c) flush_made (keeps script (world_of state st me) (sound_fit script (world_of state st me) sound (omega arith)))

  pub flush_sound : Sound script (world_of r.state x y)
  flush_sound =
      let k = kept in
      let u = limits script (world_of state st me) sound in
      sound_on script (world_of state st me) (world_of r.state x y) sound k.storage_long k.medium_long (omega (arith, k.held_most, u.filled_fits)) k.out_fits k.used_fits

  -- where it succeeded, nothing is held, and the next step can go on
  pub flush_ready : is_ok (r.answer) ≡ true → Fit script (world_after r.state x y r.calls) × (r.state.held ≡ 0)
  flush_ready o =
      let q : (flush_buf script (world_of state st me)).answer ≡ r.answer = ap (λ (c : Called). c.answer) flush_made in
      let d : r.answer ≡ done = sym q ∙ flush_ok_done script (world_of state st me) (rw q o) in
      fit_after script (world_of state st me) (world_after r.state x y r.calls) (sound_fit script (world_of state st me) sound (omega arith))
      (flush_made ∙ ap (λ (a : Said). record { answer = a; world = world_after r.state x y r.calls }) d)

-- a flush that succeeded was not refused
pub flush_unrefused : (script st me : List ℕ) (state : State) (r : Answered) (x y : List ℕ) → told r x y ≡ reported (flush_buf_call script (world_of state st me)) → is_ok (r.answer) ≡ true → Sound script (world_of state st me)
unfolding flush_buf_call refusing
flush_unrefused script st me state r x y e o =
    by_test (eqb (refusal_of (length st) (length script) (length me) 0 state.held state.out state.used 0) 0)
    (λ t. record { none = eqb-true _ 0 t })
    (λ t.
    let q : r.answer ≡ refused (refusal_of (length st) (length script) (length me) 0 state.held state.out state.used 0) = ap (λ (u : Told). u.answer) (rw t at e) in
    let n : is_ok (r.answer) ≡ false = ap is_ok q in
    let z : ◌≡◌ {A = ℕ} 0 1 = cc in
    absurd (omega arith))
