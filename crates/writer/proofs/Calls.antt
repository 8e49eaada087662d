-- The calls' definitions as the code builds them: each lemma says what a way through the code tells.
-- Assumes nothing.
use mathlib.Core.Path.{◌≡◌, refl, sym, ap, ◌∙◌, subst}
use mathlib.Core.Bool.{true, false}
use mathlib.Core.List.{List}
use Prim.Native.Nat.{ℕ, ◌+◌, ◌-◌, ◌≤◌, ◌<◌, min}
use native.Mathlib.Nat.{add-zero}
use native.Mathlib.Omega.{arith}
use lib.ListN.{length, drop, length-drop}
use lib.Dec.{eqb, ltb}
use borrow.Author.Tests.{le-leb, lt-leb, le-ltb, lt-ltb, ltb-false}
use Rattle.laws.specs.Put.{put}
use Rattle.laws.proofs.Picks.{by_test, pick_holds}
use Rattle.std.specs.Prelude.{Result, Ok, Err, MatchResult, IsErrAnd}
use Rattle.std.proofs.lemmas.Result.{err_from_is_err_and}
use Rattle.card.specs.declared.DeviceError.{DeviceError}
use Rattle.card.specs.declared.DeviceError.TheVariants.{Interrupted, Error}
use Rattle.card.specs.declared.Failure.{Failure}
use Rattle.card.specs.declared.Failure.TheVariants.{Interrupted as CutOff, Zero as TookNone, Whole, Error as Fails, Refused}
use Rattle.card.specs.Answers.{Said, done, failed, said_done, failure_by}
use Rattle.card.specs.Limits.{refusal_of}
use Rattle.card.specs.declared.Exchange.{Exchange}
use Rattle.card.specs.Device.{Reply, exchange, moves}
use Rattle.card.proofs.Replies.{exchange_most}
use Rattle.flushing.specs.declared.State.{State}
use Rattle.flushing.specs.declared.BufWriter.{BufWriter}
use Rattle.flushing.specs.World.{Answered}
use Rattle.flushing.specs.declared.Sent.{Sent}
use Rattle.flushing.specs.declared.Stop.{Stop}
use Rattle.flushing.specs.declared.Stop.TheVariants.{Zero, Failed}
use Rattle.flushing.specs.World.{World, Called, Told, Lent, world, counting, left, tells, capacity, Fit, Sound, world_of, world_after, told, reported, refusing, nothing, spare, is_ok, and_then}
use Rattle.flushing.specs.Send.{Outcome, whole_failure, whole_said, write_said, flush_reply_said, send_from}
use Rattle.flushing.specs.Flush.{flush_buf, flush_buf_call}
use Rattle.flushing.proofs.Sends.{later, within, send_later}
use Rattle.flushing.proofs.Laters.{Counting, after_is}
use Rattle.flushing.proofs.Flushes.{keeps, fit_after}
use Rattle.flushing.proofs.Cases.{flush_ok_done}
use Rattle.flushing.proofs.Thens.{then_failed, told_called}
use Rattle.flushing.proofs.Calls.{sound_fit, sound_call, flush_made, flush_ready, flush_unrefused}
use Rattle.writer.specs.Writer.{placed, readied, cold, device_write, device_write_all, written, device_flush, flush, flush_call}

-- ---- `write` and `write_all`, after the flush or without one

-- a device write, handed up
pub device_is : (script st me s : List ℕ) (state : State) (writes k : ℕ) (e : Exchange) (a : Said) (y : List ℕ) → e ≡ exchange (drop state.used script) state.used (min (length s) (length me - state.out)) → y ≡ put me state.out s (moves e.reply) → a ≡ write_said e.reply → k ≡ moves e.reply → record { answer = a; calls = writes + 1; held = state.held; out = state.out + k; used = e.used; storage = st; medium = y } ≡ reported (device_write script (world_after state st me writes) s)
unfolding device_write
device_is script st me s state writes k e a y pe py pa pk = cc (add-zero (writes + 1))

pub device_room : (left s me : List ℕ) (used out k : ℕ) (e : Exchange) → e ≡ exchange left used (min (length s) (length me - out)) → k ≡ moves e.reply → out ≤ length me → out + k ≤ length me
device_room left s me used out k e pe pk h =
    let m : moves e.reply ≤ min (length s) (length me - out) = rw pe (exchange_most left used (min (length s) (length me - out))) in
    omega arith

pub device_all_room : (left s me : List ℕ) (used out : ℕ) (f : Sent) → f ≡ send_from left (length s) (length me - out) 0 used 0 → out ≤ length me → out + f.sent ≤ length me
device_all_room left s me used out f pf h = rw pf (omega (arith, (within left (length s) (length me - out) 0 used 0).fits))

-- whatever the state, its bytes end within the medium, or it takes none
pub device_all_most : (left s me : List ℕ) (used out : ℕ) (f : Sent) → f ≡ send_from left (length s) (length me - out) 0 used 0 → f.sent ≤ length me - out
device_all_most left s me used out f pf = rw pf (omega (arith, (within left (length s) (length me - out) 0 used 0).fits))

pub device_all_few : (script s me : List ℕ) (used out writes : ℕ) (f : Sent) → f ≡ send_from (drop used script) (length s) (length me - out) 0 used 0 → used ≤ length script → writes ≤ used → writes + f.writes ≤ length script + 1
device_all_few script s me used out writes f pf h few =
    let k = within (drop used script) (length s) (length me - out) 0 used 0 in
    let l : length (drop used script) ≡ length script - used = length-drop used script in
    rw pf (omega (arith, k.count, k.end))

-- the default device write, counted from the writes before it
pub device_all_is : (script st me s : List ℕ) (state : State) (writes : ℕ) (f : Sent) (a : Said) (y : List ℕ) → f ≡ send_from (drop state.used script) (length s) (length me - state.out) 0 state.used 0 → y ≡ put me state.out s f.sent → a ≡ whole_said f.outcome → record { answer = a; calls = writes + f.writes; held = state.held; out = state.out + f.sent; used = f.used; storage = st; medium = y } ≡ reported (device_write_all script (world_after state st me writes) s)
unfolding device_write_all
device_all_is script st me s state writes f a y pf py pa =
    let run : send_from (drop state.used script) (length s) (length me - state.out) 0 state.used writes ≡ later writes f =
    ap (λ (k : ℕ). send_from (drop state.used script) (length s) (length me - state.out) 0 state.used k) (sym (add-zero writes))
    ∙ send_later (drop state.used script) (length s) (length me - state.out) 0 state.used 0 writes
    ∙ ap (λ (g : Sent). later writes g) (sym pf) in
    rw run (cc (add-zero (writes + f.writes)))

-- and from none
pub device_all_first : (script st me s : List ℕ) (state : State) (f : Sent) (a : Said) (y : List ℕ) → f ≡ send_from (drop state.used script) (length s) (length me - state.out) 0 state.used 0 → y ≡ put me state.out s f.sent → a ≡ whole_said f.outcome → record { answer = a; calls = f.writes; held = state.held; out = state.out + f.sent; used = f.used; storage = st; medium = y } ≡ reported (device_write_all script (world_of state st me) s)
device_all_first script st me s state f a y pf py pa =
    let none : f.writes ≡ 0 + f.writes = omega arith in
    rw none (device_all_is script st me s state 0 f a y pf py pa)

-- what the device said no with says what it says; and so does a run that was stopped
pub reply_says : (e : DeviceError) (r : Reply) → r ≡ Err e → failed (failure_by e) ≡ write_said r
reply_says Interrupted r q = rw q refl
reply_says (Error code) r q = rw q refl

pub flush_reply_says : (e : DeviceError) (r : Reply) → r ≡ Err e → failed (failure_by e) ≡ flush_reply_said r
flush_reply_says Interrupted r q = rw q refl
flush_reply_says (Error code) r q = rw q refl

pub whole_says : (o : Outcome) (a : Result Unit Failure) → MatchResult o (λ x. a ≡ Ok x) (λ stop. IsErrAnd a (λ f. f ≡ whole_failure stop)) → said_done a ≡ whole_said o
whole_says (Ok nothing) a q = rw q refl
whole_says (Err stop) a q =
    let p = err_from_is_err_and a q in
    rw (p.1, p.2) (stopped stop)
  where
    stopped : (s : Stop) → failed (whole_failure s) ≡ whole_said (Err s)
    stopped Zero = refl
    stopped (Failed code) = refl

-- a slice that is no shorter than the capacity goes to the device
pub placed_direct : (answer : Said) (device : World → Called) (w : World) (s : List ℕ) (t : Told) → t ≡ reported (device w) → capacity w ≤ length s → t ≡ reported (placed answer device w s)
unfolding placed
placed_direct answer device w s t q h = rw (le-leb _ _ h) q

-- a slice stored
pub stored_is : (st me s : List ℕ) (state : State) (writes : ℕ) (answer : Said) (device : World → Called) (x : List ℕ) → x ≡ put st state.held s (length s) → state.held + min (length s) (length st) ≤ length st → length s < length st → record { answer = answer; calls = writes; held = state.held + length s; out = state.out; used = state.used; storage = x; medium = me } ≡ reported (placed answer device (world_after state st me writes) s)
unfolding placed
stored_is st me s state writes answer device x px h k = rw (lt-leb _ _ k) (cc (add-zero writes))

-- a slice that fits with room to spare
pub road_hot : (script st me s : List ℕ) (state : State) (writes : ℕ) (answer : Said) (device : World → Called) (x : List ℕ) → x ≡ put st state.held s (length s) → length s < length st - state.held → record { answer = answer; calls = writes; held = state.held + length s; out = state.out; used = state.used; storage = x; medium = me } ≡ reported (written script answer device (world_after state st me writes) s)
unfolding written
road_hot script st me s state writes answer device x px h = rw (lt-ltb _ _ h) (cc (add-zero writes))

-- a writer that kept a slice behind its held bytes
module _ (v w : BufWriter) (s : List ℕ) (pk : w.storage.now ≡ put v.storage.now v.state.held s (length s)) (ps : w.state ≡ record { held = v.state.held + length s; out = v.state.out; used = v.state.used }) (pm : w.medium.now ≡ v.medium.now) (pc : w.calls ≡ v.calls) where
  store_tells : (a answer : Said) → a ≡ answer → tells a w ≡ record { answer = answer; calls = v.calls; held = v.state.held + length s; out = v.state.out; used = v.state.used; storage = put v.storage.now v.state.held s (length s); medium = v.medium.now }
  store_tells a answer pa = λ i. record { answer = pa i; calls = pc i; held = (ps i).held; out = (ps i).out; used = (ps i).used; storage = pk i; medium = pm i }

  pub placed_tells : (a answer : Said) (device : World → Called) → a ≡ answer → v.state.held + min (length s) (length v.storage.now) ≤ length v.storage.now → length s < length v.storage.now → tells a w ≡ reported (placed answer device (counting v) s)
  placed_tells a answer device pa h k = store_tells a answer pa ∙ stored_is v.storage.now v.medium.now s v.state v.calls answer device _ refl h k

  pub hot_tells : (script : List ℕ) (a answer : Said) (device : World → Called) → a ≡ answer → v.calls ≡ 0 → length s < length v.storage.now - v.state.held → tells a w ≡ reported (written script answer device (world v) s)
  hot_tells script a answer device pa z h =
      store_tells a answer pa
      ∙ road_hot script v.storage.now v.medium.now s v.state v.calls answer device _ refl h
      ∙ ap (λ (k : ℕ). reported (written script answer device (world_after v.state v.storage.now v.medium.now k) s)) z

-- a failure is no ok
pub failed_not_ok : (f : Failure) → is_ok (failed f) ≡ false
failed_not_ok CutOff = refl
failed_not_ok TookNone = refl
failed_not_ok Whole = refl
failed_not_ok (Fails code) = refl
failed_not_ok (Refused number) = refl

-- a world that fits the script fits it where it was lent on
pub fit_on : (v w : BufWriter) (u : World) → Lent v w → Fit v.script.now u → Fit w.script.now u
fit_on v w u l h = rw l.script h

pub sound_lent : (v w : BufWriter) (u : World) → Lent v w → Sound v.script.now u → Sound w.script.now u
sound_lent v w u l h = rw l.script h

-- a step that counted from none, x the writer after it, whose device calls are added to those before it
pub counted_on : (w x : BufWriter) (a : Said) (step : World → Called) → Counting step → tells a x ≡ reported (step (world w)) → record { answer = a; calls = x.calls + w.calls; held = x.state.held; out = x.state.out; used = x.state.used; storage = x.storage.now; medium = x.medium.now } ≡ reported (step (counting w))
counted_on w x a step later e =
    let sum : x.calls + w.calls ≡ w.calls + x.calls = omega arith in
    rw sum (after_is w.script.now w.storage.now w.medium.now w.state step (left a x) x.storage.now x.medium.now w.calls later e)

-- the default device write makes few of them
pub direct_few : (w x : BufWriter) (s : List ℕ) (a : Said) → Fit w.script.now (counting w) → tells a x ≡ reported (device_write_all w.script.now (world w) s) → x.calls + w.calls ≤ length w.script.now + 1
unfolding device_write_all
direct_few w x s a fit e =
    let k = within (drop w.state.used w.script.now) (length s) (length w.medium.now - w.state.out) 0 w.state.used 0 in
    let l : length (drop w.state.used w.script.now) ≡ length w.script.now - w.state.used = length-drop w.state.used w.script.now in
    let calls = ap (λ (t : Told). t.calls) e in
    omega (arith, k.count, k.end, fit.used, fit.few, calls)

-- ---- the cold road

-- room made, or there
module _ (script st me : List ℕ) (state : State) (n : ℕ) (sound : Sound script (world_of state st me)) where
  pub room_flushed : (r : Answered) (x y : List ℕ) → told r x y ≡ reported (flush_buf_call script (world_of state st me)) → length st - state.held < n → told r x y ≡ reported (readied script (world_of state st me) n)
  unfolding readied flush_buf_call
  room_flushed r x y e h = rw (lt-ltb _ _ h) (e ∙ ap reported (sound_call script (world_of state st me) (λ v. flush_buf script v) sound))

  pub room_there : n ≤ length st - state.held → record { answer = done; calls = 0; held = state.held; out = state.out; used = state.used; storage = st; medium = me } ≡ reported (readied script (world_of state st me) n)
  unfolding readied
  room_there h = rw (le-ltb _ _ h) refl

  pub room_kept : (calls : ℕ) → calls ≡ 0 → n ≤ length st - state.held → record { answer = done; calls = calls; held = state.held; out = state.out; used = state.used; storage = st; medium = me } ≡ reported (readied script (world_of state st me) n)
  room_kept calls z h = rw z (room_there h)

  -- what is so of it
  record Readied (c : Called) : Type 0 where
    pub flushes : c.world.flushes ≡ 0
    pub ready : is_ok c.answer ≡ true → Fit script c.world × (c.world.held + min n (length c.world.storage) ≤ length c.world.storage)

  readied_is : Readied (readied script (world_of state st me) n)
  unfolding readied
  readied_is =
      let fit = sound_fit script (world_of state st me) sound (omega arith) in
      pick_holds Readied (ltb (length st - state.held) n) (flush_buf script (world_of state st me)) (nothing (world_of state st me))
      (λ t. record {
        flushes = (keeps script (world_of state st me) fit).flushes_same;
        ready = λ o.
            let f = fit_after script (world_of state st me) (flush_buf script (world_of state st me)).world fit (ap (λ (a : Said). record { answer = a; world = (flush_buf script (world_of state st me)).world }) (flush_ok_done script (world_of state st me) o)) in
            (f.0, emptied (flush_buf script (world_of state st me)).world.held n (length (flush_buf script (world_of state st me)).world.storage) f.1);
      })
      (λ t. record { flushes = refl; ready = λ o. (fit, fits state.held n (length st) fit.held (ltb-false (length st - state.held) n t)) })
    where
      emptied : (h a k : ℕ) → h ≡ 0 → h + min a k ≤ k
      emptied h a k z = omega arith

      fits : (a b c : ℕ) → a ≤ c → b ≤ c - a → a + min b c ≤ c
      fits a b c p q = omega arith

  -- for those who make room
  module _ (r : Answered) (x y : List ℕ) (e : told r x y ≡ reported (readied script (world_of state st me) n)) where
    pub room_made : readied script (world_of state st me) n ≡ record { answer = r.answer; world = world_after r.state x y r.calls }
    room_made = told_called (readied script (world_of state st me) n) r x y e readied_is.flushes

    pub room_ready : is_ok (r.answer) ≡ true → Fit script (world_after r.state x y r.calls) × (r.state.held + min n (length x) ≤ length x)
    room_ready o =
        let k : Readied (record { answer = r.answer; world = world_after r.state x y r.calls }) = subst Readied room_made readied_is in
        k.ready o

module _ (script : List ℕ) (answer : Said) (device : World → Called) (w : World) (s : List ℕ) where
  pub road_cold : (t : Told) → t ≡ reported (cold script answer device w s) → spare w ≤ length s → t ≡ reported (written script answer device w s)
  unfolding written
  road_cold t q h = rw (le-ltb _ _ h) q

-- ---- `flush`

module _ (script st me : List ℕ) (state : State) (r : Answered) (x y : List ℕ) (e : told r x y ≡ reported (flush_buf_call script (world_of state st me))) where
  pub flush_stopped_is : is_ok (r.answer) ≡ false → told r x y ≡ reported (flush_call script (world_of state st me))
  unfolding flush_call flush_buf_call refusing flush
  flush_stopped_is o =
      by_test (eqb (refusal_of (length st) (length script) (length me) 0 state.held state.out state.used 0) 0)
      (λ t.
      let q : told r x y ≡ reported (flush_buf script (world_of state st me)) = rw t at e in
      let n : is_ok (flush_buf script (world_of state st me)).answer ≡ false = ap is_ok (sym (ap (λ (u : Told). u.answer) q)) ∙ o in
      rw t (q ∙ ap reported (sym (then_failed (flush_buf script (world_of state st me)) (λ v. device_flush script v) n))))
      (λ t. rw t (rw t at e))

  module _ (o : is_ok (r.answer) ≡ true) where
    sound : Sound script (world_of state st me)
    sound = flush_unrefused script st me state r x y e o

    pub few_calls : r.calls ≤ length script
    few_calls =
        let f = flush_ready script st me state r x y e sound o in
        omega (arith, f.0.few, f.0.used)

    pub flush_done_is : (g : Exchange) (b : Said) → g ≡ exchange (drop r.state.used script) r.state.used 0 → b ≡ flush_reply_said g.reply → record { answer = b; calls = r.calls + 1; held = r.state.held; out = r.state.out; used = g.used; storage = x; medium = y } ≡ reported (flush_call script (world_of state st me))
    unfolding flush_call flush and_then device_flush
    flush_done_is g b pg pb =
        rw (sound_call script (world_of state st me) (λ v. flush script v) sound)
        (rw (flush_made script st me state r x y e sound) (rw o (cc)))
