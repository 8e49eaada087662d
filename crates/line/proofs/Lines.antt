-- The line writer's definitions as the code builds them.
-- Assumes nothing.
use mathlib.Core.Path.{◌≡◌, refl, sym, ap, ap₂, ◌∙◌, subst}
use mathlib.Core.Bool.{Bool, true, false}
use mathlib.Core.List.{List}
use Prim.Native.Nat.{ℕ, ◌+◌, ◌-◌, ◌≤◌, min}
use native.Mathlib.Nat.{add-zero}
use native.Mathlib.Omega.{arith}
use lib.ListN.{length, take, drop, length-take, length-drop}
use lib.Dec.{leb, eqb}
use borrow.Author.Tests.{eq-eqb, ne_eqb, leb-true, leb-false}
use Rattle.laws.specs.Pick.{pick}
use Rattle.laws.specs.Put.{put}
use Rattle.laws.proofs.Parts.{rest}
use Rattle.card.specs.declared.Exchange.{Exchange}
use Rattle.card.specs.declared.DeviceError.{DeviceError}
use Rattle.card.specs.declared.DeviceError.TheVariants.{Interrupted, Error}
use Rattle.card.specs.Answers.{Said, ok, failed, failure_by}
use Rattle.card.specs.Device.{exchange, moves}
use Rattle.card.specs.Limits.{script_most, bytes_most, length_refusal}
use Rattle.card.proofs.Replies.{exchange_most}
use Rattle.card.proofs.Refusals.{length_within, length_unrefused}
use Rattle.flushing.specs.declared.State.{State}
use Rattle.flushing.specs.declared.BufWriter.{BufWriter}
use Rattle.flushing.specs.World.{World, Called, Told, Lent, Fit, Sound, world, counting, left, tells, world_after, reported, taken, is_ok, and_then, nothing, refusing}
use Rattle.flushing.specs.Send.{write_said}
use Rattle.flushing.specs.Flush.{flush_buf, flush_buf_call}
use Rattle.flushing.proofs.Thens.{then_ok, then_assoc, then_done, then_stopped, told_called}
use Rattle.flushing.proofs.Calls.{limits, sound_fit, sound_on, sound_call}
use Rattle.flushing.proofs.Laters.{Counting, after_is, called_is}
use Rattle.flushing.proofs.Counts.{Reports, Uses, few_calls, flush_buf_counts, flush_buf_uses}
use Rattle.writer.specs.Writer.{device_write, device_write_all, write, write_all, write_all_call}
use Rattle.writer.proofs.Goes.{Goes, flush_goes}
use Rattle.line.specs.Line.{lines_length, ends_line, completed, window, tail_kept, keep_tail, send_lines, line_write, lines_all, line_write_all}
use Rattle.line.proofs.Newlines.{window_most, lines_most}
use Rattle.std.specs.Prelude.{Ok, Err}

-- ---- how much is kept

at_most : (most s e f k : ℕ) → f ≤ e → e ≤ s → k ≤ min most (s - f) → (k ≤ most) × (f + k ≤ s)
at_most most s e f k a b h = omega arith

tail_least : (most : ℕ) (s : List ℕ) (e f : ℕ) → f ≤ e → e ≤ length s → tail_kept most s e f ≤ min most (length s - f)
unfolding tail_kept
tail_least most s e f h l = by (eqb f 0) (leb e f) (leb most (length s - f)) refl (leb (e - f) most) refl
  where
    by : (a b c : Bool) → leb most (length s - f) ≡ c → (d : Bool) → leb (e - f) most ≡ d → pick a 0 (pick b (pick c 0 (length s - f)) (pick d (e - f) (window (take most (drop f s))))) ≤ min most (length s - f)
    by true b c pc d pd = omega arith
    by false true true pc d pd = omega arith
    by false true false pc d pd =
        let k = leb-false most (length s - f) pc in
        omega arith
    by false false c pc true pd =
        let k = leb-true (e - f) most pd in
        omega arith
    by false false c pc false pd =
        let m = window_most (take most (drop f s)) in
        let n : length (take most (drop f s)) ≡ min most (length s - f) = length-take most (drop f s) ∙ ap (λ (j : ℕ). min most j) (length-drop f s) in
        omega (arith, m, n)

pub tail_most : (most : ℕ) (s : List ℕ) (e f k : ℕ) → k ≡ tail_kept most s e f → f ≤ e → e ≤ length s → (k ≤ most) × (f + k ≤ length s)
tail_most most s e f k q h l = at_most most (length s) e f k h l (rw q (tail_least most s e f h l))

-- ---- the device write of the lines

module _ (script st me s : List ℕ) (state : State) (e writes : ℕ) (x : Exchange) (px : x ≡ exchange (drop state.used script) state.used (min (length (take e s)) (length me - state.out))) where
  pub lines_taken : (f : ℕ) → x.reply ≡ Ok f → f ≤ e
  lines_taken f q =
      let m : moves x.reply ≤ min (length (take e s)) (length me - state.out) = rw px (exchange_most (drop state.used script) state.used (min (length (take e s)) (length me - state.out))) in
      let n : f ≤ min (length (take e s)) (length me - state.out) = rw q at m in
      let l : length (take e s) ≡ min e (length s) = length-take e s in
      below f (length (take e s)) (length me - state.out) e (length s) n l
    where
      below : (a b c d g : ℕ) → a ≤ min b c → b ≡ min d g → a ≤ d
      below a b c d g h k = omega arith

  device_told : device_write script (world_after state st me writes) (take e s) ≡ record { answer = write_said x.reply; world = taken (world_after state st me writes) (take e s) (moves x.reply) x.used (writes + 1) }
  unfolding device_write
  device_told = ap (λ (g : Exchange). record { answer = write_said g.reply; world = taken (world_after state st me writes) (take e s) (moves g.reply) g.used (writes + 1) }) (sym px)

  module _ (y : List ℕ) (py : y ≡ put me state.out (take e s) (moves x.reply)) where
    pub lines_kept : (f k : ℕ) (z : List ℕ) → x.reply ≡ Ok f → k ≡ tail_kept (length st) s e f → z ≡ put st state.held (take (length s - f) (drop f s)) (min k (min (length (take (length s - f) (drop f s))) (length st - state.held))) → state.held ≡ 0 → e ≤ length s → record { answer = ok (f + k); calls = writes + 1; held = state.held + k; out = state.out + f; used = x.used; storage = z; medium = y } ≡ reported (send_lines script (world_after state st me writes) s e)
    unfolding send_lines and_then keep_tail
    lines_kept f k z q pk pz h l =
        let most = tail_most (length st) s e f k pk (lines_taken f q) l in
        let part : take (length s - f) (drop f s) ≡ drop f s = rest f s in
        let long : length (take (length s - f) (drop f s)) ≡ length s - f = ap length part ∙ length-drop f s in
        let cut : min k (min (length (take (length s - f) (drop f s))) (length st - state.held)) ≡ k = uncut k f (length s) (length st) state.held (length (take (length s - f) (drop f s))) long h most.0 most.1 in
        let z-is : z ≡ put st state.held (drop f s) k = pz ∙ ap₂ (λ (a : List ℕ) (b : ℕ). put st state.held a b) part cut in
        rw device_told (rw q (cc (add-zero (writes + 1))))
      where
        uncut : (k' f' a b c d : ℕ) → d ≡ a - f' → c ≡ 0 → k' ≤ b → f' + k' ≤ a → min k' (min d (b - c)) ≡ k'
        uncut k' f' a b c d p r m n = omega arith

    pub lines_stopped : (d : DeviceError) → x.reply ≡ Err d → record { answer = failed (failure_by d); calls = writes + 1; held = state.held; out = state.out; used = x.used; storage = st; medium = y } ≡ reported (send_lines script (world_after state st me writes) s e)
    unfolding send_lines and_then
    lines_stopped Interrupted q = rw device_told (rw q (cc (add-zero (writes + 1), add-zero state.out)))
    lines_stopped (Error code) q = rw device_told (rw q (cc (add-zero (writes + 1), add-zero state.out)))

-- ---- one step after another, each counted from none

-- a step that is told from a sound world makes few device calls
pub step_few : (v w : BufWriter) (a : Said) (call : World → Called) → ((u : World) → Reports u (call u)) → ((u : World) → Uses v.script.now u (call u)) → tells a w ≡ reported (call (world v)) → Sound v.script.now (world v) → w.calls ≤ script_most + 1
step_few v w a call counts uses e sound =
    let u = limits v.script.now (world v) sound in
    let k = few_calls v.script.now v.storage.now v.medium.now v.state (call (world v)) w.calls (counts (world v)) (uses (world v)) u.used_fits (ap (λ (t : Told). t.calls) e) in
    omega (arith, k, u.script_within)

-- the first step from a sound writer v, which answers a and leaves it w
module _ (v w : BufWriter) (a : Said) (first : World → Called) (ea : tells a w ≡ reported (first (world v))) (sound : Sound v.script.now (world v)) (goes : Goes v.script.now (world v) (first (world v))) where
  first_is : first (world v) ≡ record { answer = a; world = counting w }
  first_is = told_called (first (world v)) (left a w) w.storage.now w.medium.now ea goes.flushes

  -- where it failed, that is all
  pub step_stopped : (next : World → Called) → is_ok a ≡ false → tells a w ≡ reported (and_then (first (world v)) next)
  step_stopped next o = then_stopped (first (world v)) next w.state w.storage.now w.medium.now w.calls a first_is o

  -- where it succeeded
  module _ (o : is_ok a ≡ true) where
    ready : Goes v.script.now (world v) (record { answer = a; world = counting w })
    ready = subst (λ (c : Called). Goes v.script.now (world v) c) first_is goes

    pub next_fit : Fit v.script.now (counting w)
    next_fit = ready.fit o

    pub next_sound : Sound v.script.now (world w)
    next_sound =
        let f = next_fit in
        let g = ready in
        sound_on v.script.now (world v) (world w) sound g.storage_long g.medium_long (omega (arith, f.held, g.storage_long)) (omega (arith, f.out, g.medium_long)) f.used

    -- the next step goes on in it
    pub next_going : (next : World → Called) (t : Told) → t ≡ reported (next (counting w)) → t ≡ reported (and_then (first (world v)) next)
    next_going next t q = then_done (first (world v)) next (counting w) a t first_is o q

    -- or counts from none, and its device calls are added; x is the writer after it
    module _ (x : BufWriter) (b : Said) (next : World → Called) (eb : tells b x ≡ reported (next (world w))) where
      pub next_few : ((u : World) → Reports u (next u)) → ((u : World) → Uses v.script.now u (next u)) → x.calls ≤ script_most + 1
      next_few counts uses =
          let f = next_fit in
          let k = few_calls v.script.now w.storage.now w.medium.now w.state (next (world w)) x.calls (counts (world w)) (uses (world w)) f.used (ap (λ (t : Told). t.calls) eb) in
          omega (arith, k, (limits v.script.now (world v) sound).script_within)

      pub next_counted : Counting next → (k : ℕ) → k ≡ x.calls + w.calls → record { answer = b; calls = k; held = x.state.held; out = x.state.out; used = x.state.used; storage = x.storage.now; medium = x.medium.now } ≡ reported (and_then (first (world v)) next)
      next_counted counting k q =
          let r : k ≡ w.calls + x.calls = omega arith in
          rw r (next_going next _ (after_is v.script.now w.storage.now w.medium.now w.state next (left b x) x.storage.now x.medium.now w.calls counting eb))

-- the flush of the buffer as a first step
module _ (v w : BufWriter) (a : Said) (e : tells a w ≡ reported (flush_buf_call v.script.now (world v))) (sound : Sound v.script.now (world v)) where
  pub flush_step : tells a w ≡ reported (flush_buf v.script.now (world v))
  unfolding flush_buf_call
  flush_step = e ∙ ap reported (sound_call v.script.now (world v) (λ u. flush_buf v.script.now u) sound)

  pub flush_leaves : Goes v.script.now (world v) (flush_buf v.script.now (world v))
  flush_leaves = flush_goes v.script.now (world v) (sound_fit v.script.now (world v) sound (omega arith))

  pub flush_few : w.calls ≤ script_most + 1
  flush_few = step_few v w a (λ u. flush_buf v.script.now u) (λ u. flush_buf_counts v.script.now u) (λ u. flush_buf_uses v.script.now u) flush_step sound

-- a writer that lends the script on is as sound, and a call of it told the same
pub lent_script : (v w : BufWriter) → Lent v w → w.script.now ≡ v.script.now
lent_script v w l = ap (λ s. s.now) l.script

-- a plain call that no refusal meets is its step
pub plain_is : (w : BufWriter) (x : BufWriter) (b : Said) (script : List ℕ) (own : ℕ) (call : World → Called) → tells b x ≡ reported (refusing script (world w) own call) → own ≡ 0 → Sound script (world w) → tells b x ≡ reported (call (world w))
plain_is w x b script own call e z sound = called_is script (world w) own call (tells b x) e z sound refl refl

-- the parts of a slice are not too long
pub short : (s : List ℕ) → length s ≤ bytes_most → length_refusal (length s) ≡ 0
short s h = length_within (length s) h

pub short_take : (e : ℕ) (s : List ℕ) → length s ≤ bytes_most → length_refusal (length (take e s)) ≡ 0
short_take e s h =
    let l : length (take e s) ≡ min e (length s) = length-take e s in
    length_within (length (take e s)) (omega arith)

pub short_rest : (e : ℕ) (s : List ℕ) → length s ≤ bytes_most → length (take (length s - e) (drop e s)) ≤ bytes_most
short_rest e s h =
    let l : length (take (length s - e) (drop e s)) ≡ length s - e = ap length (rest e s) ∙ length-drop e s in
    omega arith

-- `write_all` of the lines as a first step
pub through_step : (v w : BufWriter) (a : Said) (e : ℕ) (s : List ℕ) → tells a w ≡ reported (write_all_call v.script.now (world v) (take e s)) → length s ≤ bytes_most → Sound v.script.now (world v) → tells a w ≡ reported (write_all v.script.now (world v) (take e s))
unfolding write_all_call
through_step v w a e s t h sound = plain_is v w a v.script.now (length_refusal (length (take e s))) (λ u. write_all v.script.now u (take e s)) t (short_take e s h) sound

-- the tail, as the part `&slice[e..]`, by the plain `write_all` and behind a flush
module _ (v w x : BufWriter) (b : Said) (e : ℕ) (s : List ℕ) (lent : Lent v w) where
  pub plain_rest : tells b x ≡ reported (write_all_call w.script.now (world w) (take (length s - e) (drop e s))) → length s ≤ bytes_most → Sound v.script.now (world w) → tells b x ≡ reported (write_all v.script.now (world w) (drop e s))
  unfolding write_all_call
  plain_rest t h sound =
      let t' : tells b x ≡ reported (refusing v.script.now (world w) (length_refusal (length (take (length s - e) (drop e s)))) (λ u. write_all v.script.now u (take (length s - e) (drop e s)))) = rw lent.script at t in
      plain_is w x b v.script.now _ (λ u. write_all v.script.now u (take (length s - e) (drop e s))) t' (short _ (short_rest e s h)) sound
      ∙ ap (λ (m : List ℕ). reported (write_all v.script.now (world w) m)) (rest e s)

  pub flushed_rest : tells b x ≡ reported (and_then (flush_buf w.script.now (world w)) (λ u. write_all w.script.now u (take (length s - e) (drop e s)))) → tells b x ≡ reported (and_then (flush_buf v.script.now (world w)) (λ u. write_all v.script.now u (drop e s)))
  flushed_rest t = rw lent.script at t ∙ ap (λ (m : List ℕ). reported (and_then (flush_buf v.script.now (world w)) (λ u. write_all v.script.now u m))) (rest e s)

pub unrefused_short : (n : ℕ) → 0 ≡ length_refusal n → n ≤ bytes_most
unrefused_short n e = length_unrefused n (sym e)

-- ---- the roads of the two calls, where no refusal meets them

module _ (script : List ℕ) (w : World) (s : List ℕ) (e : ℕ) (pe : e ≡ lines_length s) where
  pub line_lines : (t : Told) → (e ≡ 0 → ⊥) → t ≡ reported (and_then (flush_buf script w) (λ v. send_lines script v s e)) → t ≡ reported (line_write script w s)
  unfolding line_write
  line_lines t n q = rw (← pe) (rw (ne_eqb e 0 n) q)

  module _ (z : e ≡ 0) (b : Bool) (pb : b ≡ ends_line w.storage w.held) where
    pub line_completed : (t : Told) → b ≡ true → t ≡ reported (and_then (flush_buf script w) (λ v. write script v s)) → t ≡ reported (line_write script w s)
    unfolding line_write completed
    line_completed t o q = rw (← pe) (rw (eq-eqb e 0 z, ← pb, o) q)

    pub line_plain : (t : Told) → b ≡ false → t ≡ reported (write script w s) → t ≡ reported (line_write script w s)
    unfolding line_write completed
    line_plain t o q = rw (← pe) (rw (eq-eqb e 0 z, ← pb, o) (rw (then_ok (nothing w) (λ v. write script v s) refl) q))

    pub line_all_completed : (t : Told) → b ≡ true → t ≡ reported (and_then (flush_buf script w) (λ v. write_all script v s)) → t ≡ reported (line_write_all script w s)
    unfolding line_write_all completed
    line_all_completed t o q = rw (← pe) (rw (eq-eqb e 0 z, ← pb, o) q)

    pub line_all_plain : (t : Told) → b ≡ false → t ≡ reported (write_all script w s) → t ≡ reported (line_write_all script w s)
    unfolding line_write_all completed
    line_all_plain t o q = rw (← pe) (rw (eq-eqb e 0 z, ← pb, o) (rw (then_ok (nothing w) (λ v. write_all script v s) refl) q))

  pub line_all_direct : (t : Told) → (e ≡ 0 → ⊥) → w.held ≡ 0 → t ≡ reported (and_then (device_write_all script w (take e s)) (λ v. write_all script v (drop e s))) → t ≡ reported (line_write_all script w s)
  unfolding line_write_all lines_all
  line_all_direct t n h q = rw (← pe) (rw (ne_eqb e 0 n, eq-eqb w.held 0 h) q)

  pub line_all_through : (t : Told) → (e ≡ 0 → ⊥) → (w.held ≡ 0 → ⊥) → t ≡ reported (and_then (write_all script w (take e s)) (λ v. and_then (flush_buf script v) (λ u. write_all script u (drop e s)))) → t ≡ reported (line_write_all script w s)
  unfolding line_write_all lines_all
  line_all_through t n h q =
      rw (← pe)
      (rw (ne_eqb e 0 n, ne_eqb w.held 0 h)
      (q ∙ sym (ap reported (then_assoc (write_all script w (take e s)) (λ v. flush_buf script v) (λ u. write_all script u (drop e s))))))

pub lines_within : (e : ℕ) (s : List ℕ) → e ≡ lines_length s → e ≤ length s
lines_within e s q = rw q (lines_most s)
