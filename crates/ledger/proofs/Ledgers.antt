-- The ledger: whatever the calls, the script and the medium, medium then held bytes are the answered prefixes in call order.
-- Assumes nothing.
use mathlib.Core.Path.{◌≡◌, refl, sym, ◌∙◌, subst}
use mathlib.Core.Bool.{Bool, true, false}
use mathlib.Core.List.{List, [], ◌∷◌}
use Prim.Native.Nat.{ℕ, ◌+◌, ◌-◌, ◌≤◌, min}
use native.Mathlib.Omega.{arith}
use lib.ListN.{length, take, drop, length-drop, length-take}
use lib.Seq.{take-add, take-take, take-nil}
use lib.Dec.{eqb}
use Rattle.laws.specs.Pick.{pick}
use Rattle.card.specs.Answers.{Said, ok, done, refused}
use Rattle.card.specs.Limits.{refusal_of, length_refusal}
use Rattle.card.specs.Device.{exchange, moves, Reply}
use Rattle.card.proofs.Replies.{exchange_most, takes_fit, used_of_exchange}
use Rattle.flushing.specs.World.{World, Called, Fit, taken, kept, capacity, room, replies, is_ok, and_then, nothing, refusing, begun, new, count_of}
use Rattle.flushing.specs.Send.{write_said, send_from}
use Rattle.flushing.specs.Flush.{flush_buf}
use Rattle.writer.specs.Writer.{stored, device_write, write, device_flush, flush, write_call, flush_call}
use Rattle.line.specs.Line.{lines_length, ends_line, completed, tail_kept, keep_tail, send_lines, line_write, line_write_call}
use Rattle.ledger.specs.Ledger.{Call, made, accepted, slice, after, prefixes, ledger}
use Rattle.flushing.proofs.Sends.{within}
use Rattle.flushing.proofs.Thens.{then_ok, then_cases}
use Rattle.flushing.proofs.Cases.{flush_ok_done, flush_cases}
use Rattle.writer.proofs.Cases.{written_cases, placed_by}
use Rattle.ledger.proofs.Moves.{In, fit_in, Moved, moved_in, moved_then, unmoved, drained_moved, taken_moved, kept_moved}
use Rattle.line.proofs.Newlines.{lines_most}
use Rattle.line.proofs.Lines.{tail_most}
use Rattle.std.specs.Prelude.{Ok, Err}
use Rattle.card.specs.declared.DeviceError.TheVariants.{Interrupted, Error}

-- ---- the parts

pub flush_buf_moved : (script : List ℕ) (w : World) → In script w → Moved script w (flush_buf script w).world []
unfolding flush_buf
flush_buf_moved script w i =
    let f = send_from (replies script w) w.held (room w) 0 w.used w.writes in
    let k = within (replies script w) w.held (room w) 0 w.used w.writes in
    let replies-left : length (replies script w) ≡ length script - w.used = length-drop w.used script in
    drained_moved script w f.sent f.used f.writes i (omega (arith, k.most)) (omega (arith, k.fits, i.out)) (omega (arith, k.end, i.used))

-- what one device write moves is what it accepts
write_moves : (s : List ℕ) (r : Reply) → take (moves r) s ≡ accepted s (write_said r)
write_moves s (Ok n) = refl
write_moves s (Err Interrupted) = refl
write_moves s (Err (Error code)) = refl

pub device_write_moved : (script : List ℕ) (w : World) (s : List ℕ) → In script w → w.held ≡ 0 → Moved script w (device_write script w s).world (accepted s (device_write script w s).answer)
unfolding device_write
device_write_moved script w s i z =
    let e = exchange (replies script w) w.used (min (length s) (room w)) in
    let m = exchange_most (replies script w) w.used (min (length s) (room w)) in
    let both = split (moves e.reply) (length s) (length w.medium) w.out m i.out in
    let fits : e.used ≤ length script = rw (used_of_exchange e (replies script w) w.used (min (length s) (room w)) refl) (takes_fit script w.used i.used) in
    subst (λ (p : List ℕ). Moved script w (taken w s (moves e.reply) e.used (w.writes + 1)) p) (write_moves s e.reply) (taken_moved script w s (moves e.reply) e.used (w.writes + 1) i z both.0 both.1 fits)
  where
    split : (k a b o : ℕ) → k ≤ min a (b - o) → o ≤ b → (k ≤ a) × (o + k ≤ b)
    split k a b o h l = (omega arith, omega arith)

stopped_accepts : (script : List ℕ) (w : World) (s : List ℕ) → ((flush_buf script w).answer ≡ done → ⊥) → accepted s (flush_buf script w).answer ≡ []
stopped_accepts script w s e = by (is_ok (flush_buf script w).answer) refl
  where
    by : (t : Bool) → is_ok (flush_buf script w).answer ≡ t → accepted s (flush_buf script w).answer ≡ []
    by true q = absurd (e (flush_ok_done script w q))
    by false q = rw q

-- a flush first: what follows it moves all that there is to move
after_flush : (script : List ℕ) (w v : World) (c : Called) (p : List ℕ) → In script w → flush_buf script w ≡ record { answer = done; world = v } → Moved script v c.world p → Moved script w c.world p
after_flush script w v c p i q m =
    let first : Moved script w v [] = subst (λ (x : Called). Moved script w x.world []) q (flush_buf_moved script w i) in
    moved_then script w v c.world [] p first m

-- ---- the plain writer

pub write_moved : (script : List ℕ) (w : World) (s : List ℕ) → Fit script w → Moved script w (write script w s).world (accepted s (write script w s).answer)
unfolding write
write_moved script w s fit =
    let i = fit_in script w fit in
    written_cases script (ok (length s)) (λ v. device_write script v s) w s (λ (c : Called). Moved script w c.world (accepted s c.answer)) fit
    (λ h l. kept_moved script w s (length s) i (omega arith) h)
    (λ z l. device_write_moved script w s i z)
    (λ v q f z l.
    placed_by (ok (length s)) (λ u. device_write script u s) v s (λ (c : Called). Moved script w c.world (accepted s c.answer))
    (λ m. after_flush script w v (device_write script v s) _ i q (device_write_moved script v s (fit_in script v f) z))
    (λ m. after_flush script w v (stored (ok (length s)) v s) _ i q (kept_moved script v s (length s) (fit_in script v f) (omega arith) (omega arith))))
    (λ e l. subst (λ (p : List ℕ). Moved script w (flush_buf script w).world p) (sym (stopped_accepts script w s e)) (flush_buf_moved script w i))

device_flush_moved : (script : List ℕ) (w : World) → In script w → Moved script w (device_flush script w).world []
unfolding device_flush
device_flush_moved script w i =
    let e = exchange (replies script w) w.used 0 in
    unmoved script w _ i refl refl refl refl (rw (used_of_exchange e (replies script w) w.used 0 refl) (takes_fit script w.used i.used))

pub flush_moved : (script : List ℕ) (w : World) → Fit script w → Moved script w (flush script w).world []
unfolding flush
flush_moved script w fit =
    let i = fit_in script w fit in
    flush_cases script w (λ v. device_flush script v) (λ (c : Called). Moved script w c.world []) fit
    (λ v q f z. after_flush script w v (device_flush script v) [] i q (device_flush_moved script v (fit_in script v f)))
    (λ e. flush_buf_moved script w i)

-- ---- the line writer

-- a device write that is ok takes at most what it is offered
ok_count : (s : List ℕ) (most : ℕ) (r : Reply) → is_ok (write_said r) ≡ true → moves r ≤ min (length s) most → count_of (write_said r) ≤ length s
ok_count s most (Ok n) o h = omega arith
ok_count s most (Err Interrupted) o h = omega arith
ok_count s most (Err (Error code)) o h =
    let z : ◌≡◌ {A = ℕ} 0 1 = cc in
    absurd (omega arith)

write_count : (script : List ℕ) (w : World) (s : List ℕ) → is_ok (device_write script w s).answer ≡ true → count_of (device_write script w s).answer ≤ length s
unfolding device_write
write_count script w s o =
    ok_count s (room w) (exchange (replies script w) w.used (min (length s) (room w))).reply o (exchange_most (replies script w) w.used (min (length s) (room w)))

-- and keeps what is held
write_held : (script : List ℕ) (w : World) (s : List ℕ) → (device_write script w s).world.held ≡ w.held
unfolding device_write
write_held script w s = refl

accepted_ok : (s : List ℕ) (a : Said) → is_ok a ≡ true → accepted s a ≡ take (count_of a) s
accepted_ok s a o = rw o

accepted_failed : (s : List ℕ) (a : Said) → is_ok a ≡ false → accepted s a ≡ []
accepted_failed s a o = rw o

-- what is kept after the f bytes taken
keep_moved : (script : List ℕ) (w v : World) (s : List ℕ) (e f : ℕ) → Moved script w v (take f s) → v.held ≡ 0 → f ≤ e → e ≤ length s → Moved script w (keep_tail v s e f).world (accepted s (keep_tail v s e f).answer)
unfolding keep_tail
keep_moved script w v s e f m z h l =
    let k = tail_kept (length v.storage) s e f in
    let most = tail_most (length v.storage) s e f k refl h l in
    let left : length (drop f s) ≡ length s - f = length-drop f s in
    let second = kept_moved script v (drop f s) k (moved_in script w v (take f s) m) (omega (arith, most.1)) (omega (arith, most.0)) in
    subst (λ (p : List ℕ). Moved script w (kept v (drop f s) k) p) (sym (take-add f k s)) (moved_then script w v (kept v (drop f s) k) (take f s) (take k (drop f s)) m second)

-- the lines by one device write, then what is kept
send_lines_moved : (script : List ℕ) (w : World) (s : List ℕ) (e : ℕ) → In script w → w.held ≡ 0 → e ≤ length s → Moved script w (send_lines script w s e).world (accepted s (send_lines script w s e).answer)
unfolding send_lines
send_lines_moved script w s e i z l =
    let d = device_write script w (take e s) in
    let m = device_write_moved script w (take e s) i z in
    then_cases (device_write script w (take e s)) (λ v. keep_tail v s e (count_of (device_write script w (take e s)).answer)) (λ (c : Called). Moved script w c.world (accepted s c.answer))
    (λ o.
    let count = write_count script w (take e s) o in
    let long : length (take e s) ≡ min e (length s) = length-take e s in
    let few : count_of d.answer ≤ e = omega (arith, count, long) in
    let same : accepted (take e s) d.answer ≡ take (count_of d.answer) s = accepted_ok (take e s) d.answer o ∙ take-take (count_of d.answer) e s few in
    keep_moved script w d.world s e (count_of d.answer) (subst (λ (p : List ℕ). Moved script w d.world p) same m) (write_held script w (take e s) ∙ z) few l)
    (λ o. subst (λ (p : List ℕ). Moved script w d.world p) (accepted_failed (take e s) d.answer o ∙ sym (accepted_failed s d.answer o)) m)

-- a completed line first, then the plain write
completed_then : (script : List ℕ) (w : World) (s : List ℕ) → Fit script w → Moved script w (and_then (completed script w) (λ v. write script v s)).world (accepted s (and_then (completed script w) (λ v. write script v s)).answer)
unfolding completed
completed_then script w s fit = by (ends_line w.storage w.held)
  where
    by : (t : Bool) → Moved script w (and_then (pick t (flush_buf script w) (nothing w)) (λ v. write script v s)).world (accepted s (and_then (pick t (flush_buf script w) (nothing w)) (λ v. write script v s)).answer)
    by true =
        flush_cases script w (λ v. write script v s) (λ (c : Called). Moved script w c.world (accepted s c.answer)) fit
        (λ v q f z. after_flush script w v (write script v s) _ (fit_in script w fit) q (write_moved script v s f))
        (λ e. subst (λ (p : List ℕ). Moved script w (flush_buf script w).world p) (sym (stopped_accepts script w s e)) (flush_buf_moved script w (fit_in script w fit)))
    by false = rw (then_ok (nothing w) (λ v. write script v s) refl) (write_moved script w s fit)

pub line_write_moved : (script : List ℕ) (w : World) (s : List ℕ) → Fit script w → Moved script w (line_write script w s).world (accepted s (line_write script w s).answer)
unfolding line_write
line_write_moved script w s fit = by (eqb (lines_length s) 0)
  where
    by : (t : Bool) → Moved script w (pick t (and_then (completed script w) (λ v. write script v s)) (and_then (flush_buf script w) (λ v. send_lines script v s (lines_length s)))).world (accepted s (pick t (and_then (completed script w) (λ v. write script v s)) (and_then (flush_buf script w) (λ v. send_lines script v s (lines_length s)))).answer)
    by true = completed_then script w s fit
    by false =
        flush_cases script w (λ v. send_lines script v s (lines_length s)) (λ (c : Called). Moved script w c.world (accepted s c.answer)) fit
        (λ v q f z. after_flush script w v (send_lines script v s (lines_length s)) _ (fit_in script w fit) q (send_lines_moved script v s (lines_length s) (fit_in script v f) z (lines_most s)))
        (λ e. subst (λ (p : List ℕ). Moved script w (flush_buf script w).world p) (sym (stopped_accepts script w s e)) (flush_buf_moved script w (fit_in script w fit)))

-- ---- any call, refused or not

pub begun_fit : (script : List ℕ) (w : World) → In script w → Fit script (begun w)
begun_fit script w i = record { held = i.held; out = i.out; used = i.used; few = omega arith }

refusing_moved : (script : List ℕ) (w : World) (own : ℕ) (call : World → Called) (p : Said → List ℕ) → In script w → ((number : ℕ) → p (refused number) ≡ []) → Moved script w (call (begun w)).world (p (call (begun w)).answer) → Moved script w (refusing script w own call).world (p (refusing script w own call).answer)
unfolding refusing
refusing_moved script w own call p i none m = by (eqb (refusal_of (capacity w) (length script) (length w.medium) 0 w.held w.out w.used own) 0)
  where
    number : ℕ
    number = refusal_of (capacity w) (length script) (length w.medium) 0 w.held w.out w.used own

    by : (t : Bool) → Moved script w (pick t (call (begun w)) (record { answer = refused number; world = w })).world (p (pick t (call (begun w)) (record { answer = refused number; world = w })).answer)
    by true = m
    by false = subst (λ (q : List ℕ). Moved script w w q) (sym (none number)) (unmoved script w w i refl refl refl refl i.used)

pub from_begun : (script : List ℕ) (w v : World) (p : List ℕ) → Moved script (begun w) v p → Moved script w v p
from_begun script w v p m =
    record {
      bytes = m.bytes;
      past = m.past;
      more = m.more;
      storage_long = m.storage_long;
      medium_long = m.medium_long;
      held = m.held;
      out = m.out;
      used = m.used;
    }

-- a flush has no slice to accept of
accepted_none : (a : Said) → accepted [] a ≡ []
accepted_none a = by (is_ok a)
  where
    by : (t : Bool) → ◌≡◌ {A = List ℕ} (pick t (take (count_of a) []) []) []
    by true = take-nil (count_of a)
    by false = refl

flush_call_moved : (script : List ℕ) (w : World) → In script w → Moved script w (flush_call script w).world (accepted [] (flush_call script w).answer)
unfolding flush_call
flush_call_moved script w i =
    refusing_moved script w 0 (λ v. flush script v) (λ a. accepted [] a) i (λ n. refl)
    (subst (λ (p : List ℕ). Moved script w (flush script (begun w)).world p) (sym (accepted_none (flush script (begun w)).answer)) (from_begun script w _ [] (flush_moved script (begun w) (begun_fit script w i))))

pub made_moved : (script : List ℕ) (w : World) (call : Call) → In script w → Moved script w (made script w call).world (accepted (slice call) (made script w call).answer)
unfolding write_call line_write_call
made_moved script w (Call.write s) i =
    refusing_moved script w (length_refusal (length s)) (λ v. write script v s) (λ a. accepted s a) i (λ n. refl) (from_begun script w _ _ (write_moved script (begun w) s (begun_fit script w i)))
made_moved script w Call.flush i = flush_call_moved script w i
made_moved script w (Call.line_write s) i =
    refusing_moved script w (length_refusal (length s)) (λ v. line_write script v s) (λ a. accepted s a) i (λ n. refl) (from_begun script w _ _ (line_write_moved script (begun w) s (begun_fit script w i)))
made_moved script w Call.line_flush i = flush_call_moved script w i

-- ---- the theorem

pub after_moved : (script : List ℕ) (w : World) (calls : List Call) → In script w → Moved script w (after script w calls) (prefixes script w calls)
unfolding after prefixes
after_moved script w [] i = unmoved script w w i refl refl refl refl i.used
after_moved script w (call ∷ calls) i =
    let first = made_moved script w call i in
    moved_then script w (made script w call).world (after script (made script w call).world calls) (accepted (slice call) (made script w call).answer) (prefixes script (made script w call).world calls) first (after_moved script (made script w call).world calls (moved_in script w _ _ first))

-- From new, over any `write` and `flush` calls of either writer, on any script, storage and medium: medium then held bytes
-- equal the answered prefixes in call order, and the medium past its place is as it was
pub the_ledger : (script storage medium : List ℕ) (calls : List Call) → (ledger (after script (new storage medium) calls) ≡ prefixes script (new storage medium) calls) × (drop (after script (new storage medium) calls).out (after script (new storage medium) calls).medium ≡ drop (after script (new storage medium) calls).out medium)
the_ledger script storage medium calls =
    let m = after_moved script (new storage medium) calls (record { held = omega arith; out = omega arith; used = omega arith }) in
    (m.bytes, m.past)
