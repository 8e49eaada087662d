-- For each row of the table replies, at most two, on which the call gives the answer and leaves the held count, whatever follows them.
-- Assumes nothing.
use mathlib.Core.Path.{◌≡◌, refl, sym, ap, ◌∙◌, subst}
use mathlib.Core.Bool.{false}
use mathlib.Core.List.{List, [], ◌∷◌, ◌++◌, append_assoc}
use Prim.Native.Nat.{ℕ, ◌+◌, ◌-◌, ◌≤◌, ◌<◌, min}
use native.Mathlib.Decide.{dec_le}
use native.Mathlib.Nat.{add-zero, sub-zero}
use native.Mathlib.Omega.{arith}
use lib.ListN.{length, drop, length-append}
use lib.Dec.{eqb}
use lib.Seq.{drop-drop, drop-append_seam}
use borrow.Author.Tests.{le-leb, lt-leb, le-ltb, lt-ltb, eq-eqb, ne_eqb}
use Rattle.laws.specs.Pick.{pick}
use Rattle.card.specs.Answers.{Said, ok, done, interrupted, zero_taken, error}
use Rattle.card.specs.Device.{reply_of, next, takes, at_most, exchange, Reply}
use Rattle.flushing.specs.declared.Sent.{Sent}
use Rattle.flushing.specs.World.{World, Called, Fit, spare, room, replies, is_ok, and_then, nothing}
use Rattle.flushing.specs.Send.{flush_said, write_said, flush_reply_said, send_from, sent_by, Outcome}
use Rattle.flushing.specs.Flush.{flush_buf, flushed_by}
use Rattle.writer.specs.Writer.{stored, placed, readied, cold, written, device_write, write, device_flush, flush}
use Rattle.flushing.proofs.Sends.{send_done, send_accept, send_zero, send_failed}
use Rattle.flushing.proofs.Flushes.{Keeps, keeps, fit_after}
use Rattle.flushing.proofs.Thens.{then_ok, then_failed}
use Rattle.judge.specs.Table.{Direct, Synced, Stopped, WriteStep, FlushStep}
use Rattle.std.specs.Prelude.{Ok, Err}
use Rattle.card.specs.declared.DeviceError.TheVariants.{Interrupted, Error}
use Rattle.flushing.specs.declared.Stop.TheVariants.{Zero, Failed}

-- ---- replies

-- the reply on which the device takes k bytes of a flush: none for none
abbrev pub sends : ℕ → List ℕ
sends k = pick (eqb k 0) [] (k ∷ [])

-- the number of an interrupted reply, and of an error
abbrev pub cut : ℕ
cut = 65536

abbrev pub fails : ℕ → ℕ
fails code = 65536 + code

reply_accept : (m : ℕ) → m ≤ 65535 → reply_of m ≡ Ok m
unfolding reply_of
reply_accept m h = rw (le-leb m 65535 h)

reply_fails : (code : ℕ) → 0 < code → reply_of (fails code) ≡ Err (Error code)
unfolding reply_of
reply_fails code h =
    let less : 65536 + code - 65536 ≡ code = omega arith in
    rw (lt-leb (65536 + code) 65535 (omega arith), ne_eqb (65536 + code) 65536 (omega arith)) (ap (λ (k : ℕ). Err (Error k)) less)

-- what is left of the script behind replies that were taken
behind : (script p later : List ℕ) (used : ℕ) → drop used script ≡ p ++ later → drop (used + length p) script ≡ later
behind script p later used e = sym (drop-drop (length p) used script) ∙ ap (λ (l : List ℕ). drop (length p) l) e ∙ drop-append_seam p later

-- ---- a run of device writes on such replies

accept_of : (k left room : ℕ) (l : List ℕ) → k ≤ left → k ≤ room → k ≤ 65535 → at_most (min left room) (next (k ∷ l)) ≡ Ok k
unfolding at_most next
accept_of k left room l a b c =
    let m : min k (min left room) ≡ k = omega arith in
    rw (reply_accept k c) (ap Ok m)

pub sends_on : (k : ℕ) (l : List ℕ) (left room sent used writes : ℕ) → k ≤ left → k ≤ room → k ≤ 65535 → send_from (sends k ++ l) left room sent used writes ≡ send_from l (left - k) (room - k) (sent + k) (used + length (sends k)) (writes + length (sends k))
unfolding takes
sends_on k l left room sent used writes a b c = by (dec_le k 0)
  where
    by : Dec (k ≤ 0) → send_from (sends k ++ l) left room sent used writes ≡ send_from l (left - k) (room - k) (sent + k) (used + length (sends k)) (writes + length (sends k))
    by (yes z) =
        let e : k ≡ 0 = omega arith in
        rw (eq-eqb k 0 e) (same e)
      where
        same : k ≡ 0 → send_from l left room sent used writes ≡ send_from l (left - k) (room - k) (sent + k) (used + 0) (writes + 0)
        same e = rw (e, sub-zero left, sub-zero room, add-zero sent, add-zero used, add-zero writes) refl
    by (no z) = rw (ne_eqb k 0 (omega arith)) (send_accept (k ∷ l) left room sent used writes k (accept_of k left room l a b c) (omega arith) (omega arith))

-- the end of such a run: all sent; nothing taken; failed
pub run_done : (k : ℕ) (l : List ℕ) (room used writes : ℕ) → k ≤ room → k ≤ 65535 → send_from (sends k ++ l) k room 0 used writes ≡ sent_by (Ok tt) k (used + length (sends k)) (writes + length (sends k))
run_done k l room used writes b c =
    sends_on k l k room 0 used writes (omega arith) b c
    ∙ send_done l (k - k) (room - k) (0 + k) (used + length (sends k)) (writes + length (sends k)) (omega arith)
    ∙ ap (λ (j : ℕ). sent_by (Ok tt) j (used + length (sends k)) (writes + length (sends k))) (omega arith)

pub run_zero : (k : ℕ) (l : List ℕ) (left room used writes : ℕ) → k < left → k ≤ room → k ≤ 65535 → send_from (sends k ++ (0 ∷ l)) left room 0 used writes ≡ sent_by (Err Zero) k (used + length (sends k) + 1) (writes + length (sends k) + 1)
unfolding takes
run_zero k l left room used writes a b c =
    sends_on k (0 ∷ l) left room 0 used writes (omega arith) b c
    ∙ send_zero (0 ∷ l) (left - k) (room - k) (0 + k) (used + length (sends k)) (writes + length (sends k)) (accept_of 0 (left - k) (room - k) l (omega arith) (omega arith) (omega arith)) (omega arith)
    ∙ ap (λ (j : ℕ). sent_by (Err Zero) j (used + length (sends k) + 1) (writes + length (sends k) + 1)) (omega arith)

error_of : (code most : ℕ) (l : List ℕ) → 0 < code → at_most most (next (fails code ∷ l)) ≡ Err (Error code)
unfolding at_most next
error_of code most l h = rw (reply_fails code h) refl

pub run_failed : (k code : ℕ) (l : List ℕ) (left room used writes : ℕ) → 0 < code → k < left → k ≤ room → k ≤ 65535 → send_from (sends k ++ (fails code ∷ l)) left room 0 used writes ≡ sent_by (Err (Failed code)) k (used + length (sends k) + 1) (writes + length (sends k) + 1)
unfolding takes
run_failed k code l left room used writes p a b c =
    sends_on k (fails code ∷ l) left room 0 used writes (omega arith) b c
    ∙ send_failed (fails code ∷ l) (left - k) (room - k) (0 + k) (used + length (sends k)) (writes + length (sends k)) code (error_of code (min (left - k) (room - k)) l p) (omega arith)
    ∙ ap (λ (j : ℕ). sent_by (Err (Failed code)) j (used + length (sends k) + 1) (writes + length (sends k) + 1)) (omega arith)

-- ---- what a call gave

pub record Ran (script : List ℕ) (c : Called) (said : Said) (h : ℕ) (later : List ℕ) : Type 0 where
  pub answer : c.answer ≡ said
  pub held : c.world.held ≡ h
  pub left : drop c.world.used script ≡ later

-- a flush of the buffer
flushed_ran : (script later p : List ℕ) (w : World) (f : Sent) (o : Outcome) (k writes : ℕ) → replies script w ≡ p ++ later → f ≡ sent_by o k (w.used + length p) writes → Ran script (flushed_by w f) (flush_said o) (w.held - k) later
flushed_ran script later p w f o k writes e q =
    record {
      answer = ap (λ (g : Sent). flush_said g.outcome) q;
      held = ap (λ (g : Sent). w.held - g.sent) q;
      left = ap (λ (g : Sent). drop g.used script) q ∙ behind script p later w.used e;
    }

flush_done_ran : (script later : List ℕ) (w : World) → replies script w ≡ sends w.held ++ later → w.held ≤ room w → w.held ≤ 65535 → Ran script (flush_buf script w) done 0 later
unfolding flush_buf
flush_done_ran script later w e r m =
    let run : send_from (replies script w) w.held (room w) 0 w.used w.writes ≡ sent_by (Ok tt) w.held (w.used + length (sends w.held)) (w.writes + length (sends w.held)) =
    ap (λ (l : List ℕ). send_from l w.held (room w) 0 w.used w.writes) e ∙ run_done w.held later (room w) w.used w.writes r m in
    let g = flushed_ran script later (sends w.held) w _ (Ok tt) w.held _ e run in
    record { answer = g.answer; held = g.held ∙ omega arith; left = g.left }

-- two lists in a row: sends, and one reply more
one_more : (p : List ℕ) (n : ℕ) (l : List ℕ) → p ++ (n ∷ l) ≡ (p ++ (n ∷ [])) ++ l
one_more p n l = sym (append_assoc p (n ∷ []) l)

long_more : (p : List ℕ) (n used : ℕ) → used + length p + 1 ≡ used + length (p ++ (n ∷ []))
long_more p n used = rw (length-append p (n ∷ [])) (omega arith)

flush_zero_ran : (script later : List ℕ) (w : World) (k : ℕ) → replies script w ≡ sends k ++ (0 ∷ later) → k < w.held → k ≤ room w → k ≤ 65535 → Ran script (flush_buf script w) zero_taken (w.held - k) later
unfolding flush_buf
flush_zero_ran script later w k e a r m =
    let run : send_from (replies script w) w.held (room w) 0 w.used w.writes ≡ sent_by (Err Zero) k (w.used + length (sends k ++ (0 ∷ []))) (w.writes + length (sends k) + 1) =
    ap (λ (l : List ℕ). send_from l w.held (room w) 0 w.used w.writes) e
    ∙ run_zero k later w.held (room w) w.used w.writes a r m
    ∙ ap (λ (j : ℕ). sent_by (Err Zero) k j (w.writes + length (sends k) + 1)) (long_more (sends k) 0 w.used) in
    flushed_ran script later (sends k ++ (0 ∷ [])) w _ (Err Zero) k _ (e ∙ one_more (sends k) 0 later) run

flush_failed_ran : (script later : List ℕ) (w : World) (k code : ℕ) → replies script w ≡ sends k ++ (fails code ∷ later) → 0 < code → k < w.held → k ≤ room w → k ≤ 65535 → Ran script (flush_buf script w) (error code) (w.held - k) later
unfolding flush_buf
flush_failed_ran script later w k code e p a r m =
    let run : send_from (replies script w) w.held (room w) 0 w.used w.writes ≡ sent_by (Err (Failed code)) k (w.used + length (sends k ++ (fails code ∷ []))) (w.writes + length (sends k) + 1) =
    ap (λ (l : List ℕ). send_from l w.held (room w) 0 w.used w.writes) e
    ∙ run_failed k code later w.held (room w) w.used w.writes p a r m
    ∙ ap (λ (j : ℕ). sent_by (Err (Failed code)) k j (w.writes + length (sends k) + 1)) (long_more (sends k) (fails code) w.used) in
    flushed_ran script later (sends k ++ (fails code ∷ [])) w _ (Err (Failed code)) k _ (e ∙ one_more (sends k) (fails code) later) run

-- one device write
device_ran : (script later : List ℕ) (w : World) (s : List ℕ) (n : ℕ) (r : Reply) → replies script w ≡ n ∷ later → at_most (min (length s) (room w)) (next (n ∷ later)) ≡ r → Ran script (device_write script w s) (write_said r) w.held later
unfolding device_write exchange takes
device_ran script later w s n r e q =
    record {
      answer = ap (λ (l : List ℕ). write_said (at_most (min (length s) (room w)) (next l))) e ∙ ap write_said q;
      held = refl;
      left = ap (λ (l : List ℕ). drop (w.used + takes l) script) e ∙ behind script (n ∷ []) later w.used e;
    }

-- one device flush
device_flush_ran : (script later : List ℕ) (w : World) (n : ℕ) (r : Reply) → replies script w ≡ n ∷ later → at_most 0 (next (n ∷ later)) ≡ r → Ran script (device_flush script w) (flush_reply_said r) w.held later
unfolding device_flush exchange takes
device_flush_ran script later w n r e q =
    record {
      answer = ap (λ (l : List ℕ). flush_reply_said (at_most 0 (next l))) e ∙ ap flush_reply_said q;
      held = refl;
      left = ap (λ (l : List ℕ). drop (w.used + takes l) script) e ∙ behind script (n ∷ []) later w.used e;
    }

-- ---- `write` where its tests are known

placed_stored : (answer : Said) (device : World → Called) (v : World) (s : List ℕ) → length s < length v.storage → placed answer device v s ≡ stored answer v s
unfolding placed
placed_stored answer device v s h = rw (lt-leb (length v.storage) (length s) h)

placed_direct : (answer : Said) (device : World → Called) (v : World) (s : List ℕ) → length v.storage ≤ length s → placed answer device v s ≡ device v
unfolding placed
placed_direct answer device v s h = rw (le-leb (length v.storage) (length s) h)

module _ (script : List ℕ) (w : World) (s : List ℕ) (fit : Fit script w) where
  write_is_stored : w.held + length s ≤ length w.storage → length s < length w.storage → write script w s ≡ stored (ok (length s)) w s
  unfolding write written cold readied placed
  write_is_stored h l = by (dec_le (spare w) (length s))
    where
      by : Dec (spare w ≤ length s) → write script w s ≡ stored (ok (length s)) w s
      by (yes k) = rw (le-ltb (length s) (spare w) k, le-ltb (spare w) (length s) (omega (arith, fit.held))) (then_ok (nothing w) (λ v. placed (ok (length s)) (λ u. device_write script u s) v s) refl ∙ inner)
        where
          inner : placed (ok (length s)) (λ u. device_write script u s) w s ≡ stored (ok (length s)) w s
          inner = rw (lt-leb (length w.storage) (length s) l)
      by (no k) = rw (lt-ltb (length s) (spare w) (omega arith))

  write_is_direct : w.held + length s ≤ length w.storage → length w.storage ≤ length s → write script w s ≡ device_write script w s
  unfolding write written cold readied placed
  write_is_direct h l = rw (le-ltb (length s) (spare w) (omega (arith, fit.held)), le-ltb (spare w) (length s) (omega (arith, fit.held))) (then_ok (nothing w) (λ v. placed (ok (length s)) (λ u. device_write script u s) v s) refl ∙ inner)
    where
      inner : placed (ok (length s)) (λ u. device_write script u s) w s ≡ device_write script w s
      inner = rw (le-leb (length w.storage) (length s) l)

  -- more than fits: the flush first
  write_flushes : length w.storage < w.held + length s → write script w s ≡ and_then (flush_buf script w) (λ v. placed (ok (length s)) (λ u. device_write script u s) v s)
  unfolding write written cold readied
  write_flushes h = rw (le-ltb (length s) (spare w) (omega (arith, fit.held)), lt-ltb (spare w) (length s) (omega (arith, fit.held)))

-- ---- the replies for each row

unfoldable pub direct_reply : {n : ℕ} {said : Said} → Direct n said → ℕ
direct_reply (Direct.took m h e) = m
direct_reply (Direct.cut_off e) = cut
direct_reply (Direct.failed code e) = fails code

unfoldable pub synced_reply : {said : Said} → Synced said → ℕ
synced_reply (Synced.well e) = 0
synced_reply (Synced.cut_off e) = cut
synced_reply (Synced.failed code e) = fails code

unfoldable pub stopped_reply : {said : Said} → Stopped said → ℕ
stopped_reply (Stopped.none e) = 0
stopped_reply (Stopped.failed code e) = fails code

unfoldable pub write_replies : {C h n : ℕ} {said : Said} {h' : ℕ} → WriteStep C h n said h' → List ℕ
unfolding direct_reply stopped_reply
write_replies (WriteStep.stored a b c d) = []
write_replies {h = h} (WriteStep.refilled a b c d) = sends h
write_replies {h = h} (WriteStep.direct a d e) = sends h ++ (direct_reply d ∷ [])
write_replies {h = h} {h' = h'} (WriteStep.stopped a s c d) = sends (h - h') ++ (stopped_reply s ∷ [])

unfoldable pub flush_replies : {h : ℕ} {said : Said} {h' : ℕ} → FlushStep h said h' → List ℕ
unfolding synced_reply stopped_reply
flush_replies {h = h} (FlushStep.emptied s e) = sends h ++ (synced_reply s ∷ [])
flush_replies {h = h} {h' = h'} (FlushStep.stopped s c d) = sends (h - h') ++ (stopped_reply s ∷ [])

-- a code that a trace can claim
unfoldable pub Claimable : Said → Type 0
Claimable said = (code : ℕ) → said ≡ error code → (0 < code) × (code ≤ 4294901759)

ran_as : (script : List ℕ) (c : Called) (a b : Said) (h k : ℕ) (later : List ℕ) → Ran script c a h later → a ≡ b → h ≡ k → Ran script c b k later
ran_as script c a b h k later r p q = record { answer = r.answer ∙ p; held = r.held ∙ q; left = r.left }

-- after a flush that is done
module _ (script later : List ℕ) (w : World) (rest : List ℕ) (next-call : World → Called) (said : Said) (h' : ℕ) (fit : Fit script w) where
  pub then_ran : Ran script (flush_buf script w) done 0 rest → ((v : World) → flush_buf script w ≡ record { answer = done; world = v } → Fit script v → v.held ≡ 0 → drop v.used script ≡ rest → Ran script (next-call v) said h' later) → Ran script (and_then (flush_buf script w) next-call) said h' later
  then_ran r k =
      let v = (flush_buf script w).world in
      let q : flush_buf script w ≡ record { answer = done; world = v } = ap (λ (a : Said). record { answer = a; world = v }) r.answer in
      let f = fit_after script w v fit q in
      subst (λ (c : Called). Ran script c said h' later) (sym (then_ok (flush_buf script w) next-call (ap is_ok r.answer))) (k v q f.0 r.held r.left)

  pub stopped_ran : Ran script (flush_buf script w) said h' later → is_ok said ≡ false → Ran script (and_then (flush_buf script w) next-call) said h' later
  stopped_ran r o = subst (λ (c : Called). Ran script c said h' later) (sym (then_failed (flush_buf script w) next-call (ap is_ok r.answer ∙ o))) r

-- a stopped flush on its replies
flush_stopped_ran : (script later : List ℕ) (w : World) (said : Said) (h' : ℕ) (s : Stopped said) → Claimable said → replies script w ≡ sends (w.held - h') ++ (stopped_reply s ∷ later) → 0 < h' → h' ≤ w.held → w.held ≤ room w → w.held ≤ 65535 → Ran script (flush_buf script w) said h' later × (is_ok said ≡ false)
unfolding stopped_reply Claimable
flush_stopped_ran script later w said h' (Stopped.none q) ok-code e a b r m = (
  ran_as script (flush_buf script w) zero_taken said (w.held - (w.held - h')) h' later (flush_zero_ran script later w (w.held - h') e (omega arith) (omega arith) (omega arith)) (sym q) (omega arith),
  ap is_ok q,
)
flush_stopped_ran script later w said h' (Stopped.failed code q) ok-code e a b r m = (
  ran_as script (flush_buf script w) (error code) said (w.held - (w.held - h')) h' later (flush_failed_ran script later w (w.held - h') code e (ok-code code q).0 (omega arith) (omega arith) (omega arith)) (sym q) (omega arith),
  ap is_ok q,
)

cut_of : (most : ℕ) (rest : List ℕ) → at_most most (next (cut ∷ rest)) ≡ (Err Interrupted)
unfolding at_most next reply_of
cut_of most rest = refl

-- a device write on its reply
direct_ran : (script later : List ℕ) (w : World) (s : List ℕ) (said : Said) (d : Direct (length s) said) → Claimable said → replies script w ≡ direct_reply d ∷ later → length s ≤ room w → length s ≤ 65535 → Ran script (device_write script w s) said w.held later
unfolding direct_reply Claimable
direct_ran script later w s said (Direct.took m h q) ok-code e r l =
    ran_as script (device_write script w s) (ok m) said w.held w.held later (device_ran script later w s m (Ok m) e (accept_of m (length s) (room w) later h (omega arith) (omega arith))) (sym q) refl
direct_ran script later w s said (Direct.cut_off q) ok-code e r l =
    ran_as script (device_write script w s) interrupted said w.held w.held later (device_ran script later w s cut (Err Interrupted) e (cut_of (min (length s) (room w)) later)) (sym q) refl
direct_ran script later w s said (Direct.failed code q) ok-code e r l =
    ran_as script (device_write script w s) (error code) said w.held w.held later (device_ran script later w s (fails code) (Err (Error code)) e (error_of code (min (length s) (room w)) later (ok-code code q).0)) (sym q) refl

zero_of : (rest : List ℕ) → at_most 0 (next (0 ∷ rest)) ≡ Ok 0
unfolding at_most next reply_of
zero_of rest = refl

-- a device flush on its reply
synced_ran : (script later : List ℕ) (w : World) (said : Said) (d : Synced said) → Claimable said → replies script w ≡ synced_reply d ∷ later → Ran script (device_flush script w) said w.held later
unfolding synced_reply Claimable
synced_ran script later w said (Synced.well q) ok-code e =
    ran_as script (device_flush script w) done said w.held w.held later (device_flush_ran script later w 0 (Ok 0) e (zero_of later)) (sym q) refl
synced_ran script later w said (Synced.cut_off q) ok-code e =
    ran_as script (device_flush script w) interrupted said w.held w.held later (device_flush_ran script later w cut (Err Interrupted) e (cut_of 0 later)) (sym q) refl
synced_ran script later w said (Synced.failed code q) ok-code e =
    ran_as script (device_flush script w) (error code) said w.held w.held later (device_flush_ran script later w (fails code) (Err (Error code)) e (error_of code 0 later (ok-code code q).0)) (sym q) refl

-- ---- each row can be

-- two lists of replies, then what follows
in_order : (p : List ℕ) (n : ℕ) (l later : List ℕ) → l ≡ (p ++ (n ∷ [])) ++ later → l ≡ p ++ (n ∷ later)
in_order p n l later e = e ∙ append_assoc p (n ∷ []) later

-- what a done flush keeps of room and capacity
module _ (script : List ℕ) (w v : World) (fit : Fit script w) (q : flush_buf script w ≡ record { answer = done; world = v }) (z : v.held ≡ 0) where
  kept_by_flush : Keeps script w (record { answer = done; world = v })
  kept_by_flush = subst (λ (c : Called). Keeps script w c) q (keeps script w fit)

  pub same_capacity : length v.storage ≡ length w.storage
  same_capacity = kept_by_flush.storage_long

  pub same_room : (n : ℕ) → w.held + n ≤ room w → n ≤ room v
  same_room n h =
      let k = kept_by_flush in
      less_room n w.held w.out v.out (length w.medium) (length v.medium) v.held h k.medium_long k.sum z fit.out
    where
      less_room : (n' h' o o₂ m m₂ h₂ : ℕ) → h' + n' ≤ m - o → m₂ ≡ m → h₂ + o₂ ≡ h' + o → h₂ ≡ 0 → o ≤ m → n' ≤ m₂ - o₂
      less_room n' h' o o₂ m m₂ h₂ a b c d e = omega arith

module _ (script later : List ℕ) (w : World) (s : List ℕ) (said : Said) (h' : ℕ) (fit : Fit script w) (code : Claimable said) (few : w.held ≤ 65535) (short : length s ≤ 65535) (roomy : w.held + length s ≤ room w) where
  pub can_write : (st : WriteStep (length w.storage) w.held (length s) said h') → replies script w ≡ write_replies st ++ later → Ran script (write script w s) said h' later
  unfolding write_replies
  can_write (WriteStep.stored a b q z) e =
      subst (λ (c : Called). Ran script c said h' later) (sym (write_is_stored script w s fit b a)) (record { answer = sym q; held = sym z; left = e })
  can_write (WriteStep.refilled a b q z) e =
      subst (λ (c : Called). Ran script c said h' later) (sym (write_flushes script w s fit b))
      (then_ran script later w later (λ v. placed (ok (length s)) (λ u. device_write script u s) v s) said h' fit (flush_done_ran script later w e (omega arith) few)
      (λ v p f n l.
      let same = same_capacity script w v fit p n in
      subst (λ (c : Called). Ran script c said h' later) (sym (to_stored v (omega arith))) (record { answer = sym q; held = omega arith; left = l })))
    where
      to_stored : (v : World) → length s < length v.storage → placed (ok (length s)) (λ u. device_write script u s) v s ≡ stored (ok (length s)) v s
      to_stored v h = placed_stored (ok (length s)) (λ u. device_write script u s) v s h
  can_write (WriteStep.direct a d z) e = by (dec_le (w.held + length s) (length w.storage))
    where
      by : Dec (w.held + length s ≤ length w.storage) → Ran script (write script w s) said h' later
      by (yes h) =
          let none : w.held ≡ 0 = omega arith in
          let begins : replies script w ≡ direct_reply d ∷ later = in_order (sends w.held) (direct_reply d) (replies script w) later e ∙ ap (λ (k : ℕ). sends k ++ (direct_reply d ∷ later)) none in
          subst (λ (c : Called). Ran script c said h' later) (sym (write_is_direct script w s fit h a))
          (ran_as script (device_write script w s) said said w.held h' later (direct_ran script later w s said d code begins (omega arith) short) refl (none ∙ sym z))
      by (no h) =
          subst (λ (c : Called). Ran script c said h' later) (sym (write_flushes script w s fit (omega arith)))
          (then_ran script later w (direct_reply d ∷ later) (λ v. placed (ok (length s)) (λ u. device_write script u s) v s) said h' fit (flush_done_ran script (direct_reply d ∷ later) w (in_order (sends w.held) (direct_reply d) (replies script w) later e) (omega arith) few)
          (λ v p f n l.
          let same = same_capacity script w v fit p n in
          subst (λ (c : Called). Ran script c said h' later) (sym (placed_direct (ok (length s)) (λ u. device_write script u s) v s (omega arith)))
          (ran_as script (device_write script v s) said said v.held h' later (direct_ran script later v s said d code l (same_room script w v fit p n (length s) roomy) short) refl (n ∙ sym z))))
  can_write (WriteStep.stopped a st lo hi) e =
      let r = flush_stopped_ran script later w said h' st code (in_order (sends (w.held - h')) (stopped_reply st) (replies script w) later e) lo hi (omega arith) few in
      subst (λ (c : Called). Ran script c said h' later) (sym (write_flushes script w s fit a))
      (stopped_ran script later w later (λ v. placed (ok (length s)) (λ u. device_write script u s) v s) said h' fit r.0 r.1)

module _ (script later : List ℕ) (w : World) (said : Said) (h' : ℕ) (fit : Fit script w) (code : Claimable said) (few : w.held ≤ 65535) (roomy : w.held ≤ room w) where
  pub can_flush : (st : FlushStep w.held said h') → replies script w ≡ flush_replies st ++ later → Ran script (flush script w) said h' later
  unfolding flush flush_replies
  can_flush (FlushStep.emptied d z) e =
      then_ran script later w (synced_reply d ∷ later) (λ v. device_flush script v) said h' fit (flush_done_ran script (synced_reply d ∷ later) w (in_order (sends w.held) (synced_reply d) (replies script w) later e) roomy few)
      (λ v p f n l. ran_as script (device_flush script v) said said v.held h' later (synced_ran script later v said d code l) refl (n ∙ sym z))
  can_flush (FlushStep.stopped st lo hi) e =
      let r = flush_stopped_ran script later w said h' st code (in_order (sends (w.held - h')) (stopped_reply st) (replies script w) later e) lo hi roomy few in
      stopped_ran script later w later (λ v. device_flush script v) said h' fit r.0 r.1
