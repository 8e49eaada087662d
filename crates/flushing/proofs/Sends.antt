-- The laws of a run of device writes: how it ends, what one more turn does, and what every run keeps.
-- Assumes nothing.
use mathlib.Core.Path.{◌≡◌, refl, ap, ◌∙◌}
use mathlib.Core.Bool.{Bool, true, false}
use mathlib.Core.List.{List, [], ◌∷◌}
use Prim.Native.Nat.{ℕ, ◌+◌, ◌-◌, ◌≤◌, ◌<◌, min}
use native.Mathlib.Decide.{dec_le}
use native.Mathlib.Nat.{add-zero, sub-zero}
use native.Mathlib.Omega.{arith}
use lib.ListN.{length, drop}
use lib.Dec.{eqb}
use Rattle.laws.specs.Pick.{pick}
use borrow.Author.Tests.{eq-eqb, ne_eqb}
use Rattle.card.specs.Device.{reply_of, next, takes, at_most, moves, Reply}
use Rattle.card.proofs.Replies.{moves_most, takes_most}
use Rattle.flushing.specs.declared.Sent.{Sent}
use Rattle.flushing.specs.Send.{send_from, sent_by, on_reply, Outcome}
use Rattle.std.specs.Prelude.{Ok, Err}
use Rattle.card.specs.declared.DeviceError.TheVariants.{Interrupted, Error}
use Rattle.flushing.specs.declared.Stop.TheVariants.{Zero, Failed}

-- none is left
pub send_done : (l : List ℕ) (left room sent used writes : ℕ) → left ≡ 0 → send_from l left room sent used writes ≡ sent_by (Ok tt) sent used writes
unfolding send_from
send_done [] left room sent used writes e = simp (eq-eqb left 0 e)
send_done (n ∷ rest) left room sent used writes e = simp (eq-eqb left 0 e)

-- one turn, by the reply
pub send_accept : (l : List ℕ) (left room sent used writes t : ℕ) → at_most (min left room) (next l) ≡ Ok t → (t ≡ 0 → ⊥) → 0 < left → send_from l left room sent used writes ≡ send_from (drop (takes l) l) (left - t) (room - t) (sent + t) (used + takes l) (writes + 1)
unfolding send_from next takes at_most
send_accept [] left room sent used writes t q p h =
    let z : ◌≡◌ {A = ℕ} 0 1 = cc in
    absurd (omega arith)
send_accept (n ∷ rest) left room sent used writes t q p h = simp (ne_eqb left 0 (omega arith), q, ne_eqb t 0 p)

pub send_zero : (l : List ℕ) (left room sent used writes : ℕ) → at_most (min left room) (next l) ≡ Ok 0 → 0 < left → send_from l left room sent used writes ≡ sent_by (Err Zero) sent (used + takes l) (writes + 1)
unfolding send_from next takes at_most
send_zero [] left room sent used writes q h =
    let z : ◌≡◌ {A = ℕ} 0 1 = cc in
    absurd (omega arith)
send_zero (n ∷ rest) left room sent used writes q h = simp (ne_eqb left 0 (omega arith), q)

pub send_interrupted : (l : List ℕ) (left room sent used writes : ℕ) → at_most (min left room) (next l) ≡ (Err Interrupted) → 0 < left → send_from l left room sent used writes ≡ send_from (drop (takes l) l) left room sent (used + takes l) (writes + 1)
unfolding send_from next takes at_most
send_interrupted [] left room sent used writes q h =
    let z : ◌≡◌ {A = ℕ} 0 1 = cc in
    absurd (omega arith)
send_interrupted (n ∷ rest) left room sent used writes q h = simp (ne_eqb left 0 (omega arith), q)

pub send_failed : (l : List ℕ) (left room sent used writes code : ℕ) → at_most (min left room) (next l) ≡ Err (Error code) → 0 < left → send_from l left room sent used writes ≡ sent_by (Err (Failed code)) sent (used + takes l) (writes + 1)
unfolding send_from next takes at_most
send_failed [] left room sent used writes code q h =
    let z : 0 ≡ code = cc in
    simp (ne_eqb left 0 (omega arith), add-zero, ← z)
send_failed (n ∷ rest) left room sent used writes code q h = simp (ne_eqb left 0 (omega arith), q)

zero_not_done : ◌≡◌ {A = Outcome} (Err Zero) (Ok tt) → ⊥
zero_not_done d =
    let z : ◌≡◌ {A = ℕ} 0 1 = cc in
    omega arith

failed_not_done : (code : ℕ) → ◌≡◌ {A = Outcome} (Err (Failed code)) (Ok tt) → ⊥
failed_not_done code d =
    let z : ◌≡◌ {A = ℕ} 0 1 = cc in
    omega arith

at_nothing : (left room : ℕ) → at_most (min left room) (next []) ≡ Err (Error 0)
unfolding next at_most
at_nothing left room = refl

-- ---- what every run keeps, however it ends

pub record Within (l : List ℕ) (left room sent used writes : ℕ) (f : Sent) : Type 0 where
  pub least : sent ≤ f.sent
  pub most : f.sent ≤ sent + left
  pub fits : f.sent ≤ sent + room
  pub begun : used ≤ f.used
  pub end : f.used ≤ used + length l
  pub count : f.writes + used ≤ writes + f.used + 1
  -- all was sent exactly where the run is done, and then each device write took a reply
  pub done : f.outcome ≡ (Ok tt) → (f.sent ≡ sent + left) × (f.writes + used ≡ writes + f.used)
  pub stopped : (f.outcome ≡ (Ok tt) → ⊥) → f.sent < sent + left

-- a run that is done, or that stops where it is after k replies
ends : (l : List ℕ) (left room sent used writes : ℕ) → left ≡ 0 → Within l left room sent used writes (sent_by (Ok tt) sent used writes)
ends l left room sent used writes h =
    record {
      least = omega arith;
      most = omega arith;
      fits = omega arith;
      begun = omega arith;
      end = omega arith;
      count = omega arith;
      done = λ e. omega arith;
      stopped = λ e. absurd (e refl);
    }

stops : (l : List ℕ) (left room sent used writes k : ℕ) (o : Outcome) → (o ≡ (Ok tt) → ⊥) → 0 < left → k ≤ length l → Within l left room sent used writes (sent_by o sent (used + k) (writes + 1))
stops l left room sent used writes k o not h hk =
    record {
      least = omega arith;
      most = omega arith;
      fits = omega arith;
      begun = omega arith;
      end = omega arith;
      count = omega arith;
      done = λ e. absurd (not e);
      stopped = λ e. omega arith;
    }

-- a run that goes on after t bytes more were taken
goes : (n : ℕ) (rest : List ℕ) (left room sent used writes t : ℕ) (f : Sent) → t ≤ min left room → Within rest (left - t) (room - t) (sent + t) (used + 1) (writes + 1) f → Within (n ∷ rest) left room sent used writes f
goes n rest left room sent used writes t f h k =
    let a : t ≤ left = omega arith in
    let b : t ≤ room = omega arith in
    record {
      least = omega (arith, k.least);
      most = omega (arith, k.most);
      fits = omega (arith, k.fits);
      begun = omega (arith, k.begun);
      end = omega (arith, k.end);
      count = omega (arith, k.count);
      done = λ e. (omega (arith, (k.done e).0), omega (arith, (k.done e).1));
      stopped = λ e. omega (arith, k.stopped e);
    }

-- one turn, when the rest of the replies keeps it
turn : (n : ℕ) (rest : List ℕ) (left room sent used writes : ℕ) → ((a b c d e : ℕ) → Within rest a b c d e (send_from rest a b c d e)) → (h : 0 < left) (r : Reply) → at_most (min left room) (next (n ∷ rest)) ≡ r → Within (n ∷ rest) left room sent used writes (send_from (n ∷ rest) left room sent used writes)
unfolding takes
turn n rest left room sent used writes ih h (Ok t) q = by (dec_le t 0)
  where
    by : Dec (t ≤ 0) → Within (n ∷ rest) left room sent used writes (send_from (n ∷ rest) left room sent used writes)
    by (yes z) =
        let e : t ≡ 0 = omega arith in
        rw (send_zero (n ∷ rest) left room sent used writes (q ∙ ap Ok e) h) (stops (n ∷ rest) left room sent used writes 1 (Err Zero) (λ d. zero_not_done d) h (omega arith))
    by (no z) =
        let m : moves (at_most (min left room) (next (n ∷ rest))) ≤ min left room = moves_most (min left room) (next (n ∷ rest)) in
        rw (send_accept (n ∷ rest) left room sent used writes t q (omega arith) h) (goes n rest left room sent used writes t _ (rw q at m) (ih (left - t) (room - t) (sent + t) (used + 1) (writes + 1)))
turn n rest left room sent used writes ih h (Err Interrupted) q =
    let same = ih left room sent (used + 1) (writes + 1) in
    rw (send_interrupted (n ∷ rest) left room sent used writes q h) (goes n rest left room sent used writes 0 _ (omega arith) (rw (sub-zero left, sub-zero room, add-zero sent) same))
turn n rest left room sent used writes ih h (Err (Error code)) q =
    rw (send_failed (n ∷ rest) left room sent used writes code q h) (stops (n ∷ rest) left room sent used writes 1 (Err (Failed code)) (λ d. failed_not_done code d) h (omega arith))

either : (n : ℕ) (rest : List ℕ) (left room sent used writes : ℕ) → ((a b c d e : ℕ) → Within rest a b c d e (send_from rest a b c d e)) → Dec (left ≤ 0) → Within (n ∷ rest) left room sent used writes (send_from (n ∷ rest) left room sent used writes)
either n rest left room sent used writes ih (yes z) = rw (send_done (n ∷ rest) left room sent used writes (omega arith)) (ends (n ∷ rest) left room sent used writes (omega arith))
either n rest left room sent used writes ih (no z) = turn n rest left room sent used writes ih (omega arith) _ refl

pub within : (l : List ℕ) (left room sent used writes : ℕ) → Within l left room sent used writes (send_from l left room sent used writes)
within [] left room sent used writes = by (dec_le left 0)
  where
    by : Dec (left ≤ 0) → Within [] left room sent used writes (send_from [] left room sent used writes)
    by (yes z) = rw (send_done [] left room sent used writes (omega arith)) (ends [] left room sent used writes (omega arith))
    by (no z) = rw (send_failed [] left room sent used writes 0 (at_nothing left room) (omega arith)) (stops [] left room sent used writes _ (Err (Failed 0)) (λ d. failed_not_done 0 d) (omega arith) (takes_most []))
within (n ∷ rest) left room sent used writes = either n rest left room sent used writes (λ a b c d e. within rest a b c d e) (dec_le left 0)

-- ---- a run that is counted from k device writes on

abbrev pub later : ℕ → Sent → Sent
later k f = sent_by f.outcome f.sent f.used (k + f.writes)

one_more : (k writes : ℕ) → k + writes + 1 ≡ k + (writes + 1)
one_more k writes = omega arith

-- what comes after the first reply, when the rest is counted so
turn_later : (rest : List ℕ) (left room sent used writes k : ℕ) → ((a b c : ℕ) → send_from rest a b c (used + 1) (k + (writes + 1)) ≡ later k (send_from rest a b c (used + 1) (writes + 1))) → (r : Reply) → on_reply r (λ (a : ℕ). pick (eqb a 0) (sent_by (Err Zero) sent (used + 1) (k + writes + 1)) (send_from rest (left - a) (room - a) (sent + a) (used + 1) (k + writes + 1))) (send_from rest left room sent (used + 1) (k + writes + 1)) (λ (code : ℕ). sent_by (Err (Failed code)) sent (used + 1) (k + writes + 1)) ≡ later k (on_reply r (λ (a : ℕ). pick (eqb a 0) (sent_by (Err Zero) sent (used + 1) (writes + 1)) (send_from rest (left - a) (room - a) (sent + a) (used + 1) (writes + 1))) (send_from rest left room sent (used + 1) (writes + 1)) (λ (code : ℕ). sent_by (Err (Failed code)) sent (used + 1) (writes + 1)))
turn_later rest left room sent used writes k on (Ok a) = by (eqb a 0)
  where
    by : (z : Bool) → pick z (sent_by (Err Zero) sent (used + 1) (k + writes + 1)) (send_from rest (left - a) (room - a) (sent + a) (used + 1) (k + writes + 1)) ≡ later k (pick z (sent_by (Err Zero) sent (used + 1) (writes + 1)) (send_from rest (left - a) (room - a) (sent + a) (used + 1) (writes + 1)))
    by true = ap (λ (m : ℕ). sent_by (Err Zero) sent (used + 1) m) (one_more k writes)
    by false = rw (one_more k writes) (on (left - a) (room - a) (sent + a))
turn_later rest left room sent used writes k on (Err Interrupted) = rw (one_more k writes) (on left room sent)
turn_later rest left room sent used writes k on (Err (Error code)) = ap (λ (m : ℕ). sent_by (Err (Failed code)) sent (used + 1) m) (one_more k writes)

pub send_later : (l : List ℕ) (left room sent used writes k : ℕ) → send_from l left room sent used (k + writes) ≡ later k (send_from l left room sent used writes)
unfolding send_from
send_later [] left room sent used writes k = by (eqb left 0)
  where
    by : (t : Bool) → pick t (sent_by (Ok tt) sent used (k + writes)) (sent_by (Err (Failed 0)) sent used (k + writes + 1)) ≡ later k (pick t (sent_by (Ok tt) sent used writes) (sent_by (Err (Failed 0)) sent used (writes + 1)))
    by true = refl
    by false = ap (λ (m : ℕ). sent_by (Err (Failed 0)) sent used m) (one_more k writes)
send_later (n ∷ rest) left room sent used writes k = by (eqb left 0) (λ a b c. send_later rest a b c (used + 1) (writes + 1) k)
  where
    by : (t : Bool) → ((a b c : ℕ) → send_from rest a b c (used + 1) (k + (writes + 1)) ≡ later k (send_from rest a b c (used + 1) (writes + 1))) → pick t (sent_by (Ok tt) sent used (k + writes)) (on_reply (at_most (min left room) (reply_of n)) (λ (a : ℕ). pick (eqb a 0) (sent_by (Err Zero) sent (used + 1) (k + writes + 1)) (send_from rest (left - a) (room - a) (sent + a) (used + 1) (k + writes + 1))) (send_from rest left room sent (used + 1) (k + writes + 1)) (λ (code : ℕ). sent_by (Err (Failed code)) sent (used + 1) (k + writes + 1))) ≡ later k (pick t (sent_by (Ok tt) sent used writes) (on_reply (at_most (min left room) (reply_of n)) (λ (a : ℕ). pick (eqb a 0) (sent_by (Err Zero) sent (used + 1) (writes + 1)) (send_from rest (left - a) (room - a) (sent + a) (used + 1) (writes + 1))) (send_from rest left room sent (used + 1) (writes + 1)) (λ (code : ℕ). sent_by (Err (Failed code)) sent (used + 1) (writes + 1))))
    by true on = refl
    by false on = turn_later rest left room sent used writes k on (at_most (min left room) (reply_of n))
