-- The device calls that a call reports are the replies that it took, plus one if it met the script's end.
-- Assumes nothing.
use mathlib.Core.Path.{◌≡◌, refl}
use mathlib.Core.Bool.{◌&&◌}
use mathlib.Core.List.{List, [], ◌∷◌}
use Prim.Native.Nat.{ℕ, ◌+◌, ◌-◌, min}
use native.Mathlib.Omega.{arith}
use lib.Dec.{leb, eqb}
use lib.IntN.{ℤ, pos, negsuc}
use lib.ListN.{length, drop}
use Rattle.laws.proofs.Picks.{pick_holds}
use Rattle.std.specs.Prelude.{Ok, Err}
use Rattle.card.specs.Device.{Reply, accept, at_most, exchange}
use Rattle.card.specs.declared.DeviceError.TheVariants.{Interrupted, Error}
use Rattle.card.specs.Limits.{length_refusal}
use Rattle.card.proofs.Ends.{ended, ended_by, exchange_counts}
use Rattle.reader.specs.declared.State.{State}
use Rattle.reader.specs.World.{World, Fetched, Called, Reading, world}
use Rattle.reader.specs.Buffer as Buffer
use Rattle.reader.specs.Buffer.{count, discard, added, read_more}
use Rattle.reader.specs.Reader.{handed, refusal, unless, fill_buf, consume, sought, seek_relative, shifted_back, after_more, peek_turn, peek_loop, peek, direct, copied, read_unrefused, read}
use Rattle.reader.proofs.Peeks.{back_used, end_accepts}

-- what is handed up ends with the reply
handed_ended : (r : Reply) → ended (handed r) ≡ ended_by r
handed_ended (Ok n) = refl
handed_ended (Err Interrupted) = refl
handed_ended (Err (Error code)) = refl

-- one call of the device
exchange_handed : (left : List ℕ) (used most : ℕ) → 1 + used ≡ (exchange left used most).used + ended (handed (exchange left used most).reply)
exchange_handed left used most = omega (arith, exchange_counts left used most, handed_ended (exchange left used most).reply)

-- The replies taken since the script's position was `from`, and one more at its end
Counts : ℕ → Fetched → Type 0
Counts from f = f.calls + from ≡ f.world.state.used + ended (handed f.reply)

more_counts : (left stock : List ℕ) (w : World) → Counts w.state.used (read_more left stock w)
unfolding Counts read_more added
more_counts left stock w = exchange_handed left w.state.used (min (length w.storage - w.state.filled) (length stock - w.state.taken))

more_one : (left stock : List ℕ) (w : World) → (read_more left stock w).calls ≡ 1
unfolding read_more added
more_one left stock w = refl

fill_counts : (left stock : List ℕ) (w : World) → Counts w.state.used (Buffer.fill_buf left stock w)
unfolding Buffer.fill_buf Counts
fill_counts left stock w =
    pick_holds (Counts w.state.used) (eqb w.state.pos w.state.filled) _ _
    (λ e. more_counts left stock (world w.storage (discard w.state)))
    (λ e. omega arith)

after_counts : (from : ℕ) (r : Reply) (calls : ℕ) (v : World) (on : Fetched) → calls + from ≡ v.state.used + ended (handed r) → ((k : ℕ) → r ≡ accept k → Counts from on) → Counts from (after_more r calls v on)
unfolding after_more Counts
after_counts from (Ok n) calls v on h o = pick_holds (Counts from) (eqb n 0) _ _ (λ e. h) (λ e. o n refl)
after_counts from (Err e) calls v on h o = h

turn_made : (from : ℕ) (left stock : List ℕ) (calls : ℕ) (w : World) → calls + from ≡ w.state.used → calls + (read_more left stock (shifted_back w)).calls + from ≡ (read_more left stock (shifted_back w)).world.state.used + ended (handed (read_more left stock (shifted_back w)).reply)
unfolding Counts
turn_made from left stock calls w h = omega (arith, more_counts left stock (shifted_back w), back_used w)

turn_accepts : (from : ℕ) (left stock : List ℕ) (calls k : ℕ) (w : World) → calls + from ≡ w.state.used → (read_more left stock (shifted_back w)).reply ≡ accept k → calls + 1 + from ≡ (read_more left stock (shifted_back w)).world.state.used
turn_accepts from left stock calls k w h e =
    let m = turn_made from left stock calls w h in
    let one : (read_more left stock (shifted_back w)).calls ≡ 1 = more_one left stock (shifted_back w) in
    let none : ended (handed (read_more left stock (shifted_back w)).reply) ≡ 0 = rw e refl in
    omega arith

-- a turn, when `calls` were made since `from`
turn_counts : (from : ℕ) (left stock : List ℕ) (n calls : ℕ) (w : World) (on : World → Fetched) → calls + from ≡ w.state.used → ((v : World) (k : ℕ) → (read_more left stock (shifted_back w)).reply ≡ accept k → calls + 1 + from ≡ v.state.used → Counts from (on v)) → Counts from (peek_turn left stock n calls w on)
unfolding peek_turn Counts
turn_counts from left stock n calls w on h o =
    pick_holds (Counts from) (leb n (count w.state)) _ _
    (λ e. omega (arith, h))
    (λ e. after_counts from (read_more left stock (shifted_back w)).reply _ (read_more left stock (shifted_back w)).world _ (turn_made from left stock calls w h) (λ k q. o (read_more left stock (shifted_back w)).world k q (turn_accepts from left stock calls k w h q)))

loop_counts : (from : ℕ) (left stock : List ℕ) (n calls : ℕ) (w : World) → calls + from ≡ w.state.used → Counts from (peek_loop left stock n calls w)
unfolding peek_loop
loop_counts from [] stock n calls w h = turn_counts from [] stock n calls w _ h (λ v k er e. absurd (end_accepts stock (shifted_back w) k er))
loop_counts from (r ∷ rest) stock n calls w h = turn_counts from (r ∷ rest) stock n calls w _ h (λ v k er e. loop_counts from rest stock n (calls + 1) v e)

-- THE DEVICE CALLS of each public call: the replies that it took, plus one if it met the script's end
pub Reports : World → Called → Type 0
Reports w c = c.calls + w.state.used ≡ c.world.state.used + ended c.answer

unless_reports : (number : ℕ) (w : World) (c : Called) → Reports w c → Reports w (unless number w c)
unfolding unless Reports
unless_reports number w c h = pick_holds (Reports w) (eqb number 0) _ _ (λ e. h) (λ e. omega arith)

pub fill_buf_reports : (script stock : List ℕ) (w : World) → Reports w (fill_buf script stock w)
unfolding fill_buf Reports Counts
fill_buf_reports script stock w = unless_reports _ w _ (fill_counts (drop w.state.used script) stock w)

pub peek_reports : (script stock : List ℕ) (n : ℕ) (w : World) → Reports w (peek script stock n w)
unfolding peek Reports Counts
peek_reports script stock n w = unless_reports _ w _ (loop_counts w.state.used (drop w.state.used script) stock n 0 w (omega arith))

pub consume_reports : (script stock : List ℕ) (amt : ℕ) (w : World) → Reports w (consume script stock amt w)
unfolding consume Reports
consume_reports script stock amt w = unless_reports _ w _ (omega arith)

sought_used : (offset : ℤ) (s : State) → (sought offset s).used ≡ s.used
unfolding sought
sought_used (pos n) s = refl
sought_used (negsuc n) s = refl

pub seek_relative_reports : (script stock : List ℕ) (offset : ℤ) (w : World) → Reports w (seek_relative script stock offset w)
unfolding seek_relative Reports
seek_relative_reports script stock offset w = unless_reports _ w _ (rw (sought_used offset w.state) (omega arith))

direct_reports : (script stock d : List ℕ) (w : World) → Reports w (direct script stock d w).called
unfolding direct Reports
direct_reports script stock d w = exchange_handed (drop w.state.used script) w.state.used (min (length d) (length stock - w.state.taken))

ended_cut : (most : ℕ) (r : Reply) → ended (handed (at_most most r)) ≡ ended (handed r)
unfolding at_most
ended_cut most (Ok n) = refl
ended_cut most (Err e) = refl

copied_reports : (d : List ℕ) (w : World) (f : Fetched) → Counts w.state.used f → Reports w (copied d f).called
unfolding copied Reports Counts
copied_reports d w f h = rw (ended_cut (length d) f.reply) h

pub read_reports : (script stock d : List ℕ) (w : World) → Reports w (read script stock d w).called
unfolding read read_unrefused Reports
read_reports script stock d w =
    pick_holds (λ (r : Reading). Reports w r.called) (eqb (refusal script stock w (length_refusal (length d))) 0) _ _
    (λ e. pick_holds (λ (r : Reading). Reports w r.called) (eqb w.state.pos w.state.filled && leb (length w.storage) (length d)) _ _
    (λ e'. direct_reports script stock d w)
    (λ e'. copied_reports d w _ (fill_counts (drop w.state.used script) stock w)))
    (λ e. omega arith)
