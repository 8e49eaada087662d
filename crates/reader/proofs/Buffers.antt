-- What the buffer's calls leave.
-- Assumes nothing.
use mathlib.Core.Path.{◌≡◌, refl, sym, ap, ◌∙◌}
use mathlib.Core.List.{List, [], ◌++◌, append_assoc, append-nil}
use Prim.Native.Nat.{ℕ, ◌+◌, ◌-◌, ◌≤◌, min}
use native.Mathlib.Nat.{zero-add}
use native.Mathlib.Omega.{arith}
use lib.Dec.{eqb}
use lib.ListN.{length, take, drop, length-drop, drop_of_length-le}
use lib.Seq.{drop-drop}
use borrow.Rule.Slice.PartMut.{put_mid}
use borrow.Author.Tests.{eq-eqb, ne_eqb}
use Rattle.laws.specs.Put.{put}
use Rattle.laws.proofs.Picks.{pick_holds}
use Rattle.laws.proofs.Parts.{rest, drop_least, take_least}
use Rattle.laws.proofs.Puts.{opened, length-put}
use Rattle.std.specs.Prelude.{Ok, Err}
use Rattle.card.specs.Device.{Reply, accept, exchange, at_most, moves}
use Rattle.card.specs.declared.Exchange.{Exchange}
use Rattle.card.proofs.Replies.{exchange_most, takes_fit}
use Rattle.reader.specs.declared.State.{State}
use Rattle.reader.specs.World.{World, Fetched, Fit, world, since}
use Rattle.reader.specs.Buffer.{count, shown, discard, backshift, added, read_more, fill_buf}

-- a part of the storage, cut to what is there
pub part_shown : (s : List ℕ) (st : State) (n from held more : ℕ) → from ≡ min st.pos (length s) → held ≡ min n (st.filled - st.pos) → more ≡ min held (length s - from) → take (from + more - from) (drop from s) ≡ shown n (world s st)
unfolding shown
part_shown s st n from held more ef eh em =
    let q : from + more - from ≡ more = omega arith in
    let m : more ≡ min held (length (drop from s)) = rw length-drop em in
    rw (q, take_least held more (drop from s) m, drop_least st.pos from s ef, eh)

pub shifted : (s x : List ℕ) (st : State) (k : ℕ) → x ≡ put s 0 (drop st.pos s) (min st.filled (length s) - st.pos) → k ≡ st.filled - st.pos → st.filled ≤ length s → world x (record { pos = 0; filled = k; taken = st.taken; used = st.used }) ≡ backshift (world s st)
unfolding backshift
shifted s x st k ex ek h =
    let q : min st.filled (length s) - st.pos ≡ st.filled - st.pos = omega arith in
    rw (ex, ek, q)

-- what a part from a place on was given, put back into the whole
pub put_back : (s x : List ℕ) (at : ℕ) (src : List ℕ) (n : ℕ) → x ≡ put (take (length s - at) (drop at s)) 0 src n → put_mid at (length s - at) s x ≡ put s at src n
put_back s x at src n e =
    let none : drop (length s - at) (drop at s) ≡ [] = drop_of_length-le (drop at s) {i = length s - at} (simp length-drop (omega arith)) in
    let more : x ≡ take n src ++ drop (at + n) s =
    e ∙ ap (λ (l : List ℕ). put l 0 src n) (rest at s) ∙ opened (drop at s) 0 src n ∙ ap (λ (k : ℕ). take n src ++ drop k (drop at s)) (zero-add n) ∙ ap (λ (l : List ℕ). take n src ++ l) (drop-drop n at s) in
    rw (none, append-nil, more, ← append_assoc) (sym (opened s at src n))

-- a reply that is cut moves no more
pub moves_cut : (most : ℕ) (r : Reply) → moves (at_most most r) ≤ moves r
unfolding at_most
moves_cut most (Ok n) = omega arith
moves_cut most (Err e) = omega arith

-- no more than was offered, nor than was left
pub gives : (e : Exchange) (left : List ℕ) (used a b n : ℕ) → e ≡ exchange left used (min a b) → n ≡ moves e.reply → (n ≤ a) × (n ≤ b)
gives e left used a b n pe pn =
    let h : moves e.reply ≤ min a b = rw pe (exchange_most left used (min a b)) in
    omega arith

-- the same of a read into the storage from a place on: what it gives fits behind what is filled, and there was as much
pub gives_more : (script stock s : List ℕ) (st : State) (e : Exchange) (n : ℕ) → e ≡ exchange (drop st.used script) st.used (min (length (take (length s - st.filled) (drop st.filled s))) (length stock - st.taken)) → n ≡ moves e.reply → Fit script stock (world s st) → (st.filled + n ≤ length s) × (st.taken + n ≤ length stock)
gives_more script stock s st e n pe pn f =
    let q : length (take (length s - st.filled) (drop st.filled s)) ≡ length s - st.filled = ap length (rest st.filled s) ∙ length-drop st.filled s in
    let g = gives e (drop st.used script) st.used (length s - st.filled) (length stock - st.taken) n (rw q at pe) pn in
    (omega (arith, g.0, f.filled_in), omega (arith, g.1, f.taken_in))

pub more_got : (script stock s x : List ℕ) (st : State) (e : Exchange) (n k : ℕ) → e ≡ exchange (drop st.used script) st.used (min (length (take (length s - st.filled) (drop st.filled s))) (length stock - st.taken)) → x ≡ put (take (length s - st.filled) (drop st.filled s)) 0 (drop st.taken stock) (moves e.reply) → n ≡ moves e.reply → record { reply = e.reply; calls = k + 1; world = world (put_mid st.filled (length s - st.filled) s x) (record { pos = st.pos; filled = st.filled + n; taken = st.taken + n; used = e.used }) } ≡ since k (read_more (drop st.used script) stock (world s st))
unfolding read_more added
more_got script stock s x st e n k pe px pn =
    let q : length (take (length s - st.filled) (drop st.filled s)) ≡ length s - st.filled = ap length (rest st.filled s) ∙ length-drop st.filled s in
    let whole : e ≡ exchange (drop st.used script) st.used (min (length s - st.filled) (length stock - st.taken)) = rw q at pe in
    rw (← whole, pn, put_back s x st.filled (drop st.taken stock) (moves e.reply) px)

-- nothing buffered: the device is asked
pub fill_read : (script stock s : List ℕ) (st d : State) (k : ℕ) (f : Fetched) → f ≡ since k (read_more (drop d.used script) stock (world s d)) → k ≡ 0 → d ≡ discard st → st.pos ≡ st.filled → f ≡ fill_buf (drop st.used script) stock (world s st)
unfolding fill_buf read_more added
fill_read script stock s st d k f ef ek ed h = rw (eq-eqb _ _ h) (rw (ed, ek) at ef)

-- else it is not
pub fill_kept : (left stock s : List ℕ) (st : State) (n k : ℕ) → n ≡ st.filled - st.pos → k ≡ 0 → (st.pos ≡ st.filled → ⊥) → record { reply = accept n; calls = k; world = world s st } ≡ fill_buf left stock (world s st)
unfolding fill_buf
fill_kept left stock s st n k en ek h = rw (ne_eqb _ _ h, en, ek)

-- What a call of the buffer keeps: the state fits, and the storage is as long as it was
pub record Kept (script stock : List ℕ) (capacity : ℕ) (v : World) : Type 0 where
  pub fit : Fit script stock v
  pub long : length v.storage ≡ capacity

pub fit_discard : (script stock s : List ℕ) (st : State) → Fit script stock (world s st) → Fit script stock (world s (discard st))
fit_discard script stock s st f = record { pos_in = omega arith; filled_in = omega arith; taken_in = f.taken_in; used_in = f.used_in }

-- the script's position stays within the script
pub used_most : (script : List ℕ) (used most : ℕ) → used ≤ length script → (exchange (drop used script) used most).used ≤ length script
unfolding exchange
used_most script used most h = takes_fit script used h

pub kept_back : (script stock : List ℕ) (w : World) → Fit script stock w → Kept script stock (length w.storage) (backshift w)
unfolding backshift
kept_back script stock w f =
    let l : length (put w.storage 0 (drop w.state.pos w.storage) (count w.state)) ≡ length w.storage =
    length-put w.storage 0 (drop w.state.pos w.storage) (count w.state) (omega (arith, f.filled_in)) (simp length-drop (omega (arith, f.filled_in))) in
    record {
      fit = record { pos_in = omega arith; filled_in = rw l (omega (arith, f.filled_in)); taken_in = f.taken_in; used_in = f.used_in };
      long = l;
    }

pub kept_more : (script stock : List ℕ) (w : World) → Fit script stock w → Kept script stock (length w.storage) (read_more (drop w.state.used script) stock w).world
unfolding read_more added
kept_more script stock w f =
    let room = length w.storage - w.state.filled in
    let left = length stock - w.state.taken in
    let n = moves (exchange (drop w.state.used script) w.state.used (min room left)).reply in
    let g : (n ≤ room) × (n ≤ left) = gives _ (drop w.state.used script) w.state.used room left n refl refl in
    let l : length (put w.storage w.state.filled (drop w.state.taken stock) n) ≡ length w.storage =
    length-put w.storage w.state.filled (drop w.state.taken stock) n (omega (arith, f.filled_in, g.0)) (simp length-drop g.1) in
    record {
      fit =
          record {
            pos_in = omega (arith, f.pos_in);
            filled_in = rw l (omega (arith, f.filled_in, g.0));
            taken_in = omega (arith, f.taken_in, g.1);
            used_in = used_most script w.state.used (min room left) f.used_in;
          };
      long = l;
    }

more_counted : (left stock s : List ℕ) (st : State) → moves (read_more left stock (world s (discard st))).reply ≡ count (read_more left stock (world s (discard st))).world.state
unfolding read_more added
more_counted left stock s st = omega arith

-- What a fill keeps besides: it hands up the count of what is buffered, and otherwise nothing is
pub record Fills (script stock : List ℕ) (capacity : ℕ) (f : Fetched) : Type 0 where
  pub kept : Kept script stock capacity f.world
  pub counted : moves f.reply ≡ count f.world.state

fills_so : (script stock : List ℕ) (w : World) → Fit script stock w → Fills script stock (length w.storage) (fill_buf (drop w.state.used script) stock w)
unfolding fill_buf
fills_so script stock w f =
    pick_holds (Fills script stock (length w.storage)) (eqb w.state.pos w.state.filled) _ _
    (λ e. record {
      kept = kept_more script stock (world w.storage (discard w.state)) (fit_discard script stock w.storage w.state f);
      counted = more_counted (drop w.state.used script) stock w.storage w.state;
    })
    (λ e. record { kept = record { fit = f; long = refl }; counted = refl })

pub fills : (script stock : List ℕ) (w : World) (g : Fetched) → g ≡ fill_buf (drop w.state.used script) stock w → Fit script stock w → Fills script stock (length w.storage) g
fills script stock w g e f = rw e (fills_so script stock w f)

-- in document 01's words: where the device is asked, pos becomes 0 and filled the count given, 0 on any other answer
pub fill_asked : (left stock : List ℕ) (w : World) → w.state.pos ≡ w.state.filled → ((fill_buf left stock w).world.state.pos ≡ 0) × ((fill_buf left stock w).world.state.filled ≡ moves (fill_buf left stock w).reply)
unfolding fill_buf read_more added
fill_asked left stock w h = rw (eq-eqb _ _ h) (refl, zero-add _)
