-- The ledger of reading: over any calls from new, what is buffered is what the stock has before the bytes taken, and each
-- `read` hands out the stock's bytes from the reader's place on.
-- Assumes nothing.
use mathlib.Core.Path.{◌≡◌, refl, sym, ap, ap₂, ◌∙◌}
use mathlib.Core.Bool.{Bool, true, false, ◌&&◌}
use mathlib.Core.List.{List, [], ◌∷◌, ◌++◌}
use Prim.Native.Nat.{ℕ, suc, ◌+◌, ◌-◌, ◌≤◌, min}
use native.Mathlib.Nat.{zero-add}
use native.Mathlib.Omega.{arith}
use lib.Dec.{leb, ltb, eqb}
use lib.IntN.{ℤ, pos, negsuc}
use lib.ListN.{length, take, drop, get_or, length-drop}
use lib.Seq.{take-add, drop-drop, take-take, drop_at, length-take-le}
use borrow.Author.Tests.{eqb-true}
use Rattle.laws.proofs.Picks.{pick_holds}
use Rattle.laws.specs.Pick.{pick}
use Rattle.laws.specs.Put.{put}
use Rattle.laws.proofs.Puts.{put_none, put_same, length-put, take_put}
use Rattle.card.specs.Answers.{Said, refused}
use Rattle.std.specs.Prelude.{Ok, Err}
use Rattle.card.specs.Device.{Reply, exchange, at_most, moves}
use Rattle.card.specs.declared.DeviceError.TheVariants.{Interrupted, Error}
use Rattle.card.specs.Limits.{length_refusal}
use Rattle.card.proofs.Replies.{exchange_most, moves_most}
use Rattle.reader.specs.declared.State.{State}
use Rattle.reader.specs.World.{World, Fetched, Called, Reading, world}
use Rattle.reader.specs.Buffer as Buffer
use Rattle.reader.specs.Buffer.{count, new, discard, backshift, added, read_more}
use Rattle.reader.specs.Reader.{handed, refusal, unless, fill_buf, consume, sought, seek_relative, shifted_back, after_more, peek_turn, peek_loop, peek, direct, copied, read_unrefused, read}
use Rattle.reader.proofs.Buffers.{moves_cut}

-- the reader's place in the stock: the bytes taken, less what is still buffered
abbrev pub place : State → ℕ
place s = s.taken - count s

-- the count of an answer: every other answer than an ok has count 0
abbrev pub count_of : Said → ℕ
count_of a = pick (eqb (get_or a 0 1) 0) (get_or a 1 0) 0

-- a call of the reader, and the world that it leaves
pub data Call : Type 0 where
  a_read : List ℕ → Call
  a_consume : ℕ → Call
  a_seek : ℤ → Call
  a_peek : ℕ → Call
  a_fill : Call

unfoldable pub after : List ℕ → List ℕ → Call → World → World
after script stock (a_read destination) w = (read script stock destination w).called.world
after script stock (a_consume amt) w = (consume script stock amt w).world
after script stock (a_seek offset) w = (seek_relative script stock offset w).world
after script stock (a_peek n) w = (peek script stock n w).world
after script stock a_fill w = (fill_buf script stock w).world

unfoldable pub run : List ℕ → List ℕ → List Call → World → World
run script stock [] w = w
run script stock (c ∷ cs) w = run script stock cs (after script stock c w)

-- The first `filled` bytes of the storage are the last `filled` bytes of the stock before `taken`
pub record Ledger (stock : List ℕ) (w : World) : Type 0 where
  pub pos_in : w.state.pos ≤ w.state.filled
  pub filled_in : w.state.filled ≤ length w.storage
  pub behind : w.state.filled ≤ w.state.taken
  pub taken_in : w.state.taken ≤ length stock
  pub bytes : take w.state.filled w.storage ≡ take w.state.filled (drop (w.state.taken - w.state.filled) stock)

pub at_new : (stock s : List ℕ) → Ledger stock (world s new)
at_new stock s = record { pos_in = omega arith; filled_in = omega arith; behind = omega arith; taken_in = omega arith; bytes = refl }

-- a state that differs in pos alone
moved_pos : (stock s : List ℕ) (st : State) (p : ℕ) → Ledger stock (world s st) → p ≤ st.filled → Ledger stock (world s (record { pos = p; filled = st.filled; taken = st.taken; used = st.used }))
moved_pos stock s st p l h = record { pos_in = h; filled_in = l.filled_in; behind = l.behind; taken_in = l.taken_in; bytes = l.bytes }

pub consumed : (stock s : List ℕ) (st : State) (amt : ℕ) → Ledger stock (world s st) → Ledger stock (world s (Buffer.consume amt st))
consumed stock s st amt l = moved_pos stock s st (st.pos + min amt (st.filled - st.pos)) l (omega (arith, l.pos_in))

sought_kept : (stock s : List ℕ) (st : State) (offset : ℤ) → Ledger stock (world s st) → Ledger stock (world s (sought offset st))
unfolding sought
sought_kept stock s st (pos n) l = consumed stock s st n l
sought_kept stock s st (negsuc n) l = moved_pos stock s st (st.pos - suc n) l (omega (arith, l.pos_in))

discarded : (stock s : List ℕ) (st : State) → Ledger stock (world s st) → Ledger stock (world s (discard st))
discarded stock s st l = record { pos_in = omega arith; filled_in = omega arith; behind = omega arith; taken_in = l.taken_in; bytes = refl }

-- a list without its first p, of its first f
drop-take : (p f : ℕ) (l : List ℕ) → p ≤ f → f ≤ length l → drop p (take f l) ≡ take (f - p) (drop p l)
drop-take p f l h g =
    let e : p + (f - p) ≡ f = omega arith in
    ap (λ (k : ℕ). drop p (take k l)) (sym e) ∙ ap (drop p) (take-add p (f - p) l) ∙ drop_at (take p l) (take (f - p) (drop p l)) p (length-take-le p l (omega arith))

-- what is buffered is what the stock has from the place on
pub shown_bytes : (stock : List ℕ) (w : World) → Ledger stock w → take (count w.state) (drop w.state.pos w.storage) ≡ take (count w.state) (drop (place w.state) stock)
shown_bytes stock w l =
    let p = w.state.pos in
    let f = w.state.filled in
    let t = w.state.taken in
    let long : f ≤ length (drop (t - f) stock) = simp length-drop (omega (arith, l.behind, l.taken_in)) in
    let at : t - f + p ≡ t - (f - p) = omega (arith, l.behind, l.pos_in) in
    sym (drop-take p f w.storage l.pos_in l.filled_in)
    ∙ ap (drop p) l.bytes
    ∙ drop-take p f (drop (t - f) stock) l.pos_in long
    ∙ ap (take (f - p)) (drop-drop p (t - f) stock ∙ ap (λ (k : ℕ). drop k stock) at)

shifted_kept : (stock : List ℕ) (w : World) → Ledger stock w → Ledger stock (backshift w)
unfolding backshift
shifted_kept stock w l =
    let k = count w.state in
    let p = w.state.pos in
    let in-range : k ≤ length w.storage = omega (arith, l.filled_in) in
    let there : k ≤ length (drop p w.storage) = simp length-drop (omega (arith, l.filled_in)) in
    let long : length (put w.storage 0 (drop p w.storage) k) ≡ length w.storage = length-put w.storage 0 (drop p w.storage) k (omega arith) there in
    let front : take k (put w.storage 0 (drop p w.storage) k) ≡ take k (drop p w.storage) =
    ap (λ (j : ℕ). take j (put w.storage 0 (drop p w.storage) k)) (sym (zero-add k)) ∙ take_put w.storage 0 (drop p w.storage) k (omega arith) there in
    record {
      pos_in = omega arith;
      filled_in = rw long in-range;
      behind = omega (arith, l.behind);
      taken_in = l.taken_in;
      bytes = front ∙ shown_bytes stock w l;
    }

back_kept : (stock : List ℕ) (w : World) → Ledger stock w → Ledger stock (shifted_back w)
unfolding shifted_back
back_kept stock w l = pick_holds (Ledger stock) (ltb 0 w.state.pos) _ _ (λ e. shifted_kept stock w l) (λ e. l)

pub more_kept : (left stock : List ℕ) (w : World) → Ledger stock w → Ledger stock (read_more left stock w).world
unfolding read_more added
more_kept left stock w l =
    let f = w.state.filled in
    let t = w.state.taken in
    let room = length w.storage - f in
    let rest = length stock - t in
    let n = moves (exchange left w.state.used (min room rest)).reply in
    let most : n ≤ min room rest = exchange_most left w.state.used (min room rest) in
    let there : n ≤ length (drop t stock) = simp length-drop (omega (arith, most)) in
    let long : length (put w.storage f (drop t stock) n) ≡ length w.storage = length-put w.storage f (drop t stock) n (omega (arith, most, l.filled_in)) there in
    let e : t - f + f ≡ t = omega (arith, l.behind) in
    let from : t + n - (f + n) ≡ t - f = omega (arith, l.behind) in
    let both : take (f + n) (put w.storage f (drop t stock) n) ≡ take (f + n) (drop (t + n - (f + n)) stock) =
    take_put w.storage f (drop t stock) n l.filled_in there
    ∙ ap₂ (λ (a b : List ℕ). a ++ take n b) l.bytes (sym (drop-drop f (t - f) stock ∙ ap (λ (k : ℕ). drop k stock) e))
    ∙ sym (take-add f n (drop (t - f) stock))
    ∙ ap (λ (k : ℕ). take (f + n) (drop k stock)) (sym from) in
    record {
      pos_in = omega (arith, l.pos_in);
      filled_in = rw long (omega (arith, most, l.filled_in));
      behind = omega (arith, l.behind);
      taken_in = omega (arith, most, l.taken_in);
      bytes = both;
    }

pub filled_kept : (left stock : List ℕ) (w : World) → Ledger stock w → Ledger stock (Buffer.fill_buf left stock w).world
unfolding Buffer.fill_buf
filled_kept left stock w l =
    pick_holds (λ (f : Fetched). Ledger stock f.world) (eqb w.state.pos w.state.filled) _ _
    (λ e. more_kept left stock (world w.storage (discard w.state)) (discarded stock w.storage w.state l))
    (λ e. l)

after_kept : (stock : List ℕ) (r : Reply) (calls : ℕ) (w : World) (on : Fetched) → Ledger stock w → Ledger stock on.world → Ledger stock (after_more r calls w on).world
unfolding after_more
after_kept stock (Ok n) calls w on l o = pick_holds (λ (f : Fetched). Ledger stock f.world) (eqb n 0) _ _ (λ e. l) (λ e. o)
after_kept stock (Err e) calls w on l o = l

turn_kept : (left stock : List ℕ) (n calls : ℕ) (w : World) (on : World → Fetched) → Ledger stock w → ((v : World) → Ledger stock v → Ledger stock (on v).world) → Ledger stock (peek_turn left stock n calls w on).world
unfolding peek_turn
turn_kept left stock n calls w on l o =
    let m = more_kept left stock (shifted_back w) (back_kept stock w l) in
    pick_holds (λ (f : Fetched). Ledger stock f.world) (leb n (count w.state)) _ _
    (λ e. l)
    (λ e. after_kept stock (read_more left stock (shifted_back w)).reply _ (read_more left stock (shifted_back w)).world _ m (o (read_more left stock (shifted_back w)).world m))

peek_kept : (left stock : List ℕ) (n calls : ℕ) (w : World) → Ledger stock w → Ledger stock (peek_loop left stock n calls w).world
unfolding peek_loop
peek_kept [] stock n calls w l = turn_kept [] stock n calls w _ l (λ v k. k)
peek_kept (r ∷ rest) stock n calls w l = turn_kept (r ∷ rest) stock n calls w _ l (λ v k. peek_kept rest stock n (calls + 1) v k)

unless_kept : (stock : List ℕ) (number : ℕ) (w : World) (c : Called) → Ledger stock w → Ledger stock c.world → Ledger stock (unless number w c).world
unfolding unless
unless_kept stock number w c l m = pick_holds (λ (d : Called). Ledger stock d.world) (eqb number 0) _ _ (λ e. m) (λ e. l)

-- What `read` hands out: as many bytes as it answers, the stock's from the reader's place on, and the place moves by them
pub record Hands (stock d : List ℕ) (st : State) (r : Reading) : Type 0 where
  pub room : count_of r.called.answer ≤ length d
  pub there : place st + count_of r.called.answer ≤ length stock
  pub bytes : r.destination ≡ put d 0 (drop (place st) stock) (count_of r.called.answer)
  pub onward : place r.called.world.state ≡ place st + count_of r.called.answer
  pub ledger : Ledger stock r.called.world

count_handed : (r : Reply) → count_of (handed r) ≡ moves r
count_handed (Ok n) = refl
count_handed (Err Interrupted) = refl
count_handed (Err (Error code)) = refl

-- fewer of the same bytes
take_fewer : (m n : ℕ) (s t : List ℕ) → m ≤ n → take n s ≡ take n t → take m s ≡ take m t
take_fewer m n s t h e = sym (take-take m n s h) ∙ ap (take m) e ∙ take-take m n t h

direct_hands : (script stock d : List ℕ) (w : World) → Ledger stock w → w.state.pos ≡ w.state.filled → Hands stock d w.state (direct script stock d w)
unfolding direct
direct_hands script stock d w l h =
    let t = w.state.taken in
    let left = drop w.state.used script in
    let rest = length stock - t in
    let r = (exchange left w.state.used (min (length d) rest)).reply in
    let most : moves r ≤ min (length d) rest = exchange_most left w.state.used (min (length d) rest) in
    let n : count_of (handed r) ≡ moves r = count_handed r in
    let here : place w.state ≡ t = omega arith in
    record {
      room = rw n (omega (arith, most));
      there = rw (n, here) (omega (arith, most, l.taken_in));
      bytes = rw (n, here) refl;
      onward = rw (n, here) (omega arith);
      ledger =
          record {
            pos_in = omega arith;
            filled_in = omega arith;
            behind = omega arith;
            taken_in = omega (arith, most, l.taken_in);
            bytes = refl;
          };
    }

-- a fill keeps the reader's place, and hands up the count of what is buffered
pub record FillHolds (stock : List ℕ) (st : State) (f : Fetched) : Type 0 where
  pub ledger : Ledger stock f.world
  pub stays : place f.world.state ≡ place st
  pub counted : moves f.reply ≡ count f.world.state

fill_more : (left stock s : List ℕ) (st : State) → Ledger stock (world s st) → st.pos ≡ st.filled → FillHolds stock st (read_more left stock (world s (discard st)))
unfolding read_more added
fill_more left stock s st l h =
    record {
      ledger = more_kept left stock (world s (discard st)) (discarded stock s st l);
      stays = omega arith;
      counted = omega arith;
    }

pub fill_holds : (left stock : List ℕ) (w : World) → Ledger stock w → FillHolds stock w.state (Buffer.fill_buf left stock w)
unfolding Buffer.fill_buf
fill_holds left stock w l =
    pick_holds (FillHolds stock w.state) (eqb w.state.pos w.state.filled) _ _
    (λ e. fill_more left stock w.storage w.state l (eqb-true w.state.pos w.state.filled e))
    (λ e. record { ledger = l; stays = refl; counted = refl })

-- place after n of the buffered bytes were consumed
place_on : (p f t n : ℕ) → n ≤ f - p → p ≤ f → f ≤ t → t - (f - (p + min n (f - p))) ≡ t - (f - p) + n
place_on p f t n h g k = omega arith

copied_hands : (stock d : List ℕ) (st : State) (f : Fetched) → FillHolds stock st f → Hands stock d st (copied d f)
unfolding copied
copied_hands stock d st f k =
    let r = at_most (length d) f.reply in
    let v = f.world in
    let l = k.ledger in
    let n : count_of (handed r) ≡ moves r = count_handed r in
    let most : moves r ≤ length d = moves_most (length d) f.reply in
    let few : moves r ≤ count v.state = rw (← k.counted) (moves_cut (length d) f.reply) in
    let same : take (moves r) (drop v.state.pos v.storage) ≡ take (moves r) (drop (place st) stock) =
    take_fewer (moves r) (count v.state) (drop v.state.pos v.storage) (drop (place v.state) stock) few (shown_bytes stock v l)
    ∙ ap (λ (q : ℕ). take (moves r) (drop q stock)) k.stays in
    record {
      room = rw n most;
      there = rw (n, ← k.stays) (omega (arith, few, l.taken_in, l.behind, l.pos_in));
      bytes = rw n (put_same d 0 _ _ (moves r) same);
      onward = rw (n, ← k.stays) (place_on v.state.pos v.state.filled v.state.taken (moves r) few l.pos_in l.behind);
      ledger = consumed stock v.storage v.state (moves r) l;
    }

-- a refused `read` hands out nothing
refused_hands : (stock d : List ℕ) (number : ℕ) (w : World) → Ledger stock w → Hands stock d w.state (record { destination = d; called = record { answer = refused number; calls = 0; world = w } })
refused_hands stock d number w l =
    record {
      room = omega arith;
      there = omega (arith, l.taken_in, l.behind);
      bytes = put_none d 0 (drop (place w.state) stock);
      onward = omega arith;
      ledger = l;
    }

unrefused_hands : (script stock d : List ℕ) (w : World) → Ledger stock w → Hands stock d w.state (read_unrefused script stock d w)
unfolding read_unrefused
unrefused_hands script stock d w l = by (eqb w.state.pos w.state.filled) (leb (length w.storage) (length d)) (λ e. eqb-true w.state.pos w.state.filled e)
  where
    through : Hands stock d w.state (copied d (Buffer.fill_buf (drop w.state.used script) stock w))
    through = copied_hands stock d w.state (Buffer.fill_buf (drop w.state.used script) stock w) (fill_holds (drop w.state.used script) stock w l)

    by : (b k : Bool) → (b ≡ true → w.state.pos ≡ w.state.filled) → Hands stock d w.state (pick (b && k) (direct script stock d w) (copied d (Buffer.fill_buf (drop w.state.used script) stock w)))
    by true true h = direct_hands script stock d w l (h refl)
    by true false h = through
    by false k h = through

-- each `read` hands out the stock's bytes from the reader's place on
pub read_hands : (script stock d : List ℕ) (w : World) → Ledger stock w → Hands stock d w.state (read script stock d w)
unfolding read
read_hands script stock d w l =
    pick_holds (Hands stock d w.state) (eqb (refusal script stock w (length_refusal (length d))) 0) _ _
    (λ e. unrefused_hands script stock d w l)
    (λ e. refused_hands stock d (refusal script stock w (length_refusal (length d))) w l)

-- no call breaks the ledger
pub call_kept : (script stock : List ℕ) (c : Call) (w : World) → Ledger stock w → Ledger stock (after script stock c w)
unfolding after fill_buf consume seek_relative peek
call_kept script stock (a_read d) w l = (read_hands script stock d w l).ledger
call_kept script stock (a_consume amt) w l = unless_kept stock _ w _ l (consumed stock w.storage w.state amt l)
call_kept script stock (a_seek offset) w l = unless_kept stock _ w _ l (sought_kept stock w.storage w.state offset l)
call_kept script stock (a_peek n) w l = unless_kept stock _ w _ l (peek_kept (drop w.state.used script) stock n 0 w l)
call_kept script stock a_fill w l = unless_kept stock _ w _ l (filled_kept (drop w.state.used script) stock w l)

run_kept : (script stock : List ℕ) (cs : List Call) (w : World) → Ledger stock w → Ledger stock (run script stock cs w)
unfolding run
run_kept script stock [] w l = l
run_kept script stock (c ∷ cs) w l = run_kept script stock cs (after script stock c w) (call_kept script stock c w l)

-- THE LEDGER OF READING. From new, over any calls: the first `filled` bytes of the storage are the last `filled` bytes of
-- the stock before `taken`, and a `read` that comes next hands out the stock's bytes from the reader's place on
pub ledger : (script stock s : List ℕ) (cs : List Call) → Ledger stock (run script stock cs (world s new))
ledger script stock s cs = run_kept script stock cs (world s new) (at_new stock s)

pub next_read : (script stock s : List ℕ) (cs : List Call) (d : List ℕ) → Hands stock d (run script stock cs (world s new)).state (read script stock d (run script stock cs (world s new)))
next_read script stock s cs d = read_hands script stock d (run script stock cs (world s new)) (ledger script stock s cs)
