-- The three ways through `read`.
-- Assumes nothing.
use mathlib.Core.Path.{◌≡◌, refl, sym, ap, ◌∙◌}
use mathlib.Core.Bool.{Bool, true, false, ◌&&◌}
use mathlib.Core.List.{List}
use Prim.Native.Nat.{ℕ, ◌+◌, ◌-◌, ◌≤◌, ◌<◌, min}
use native.Mathlib.Omega.{arith}
use lib.ListN.{length, drop}
use borrow.Author.Tests.{le-leb, lt-leb, eq-eqb, ne_eqb}
use Rattle.laws.specs.Put.{put}
use Rattle.laws.proofs.Puts.{put_none}
use Rattle.std.specs.Prelude.{Err}
use Rattle.card.specs.Answers.{ok, refused, failed, failure_by}
use Rattle.card.specs.Device.{accept, exchange, at_most, moves}
use Rattle.card.specs.Limits.{length_refusal, refusal_number}
use Rattle.card.specs.declared.DeviceError.{DeviceError}
use Rattle.card.specs.declared.limits.Refusal.{Refusal}
use Rattle.card.specs.declared.Exchange.{Exchange}
use Rattle.card.proofs.Refusals.{refusal_some}
use Rattle.reader.specs.declared.State.{State}
use Rattle.reader.specs.World.{World, Fetched, Reading, world}
use Rattle.reader.specs.Buffer.{count, consume, fill_buf}
use Rattle.reader.specs.Reader.{handed, refusal, direct, copied, buffered, read_unrefused, read}
use Rattle.reader.proofs.Buffers.{Fills}
use Rattle.reader.proofs.Refusals.{fit, number_own}

-- straight from the device
pub direct_got : (script stock d x s : List ℕ) (st : State) (e : Exchange) (n k : ℕ) → e ≡ exchange (drop st.used script) st.used (min (length d) (length stock - st.taken)) → x ≡ put d 0 (drop st.taken stock) (moves e.reply) → n ≡ moves e.reply → k ≡ 0 → record { destination = x; called = record { answer = handed e.reply; calls = k + 1; world = world s (record { pos = 0; filled = 0; taken = st.taken + n; used = e.used }) } } ≡ direct script stock d (world s st)
unfolding direct
direct_got script stock d x s st e n k pe px pn pk = rw (← pe, px, pn, pk)

-- after a fill the place is inside the storage
pub within : (script stock : List ℕ) (capacity : ℕ) (f : Fetched) → Fills script stock capacity f → f.world.state.pos ≤ length f.world.storage
within script stock capacity f k = omega (arith, k.kept.fit.pos_in, k.kept.fit.filled_in)

-- through the buffer
pub held_most : (script stock : List ℕ) (capacity j k n a : ℕ) (v : World) → Fills script stock capacity (record { reply = accept j; calls = k; world = v }) → n ≡ min j a → v.state.pos + n ≤ length v.storage
held_most script stock capacity j k n a v h en = omega (arith, h.counted, h.kept.fit.pos_in, h.kept.fit.filled_in)

pub copied_got : (d x : List ℕ) (j k n : ℕ) (v : World) (st : State) (g : Fetched) → record { reply = accept j; calls = k; world = v } ≡ g → n ≡ min j (length d) → x ≡ put d 0 (drop v.state.pos v.storage) n → st ≡ consume n v.state → record { destination = x; called = record { answer = ok n; calls = k; world = world v.storage st } } ≡ copied d g
unfolding copied at_most
copied_got d x j k n v st g e en ex es = rw (← e, ex, es, en)

-- a fill that failed leaves nothing to copy
pub copied_none : (d : List ℕ) (r : DeviceError) (k : ℕ) (v : World) (g : Fetched) → record { reply = Err r; calls = k; world = v } ≡ g → record { destination = d; called = record { answer = failed (failure_by r); calls = k; world = v } } ≡ copied d g
unfolding copied at_most
copied_none d r k v g e =
    let stays : v.state.pos + min 0 (count v.state) ≡ v.state.pos = omega arith in
    rw (← e, stays, ← put_none d 0 (drop v.state.pos v.storage)) refl

-- of what is buffered
pub buffered_got : (d x s : List ℕ) (st : State) (n c : ℕ) → n ≡ min (st.filled - st.pos) (length d) → x ≡ put d 0 (drop st.pos s) n → c ≡ 0 → record { destination = x; called = record { answer = ok n; calls = c; world = world s (record { pos = st.pos + n; filled = st.filled; taken = st.taken; used = st.used }) } } ≡ copied d (buffered (world s st))
unfolding copied at_most
buffered_got d x s st n c en ex ec =
    let all : min n (st.filled - st.pos) ≡ n = omega arith in
    rw (ex, ec, ← en, all)

-- with bytes buffered a fill only counts them
pub held_fill : (left stock s : List ℕ) (st : State) → (st.pos ≡ st.filled → ⊥) → fill_buf left stock (world s st) ≡ buffered (world s st)
unfolding fill_buf
held_fill left stock s st h = rw (ne_eqb _ _ h)

held_way : (script stock d s : List ℕ) (st : State) → (st.pos ≡ st.filled → ⊥) → read_unrefused script stock d (world s st) ≡ copied d (fill_buf (drop st.used script) stock (world s st))
unfolding read_unrefused
held_way script stock d s st h = rw (ne_eqb _ _ h)

and_false : (b : Bool) → b && false ≡ false
and_false true = refl
and_false false = refl

small_way : (script stock d s : List ℕ) (st : State) → length d < length s → read_unrefused script stock d (world s st) ≡ copied d (fill_buf (drop st.used script) stock (world s st))
unfolding read_unrefused
small_way script stock d s st h = rw (lt-leb _ _ h, and_false)

straight_way : (script stock d s : List ℕ) (st : State) → st.pos ≡ st.filled → length s ≤ length d → read_unrefused script stock d (world s st) ≡ direct script stock d (world s st)
unfolding read_unrefused
straight_way script stock d s st h l = rw (eq-eqb _ _ h, le-leb _ _ l)

module _ (script stock d s : List ℕ) (st : State) where
  pub read_refused : (r : Refusal) → refusal_number r ≡ refusal script stock (world s st) (length_refusal (length d)) → record { destination = d; called = record { answer = refused (refusal_number r); calls = 0; world = world s st } } ≡ read script stock d (world s st)
  unfolding read
  read_refused r e = rw (← e, ne_eqb _ _ (refusal_some r _ refl))

  module _ (z : 0 ≡ refusal script stock (world s st) 0) (o : 0 ≡ length_refusal (length d)) where
    passes : read script stock d (world s st) ≡ read_unrefused script stock d (world s st)
    unfolding read
    passes = rw (← number_own script stock (world s st) (length_refusal (length d)) 0 z o)

    -- bytes are buffered
    pub read_held : (g : Reading) → st.pos < st.filled → g ≡ copied d (buffered (world s st)) → g ≡ read script stock d (world s st)
    read_held g h eg =
        let apart : st.pos ≡ st.filled → ⊥ = λ q. omega arith in
        eg ∙ sym (passes ∙ held_way script stock d s st apart ∙ ap (λ (f : Fetched). copied d f) (held_fill (drop st.used script) stock s st apart))

    -- the destination is smaller than the storage
    pub read_small : (g : Reading) → length d < length s → g ≡ copied d (fill_buf (drop st.used script) stock (world s st)) → g ≡ read script stock d (world s st)
    read_small g h eg = eg ∙ sym (passes ∙ small_way script stock d s st h)

    pub read_straight : (g : Reading) → st.filled ≤ st.pos → length s ≤ length d → g ≡ direct script stock d (world s st) → g ≡ read script stock d (world s st)
    read_straight g h l eg =
        let f = fit z in
        eg ∙ sym (passes ∙ straight_way script stock d s st (omega (arith, f.pos_in)) l)
