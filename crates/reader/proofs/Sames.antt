-- No second answer keeps a promise: each public function's promise has one answer, one state and one set of lent bytes.
-- Assumes nothing.
use mathlib.Core.Path.{◌≡◌, sym, ap, ◌∙◌}
use mathlib.Core.List.{List}
use Prim.Native.Nat.{ℕ}
use lib.IntN.{ℤ}
use lib.ListN.{length-replicate}
use Rattle.std.specs.Prelude.{Result, Ok, Err, replicate}
use Rattle.card.proofs.Sames.{one}
use Rattle.card.specs.Answers.{Said, said_count, said_done}
use Rattle.card.specs.declared.Failure.{Failure}
use Rattle.card.proofs.Saids.{count_same, done_same}
use Rattle.reader.specs.declared.State.{State}
use Rattle.reader.specs.declared.Sizes.{Sizes}
use Rattle.reader.specs.declared.BufReader.{BufReader}
use Rattle.reader.specs.World.{World, Called, Reading, world, world_of, called, reading, placed, sizes_of}
use Rattle.reader.specs.Buffer.{new, count, shown}
use Rattle.reader.specs.Reader.{fill_buf, consume, seek_relative, peek, read}

-- what a reader tells besides its answer: the device calls, and the state with every byte of the storage
pub record Left (x y : BufReader) : Type 0 where
  pub calls : x.calls ≡ y.calls
  pub world : world_of x ≡ world_of y

-- what is told of a call tells all of them
told : (a b : Said) (x y : BufReader) → called a x ≡ called b y → (a ≡ b) × Left x y
told a b x y e =
    (ap (λ (c : Called). c.answer) e, record { calls = ap (λ (c : Called). c.calls) e; world = ap (λ (c : Called). c.world) e })

-- two calls that keep one promise
module _ (p : Called) (x y : BufReader) where
  counts_same : (r q : Result ℕ Failure) → called (said_count r) x ≡ p → called (said_count q) y ≡ p → (r ≡ q) × Left x y
  counts_same r q e f =
      let t = told (said_count r) (said_count q) x y (e ∙ sym f) in
      (count_same r q t.0, t.1)

  dones_same : (r q : Result Unit Failure) → called (said_done r) x ≡ p → called (said_done q) y ≡ p → (r ≡ q) × Left x y
  dones_same r q e f =
      let t = told (said_done r) (said_done q) x y (e ∙ sym f) in
      (done_same r q t.0, t.1)

module _ (script stock : List ℕ) (w : World) (x y : BufReader) where
  pub fill_buf_one : (r q : Result ℕ Failure) → called (said_count r) x ≡ fill_buf script stock w → called (said_count q) y ≡ fill_buf script stock w → (r ≡ q) × Left x y
  fill_buf_one = counts_same (fill_buf script stock w) x y

  pub peek_one : (n : ℕ) (r q : Result ℕ Failure) → called (said_count r) x ≡ peek script stock n w → called (said_count q) y ≡ peek script stock n w → (r ≡ q) × Left x y
  peek_one n = counts_same (peek script stock n w) x y

  pub consume_one : (amt : ℕ) (r q : Result Unit Failure) → called (said_done r) x ≡ consume script stock amt w → called (said_done q) y ≡ consume script stock amt w → (r ≡ q) × Left x y
  consume_one amt = dones_same (consume script stock amt w) x y

  pub seek_relative_one : (offset : ℤ) (r q : Result Unit Failure) → called (said_done r) x ≡ seek_relative script stock offset w → called (said_done q) y ≡ seek_relative script stock offset w → (r ≡ q) × Left x y
  seek_relative_one offset = dones_same (seek_relative script stock offset w) x y

  pub read_one : (d u v : List ℕ) (r q : Result ℕ Failure) → reading (said_count r) x u ≡ read script stock d w → reading (said_count q) y v ≡ read script stock d w → ((r ≡ q) × Left x y) × (u ≡ v)
  read_one d u v r q e f =
      let called_one : called (said_count r) x ≡ called (said_count q) y = ap (λ (c : Reading). c.called) (e ∙ sym f) in
      (counts_same (called (said_count q) y) x y r q called_one (λ i. called (said_count q) y), ap (λ (c : Reading). c.destination) (e ∙ sym f))

-- a call on the state alone: an answer that fits the sizes is one, whatever the numbers
placed_same : (w : World) (r q : Result State Failure) → placed r w ≡ placed q w → r ≡ q
placed_same w (Ok s) (Ok t) e =
    let h : s ≡ t = ap (λ (c : Called). c.world.state) e in
    cc
placed_same w (Ok s) (Err g) e =
    let h : ◌≡◌ {A = Result Unit Failure} (Ok tt) (Err g) = done_same (Ok tt) (Err g) (ap (λ (c : Called). c.answer) e) in
    cc
placed_same w (Err f) (Ok t) e =
    let h : ◌≡◌ {A = Result Unit Failure} (Err f) (Ok tt) = done_same (Err f) (Ok tt) (ap (λ (c : Called). c.answer) e) in
    cc
placed_same w (Err f) (Err g) e =
    let h : ◌≡◌ {A = Result Unit Failure} (Err f) (Err g) = done_same (Err f) (Err g) (ap (λ (c : Called). c.answer) e) in
    cc

-- bytes and replies of these sizes
fits_sizes : (sizes : Sizes) → sizes ≡ sizes_of (replicate sizes.capacity 0) (replicate sizes.script 0) (replicate sizes.stock 0)
fits_sizes sizes = simp length-replicate

abbrev pub Keeps : Sizes → State → (List ℕ → List ℕ → World → Called) → Result State Failure → Type 0
Keeps sizes st promise r = (storage script stock : List ℕ) → sizes ≡ sizes_of storage script stock → placed r (world storage st) ≡ promise script stock (world storage st)

sized_one : (sizes : Sizes) (st : State) (promise : List ℕ → List ℕ → World → Called) (r q : Result State Failure) → Keeps sizes st promise r → Keeps sizes st promise q → r ≡ q
sized_one sizes st promise r q e f =
    placed_same (world (replicate sizes.capacity 0) st) r q
    (e (replicate sizes.capacity 0) (replicate sizes.script 0) (replicate sizes.stock 0) (fits_sizes sizes)
    ∙ sym (f (replicate sizes.capacity 0) (replicate sizes.script 0) (replicate sizes.stock 0) (fits_sizes sizes)))

module _ (sizes : Sizes) (st : State) where
  pub state_consume_one : (amt : ℕ) (r q : Result State Failure) → Keeps sizes st (λ script stock w. consume script stock amt w) r → Keeps sizes st (λ script stock w. consume script stock amt w) q → r ≡ q
  state_consume_one amt = sized_one sizes st (λ script stock w. consume script stock amt w)

  pub state_seek_relative_one : (offset : ℤ) (r q : Result State Failure) → Keeps sizes st (λ script stock w. seek_relative script stock offset w) r → Keeps sizes st (λ script stock w. seek_relative script stock offset w) q → r ≡ q
  state_seek_relative_one offset = sized_one sizes st (λ script stock w. seek_relative script stock offset w)

-- the promises that are an equation for the result itself
pub new_one : (r q : State) → r ≡ new → q ≡ new → r ≡ q
new_one = one new

pub reader_one : (p r q : BufReader) → r ≡ p → q ≡ p → r ≡ q
reader_one = one

pub sizes_one : (storage script stock : List ℕ) (r q : Sizes) → r ≡ sizes_of storage script stock → q ≡ sizes_of storage script stock → r ≡ q
sizes_one storage script stock = one (sizes_of storage script stock)

pub peeked_one : (n : ℕ) (s : List ℕ) (st : State) (x y : List ℕ) → x ≡ shown n (world s st) → y ≡ shown n (world s st) → x ≡ y
peeked_one n s st = one (shown n (world s st))

pub buffered_one : (s : List ℕ) (st : State) (x y : List ℕ) → x ≡ shown (count st) (world s st) → y ≡ shown (count st) (world s st) → x ≡ y
buffered_one s st = peeked_one (count st) s st
