-- `peek` and `peeked` compose: after a `peek` for n that answered ok k, the part that `peeked` hands out has k bytes.
-- Assumes nothing.
use mathlib.Core.Path.{◌≡◌, refl, sym, ap, ◌∙◌}
use mathlib.Core.Bool.{Bool, true, false}
use mathlib.Core.List.{List, [], ◌∷◌}
use Prim.Native.Nat.{ℕ, ◌+◌, ◌-◌, ◌≤◌, ◌<◌, min}
use native.Mathlib.Omega.{arith}
use lib.Dec.{leb, ltb, eqb}
use lib.ListN.{length, drop, length-take, length-drop}
use borrow.Author.Tests.{leb-true, leb-false, eqb-true}
use Rattle.laws.proofs.Picks.{pick_holds}
use Rattle.laws.specs.Pick.{pick}
use Rattle.laws.proofs.Puts.{length-put}
use Rattle.card.specs.Answers.{ok, refused}
use Rattle.std.specs.Prelude.{Ok, Err}
use Rattle.card.specs.Device.{Reply, accept, error, exchange, moves}
use Rattle.card.specs.declared.DeviceError.TheVariants.{Interrupted, Error}
use Rattle.card.proofs.Replies.{exchange_most}
use Rattle.reader.specs.World.{World, Fetched}
use Rattle.reader.specs.Buffer.{count, shown, backshift, added, read_more}
use Rattle.reader.specs.Reader.{handed, handed_up, refusal, unless, shifted_back, after_more, peek_turn, peek_loop, peek_refusal, peek}
use Rattle.reader.proofs.Refusals.{unrefused_fit}

-- pos..filled lies in the storage
pub record Inside (w : World) : Type 0 where
  pub pos_in : w.state.pos ≤ w.state.filled
  pub filled_in : w.state.filled ≤ length w.storage

shift_inside : (w : World) → Inside w → Inside (backshift w)
unfolding backshift
shift_inside w i =
    let k = count w.state in
    let there : k ≤ length (drop w.state.pos w.storage) = simp length-drop (omega (arith, i.filled_in)) in
    record { pos_in = omega arith; filled_in = rw (length-put w.storage 0 (drop w.state.pos w.storage) k (omega (arith, i.filled_in)) there) (omega (arith, i.filled_in)) }

shift_count : (w : World) → count (backshift w).state ≡ count w.state
unfolding backshift
shift_count w = omega arith

-- a shift back keeps the count of what is buffered
record Shifted (w v : World) : Type 0 where
  pub inside : Inside v
  pub same : count v.state ≡ count w.state

shifted_so : (w : World) → Inside w → Shifted w (shifted_back w)
unfolding shifted_back
shifted_so w i = pick_holds (Shifted w) (ltb 0 w.state.pos) _ _ (λ e. record { inside = shift_inside w i; same = shift_count w }) (λ e. record { inside = i; same = refl })

more_inside : (left stock : List ℕ) (w : World) → Inside w → Inside (read_more left stock w).world
unfolding read_more added
more_inside left stock w i =
    let f = w.state.filled in
    let room = length w.storage - f in
    let rest = length stock - w.state.taken in
    let n = moves (exchange left w.state.used (min room rest)).reply in
    let most : n ≤ min room rest = exchange_most left w.state.used (min room rest) in
    let there : n ≤ length (drop w.state.taken stock) = simp length-drop (omega (arith, most)) in
    let long = length-put w.storage f (drop w.state.taken stock) n (omega (arith, most, i.filled_in)) there in
    record { pos_in = omega (arith, i.pos_in); filled_in = rw long (omega (arith, most, i.filled_in)) }

more_count : (left stock : List ℕ) (w : World) → Inside w → count (read_more left stock w).world.state ≡ count w.state + moves (read_more left stock w).reply
unfolding read_more added
more_count left stock w i = omega (arith, i.pos_in)

-- what `peek` for n ends with: a count is that of the bytes it shows
record Ends (n : ℕ) (f : Fetched) : Type 0 where
  pub inside : Inside f.world
  pub told : (k : ℕ) → f.reply ≡ accept k → k ≡ min n (count f.world.state)

same_count : (j k : ℕ) → accept j ≡ accept k → j ≡ k
same_count j k e = cc

after_ends : (n : ℕ) (r : Reply) (calls : ℕ) (v : World) (on : Fetched) → Inside v → ((k : ℕ) → r ≡ accept k → k ≡ 0 → count v.state < n) → Ends n on → Ends n (after_more r calls v on)
unfolding after_more
after_ends n (Ok j) calls v on i few o = by (eqb j 0) (λ e. eqb-true j 0 e)
  where
    by : (b : Bool) → (b ≡ true → j ≡ 0) → Ends n (pick b (record { reply = accept (count v.state); calls = calls; world = v }) on)
    by true z = record { inside = i; told = λ k e. let q = same_count (count v.state) k e in let l = few j refl (z refl) in omega arith }
    by false z = o
after_ends n (Err r) calls v on i few o = record { inside = i; told = λ k e. cc }

turn_ends : (left stock : List ℕ) (n calls : ℕ) (w : World) (on : World → Fetched) → Inside w → ((v : World) → Inside v → Ends n (on v)) → Ends n (peek_turn left stock n calls w on)
unfolding peek_turn
turn_ends left stock n calls w on i o = by (leb n (count w.state)) (λ e. leb-true n (count w.state) e) (λ e. leb-false n (count w.state) e)
  where
    s : Shifted w (shifted_back w)
    s = shifted_so w i

    m : Inside (read_more left stock (shifted_back w)).world
    m = more_inside left stock (shifted_back w) s.inside

    few : count w.state < n → (k : ℕ) → (read_more left stock (shifted_back w)).reply ≡ accept k → k ≡ 0 → count (read_more left stock (shifted_back w)).world.state < n
    few h k e z =
        let none : moves (read_more left stock (shifted_back w)).reply ≡ 0 = ap moves e ∙ z in
        let c = more_count left stock (shifted_back w) s.inside in
        omega (arith, s.same)

    by : (b : Bool) → (b ≡ true → n ≤ count w.state) → (b ≡ false → count w.state < n) → Ends n (pick b (record { reply = accept n; calls = calls; world = w }) (after_more (read_more left stock (shifted_back w)).reply (calls + (read_more left stock (shifted_back w)).calls) (read_more left stock (shifted_back w)).world (on (read_more left stock (shifted_back w)).world)))
    by true h g = record { inside = i; told = λ k e. let q = same_count n k e in let l = h refl in omega arith }
    by false h g = after_ends n (read_more left stock (shifted_back w)).reply _ (read_more left stock (shifted_back w)).world _ m (few (g refl)) (o (read_more left stock (shifted_back w)).world m)

failed_ends : (n calls : ℕ) (v : World) → Inside v → Ends n (record { reply = error 0; calls = calls; world = v })
failed_ends n calls v i = record { inside = i; told = λ k e. cc }

loop_ends : (left stock : List ℕ) (n calls : ℕ) (w : World) → Inside w → Ends n (peek_loop left stock n calls w)
unfolding peek_loop
loop_ends [] stock n calls w i = turn_ends [] stock n calls w _ i (λ v j. failed_ends n (calls + 1) v j)
loop_ends (r ∷ rest) stock n calls w i = turn_ends (r ∷ rest) stock n calls w _ i (λ v j. loop_ends rest stock n (calls + 1) v j)

length_shown : (n : ℕ) (w : World) → Inside w → length (shown n w) ≡ min n (count w.state)
unfolding shown
length_shown n w i = simp (length-take, length-drop) (omega (arith, i.filled_in))

-- the answer tells the reply
ok_accept : (r : Reply) (k : ℕ) → handed r ≡ ok k → r ≡ accept k
ok_accept (Ok j) k e = cc
ok_accept (Err Interrupted) k e = cc
ok_accept (Err (Error code)) k e = cc

-- what `peeked` hands out after `peek` is as long as `peek` answered
pub peek_shows : (script stock : List ℕ) (n k : ℕ) (w : World) → (peek script stock n w).answer ≡ ok k → length (shown n (peek script stock n w).world) ≡ k
unfolding peek unless
peek_shows script stock n k w e = by (eqb (refusal script stock w (peek_refusal (length w.storage) n)) 0) (λ q. eqb-true (refusal script stock w (peek_refusal (length w.storage) n)) 0 q) e
  where
    by : (b : Bool) → (b ≡ true → refusal script stock w (peek_refusal (length w.storage) n) ≡ 0) → (pick b (handed_up (peek_loop (drop w.state.used script) stock n 0 w)) (record { answer = refused (refusal script stock w (peek_refusal (length w.storage) n)); calls = 0; world = w })).answer ≡ ok k → length (shown n (pick b (handed_up (peek_loop (drop w.state.used script) stock n 0 w)) (record { answer = refused (refusal script stock w (peek_refusal (length w.storage) n)); calls = 0; world = w })).world) ≡ k
    by true h q =
        let f = unrefused_fit script stock w (peek_refusal (length w.storage) n) (h refl) in
        let i : Inside w = record { pos_in = f.pos_in; filled_in = f.filled_in } in
        let x = loop_ends (drop w.state.used script) stock n 0 w i in
        length_shown n _ x.inside ∙ sym (x.told k (ok_accept _ k q))
    by false h q = cc
