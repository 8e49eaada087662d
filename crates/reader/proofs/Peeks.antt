-- The turns of `peek`'s loop, and how it ends.
-- Assumes nothing.
use mathlib.Core.Path.{◌≡◌, refl, sym, ap, ◌∙◌}
use mathlib.Core.List.{List, [], ◌∷◌}
use Prim.Native.Nat.{ℕ, suc, ◌+◌, ◌≤◌, ◌<◌}
use native.Mathlib.Decide.{dec_le}
use native.Mathlib.Numerals.{add-one}
use native.Mathlib.Omega.{arith}
use lib.Dec.{ltb}
use lib.ListN.{length, drop, get_or, drop_of_length-le}
use lib.Seq.{drop-cons}
use borrow.Author.Tests.{le-leb, lt-leb, ne_eqb, lt-ltb, le-ltb}
use Rattle.laws.proofs.Picks.{pick_holds}
use Rattle.std.specs.Prelude.{Err}
use Rattle.card.specs.Device.{Reply, accept, error, exchange, next, takes, at_most}
use Rattle.card.specs.declared.DeviceError.{DeviceError}
use Rattle.reader.specs.declared.BufReader.{BufReader}
use Rattle.reader.specs.World.{World, Fetched, Fit, Lent, world_of, fetched, since}
use Rattle.reader.specs.Buffer.{count, backshift, added, read_more}
use Rattle.reader.specs.Reader.{shifted_back, after_more, peek_turn, peek_loop}
use Rattle.reader.proofs.Buffers.{Kept, kept_back, kept_more}

-- a shift back leaves the script's position, and a state that fits
pub back_used : (w : World) → (shifted_back w).state.used ≡ w.state.used
unfolding shifted_back backshift
back_used w = pick_holds (λ (v : World). v.state.used ≡ w.state.used) (ltb 0 w.state.pos) _ _ (λ e. refl) (λ e. refl)

pub kept_shifted : (script stock : List ℕ) (w : World) → Fit script stock w → Kept script stock (length w.storage) (shifted_back w)
unfolding shifted_back
kept_shifted script stock w f = pick_holds (Kept script stock (length w.storage)) (ltb 0 w.state.pos) _ _ (λ e. kept_back script stock w f) (λ e. record { fit = f; long = refl })

-- the two ways to shift back
pub shifted_some : (w v : World) → v ≡ backshift w → 0 < w.state.pos → v ≡ shifted_back w
unfolding shifted_back
shifted_some w v e h = rw (lt-ltb _ _ h) e

pub shifted_none : (w : World) → w.state.pos ≤ 0 → w ≡ shifted_back w
unfolding shifted_back
shifted_none w h = rw (le-ltb _ _ h)

-- how a turn goes on
onward : List ℕ → List ℕ → ℕ → ℕ → World → Fetched
onward [] stock n calls w = record { reply = error 0; calls = calls; world = w }
onward (r ∷ rest) stock n calls w = peek_loop rest stock n calls w

turn : (left stock : List ℕ) (n calls : ℕ) (w : World) → count w.state < n → peek_loop left stock n calls w ≡ after_more (read_more left stock (shifted_back w)).reply (calls + 1) (read_more left stock (shifted_back w)).world (onward left stock n (calls + 1) (read_more left stock (shifted_back w)).world)
unfolding peek_loop peek_turn onward read_more added
turn [] stock n calls w h = rw (lt-leb _ _ h) refl
turn (r ∷ rest) stock n calls w h = rw (lt-leb _ _ h) refl

-- n bytes are there
enough_left : (left stock : List ℕ) (n calls : ℕ) (w : World) → n ≤ count w.state → record { reply = accept n; calls = calls; world = w } ≡ peek_loop left stock n calls w
unfolding peek_loop peek_turn
enough_left [] stock n calls w h = rw (le-leb _ _ h) refl
enough_left (r ∷ rest) stock n calls w h = rw (le-leb _ _ h) refl

-- past the script's end no bytes are given
pub end_accepts : (stock : List ℕ) (v : World) (k : ℕ) → (read_more [] stock v).reply ≡ accept k → ⊥
unfolding read_more added exchange next at_most
end_accepts stock v k e = cc

-- one reply goes by
one_used : (r : ℕ) (rest stock : List ℕ) (v : World) → (read_more (r ∷ rest) stock v).world.state.used ≡ v.state.used + 1
unfolding read_more added exchange takes
one_used r rest stock v = refl

after_some : (r : Reply) (k calls : ℕ) (w : World) (on : Fetched) → r ≡ accept k → (k ≡ 0 → ⊥) → after_more r calls w on ≡ on
unfolding after_more
after_some r k calls w on er nk = rw er (rw (ne_eqb _ _ nk) refl)

onward_some : (left stock : List ℕ) (n calls r : ℕ) (rest : List ℕ) (w : World) → left ≡ r ∷ rest → onward left stock n calls w ≡ peek_loop rest stock n calls w
unfolding onward
onward_some left stock n calls r rest w e = rw e refl

-- A turn, when fewer than n bytes are buffered: `g` is what shifting and reading gave
module _ (script stock : List ℕ) (n calls : ℕ) (w : World) (f : Fit script stock w) (g : Fetched) (eg : g ≡ since calls (read_more (drop w.state.used script) stock (shifted_back w))) (h : count w.state < n) where
  counted : g.calls ≡ calls + 1
  unfolding read_more added
  counted = ap (λ (x : Fetched). x.calls) eg

  turned : peek_loop (drop w.state.used script) stock n calls w ≡ after_more g.reply g.calls g.world (onward (drop w.state.used script) stock n g.calls g.world)
  unfolding read_more added
  turned = turn (drop w.state.used script) stock n calls w h ∙ ap (λ (x : Fetched). after_more x.reply x.calls x.world (onward (drop w.state.used script) stock n x.calls x.world)) (sym eg)

  turn_fits : Fit script stock g.world
  turn_fits =
      let k = kept_shifted script stock w f in
      let m = kept_more script stock (shifted_back w) k.fit in
      let q : g.world ≡ (read_more (drop (shifted_back w).state.used script) stock (shifted_back w)).world =
      ap (λ (x : Fetched). x.world) eg ∙ ap (λ (u : ℕ). (read_more (drop u script) stock (shifted_back w)).world) (sym (back_used w)) in
      rw q m.fit

  -- a count of 0
  pub at_end : (k c : ℕ) → g.reply ≡ accept k → k ≡ 0 → c ≡ count g.world.state → record { reply = accept c; calls = g.calls; world = g.world } ≡ peek_loop (drop w.state.used script) stock n calls w
  unfolding after_more
  at_end k c er ek ec = sym (turned ∙ rw (er, ek, ec) refl)

  pub at_fail : (e : DeviceError) → g.reply ≡ Err e → record { reply = Err e; calls = g.calls; world = g.world } ≡ peek_loop (drop w.state.used script) stock n calls w
  unfolding after_more
  at_fail e er = sym (turned ∙ rw er refl)

  -- bytes were given, so a reply was there
  pub goes_on : (k : ℕ) → g.reply ≡ accept k → (k ≡ 0 → ⊥) → (peek_loop (drop w.state.used script) stock n calls w ≡ peek_loop (drop g.world.state.used script) stock n g.calls g.world) × (g.world.state.used ≡ w.state.used + 1)
  goes_on k er nk = by (dec_le (length script) w.state.used)
    where
      by : Dec (length script ≤ w.state.used) → (peek_loop (drop w.state.used script) stock n calls w ≡ peek_loop (drop g.world.state.used script) stock n g.calls g.world) × (g.world.state.used ≡ w.state.used + 1)
      by (yes e) = absurd (end_accepts stock (shifted_back w) k (ap (λ (l : List ℕ). (read_more l stock (shifted_back w)).reply) (sym (drop_of_length-le script e)) ∙ ap (λ (x : Fetched). x.reply) (sym eg) ∙ er))
      by (no e) =
          let cons : drop w.state.used script ≡ get_or script w.state.used 0 ∷ drop (suc w.state.used) script = drop-cons script w.state.used 0 (omega arith) in
          let one : g.world.state.used ≡ w.state.used + 1 =
          ap (λ (x : Fetched). x.world.state.used) eg
          ∙ ap (λ (l : List ℕ). (read_more l stock (shifted_back w)).world.state.used) cons
          ∙ one_used (get_or script w.state.used 0) (drop (suc w.state.used) script) stock (shifted_back w)
          ∙ ap (λ (u : ℕ). u + 1) (back_used w) in
          let same : peek_loop (drop w.state.used script) stock n calls w ≡ peek_loop (drop g.world.state.used script) stock n g.calls g.world =
          turned
          ∙ after_some g.reply k g.calls g.world _ er nk
          ∙ onward_some (drop w.state.used script) stock n g.calls _ _ g.world cons
          ∙ ap (λ (u : ℕ). peek_loop (drop u script) stock n g.calls g.world) (sym (one ∙ add-one w.state.used)) in
          (same, one)

-- The loop's invariant, when it began with `b` and is at `r`: what is left to do is what there was to do
pub record Inv (b : BufReader) (n : ℕ) (r : BufReader) : Type 0 where
  pub lent : Lent b r
  pub same : peek_loop (drop b.state.used b.script.now) b.stock.now n 0 (world_of b) ≡ peek_loop (drop r.state.used b.script.now) b.stock.now n r.calls (world_of r)
  pub fit : Fit b.script.now b.stock.now (world_of r)
  pub few : r.calls ≤ r.state.used

pub starts : (b : BufReader) (n : ℕ) → Fit b.script.now b.stock.now (world_of b) → b.calls ≡ 0 → Inv b n b
starts b n f z =
    record {
      lent = record { storage = refl; script = refl; stock = refl };
      same = ap (λ (k : ℕ). peek_loop (drop b.state.used b.script.now) b.stock.now n k (world_of b)) (sym z);
      fit = f;
      few = omega arith;
    }

-- the same slices from one call on to the next
pub lent_on : {a b c : BufReader} → Lent a b → Lent b c → Lent a c
lent_on e f = record { storage = f.storage ∙ e.storage; script = f.script ∙ e.script; stock = f.stock ∙ e.stock }

module _ {b : BufReader} {n : ℕ} {r : BufReader} (i : Inv b n r) where
  pub ends : {k : ℕ} → k ≡ count r.state → n ≤ k → fetched (accept n) r ≡ peek_loop (drop b.state.used b.script.now) b.stock.now n 0 (world_of b)
  ends e h = enough_left (drop r.state.used b.script.now) b.stock.now n r.calls (world_of r) (rw (← e) h) ∙ sym i.same

  -- a turn: shifting gave `v`
  module _ {v : BufReader} (lv : Lent r v) (cv : v.calls ≡ r.calls) (ev : world_of v ≡ shifted_back (world_of r)) where
    used_there : v.state.used ≡ r.state.used
    used_there = ap (λ (w : World). w.state.used) ev ∙ back_used (world_of r)

    pub may_read : Fit v.script.now v.stock.now (world_of v)
    may_read = rw (lv.script ∙ i.lent.script, lv.stock ∙ i.lent.stock, ev) (kept_shifted b.script.now b.stock.now (world_of r) i.fit).fit

    pub few_yet : v.calls ≤ v.state.used
    few_yet = rw (cv, used_there) i.few

    -- and reading gave `g` with the reply `y`
    module _ {y : Reply} {g : BufReader} (lg : Lent v g) (eg : fetched y g ≡ since v.calls (read_more (drop v.state.used v.script.now) v.stock.now (world_of v))) {k : ℕ} (ek : k ≡ count r.state) (h : k < n) where
      got : fetched y g ≡ since r.calls (read_more (drop r.state.used b.script.now) b.stock.now (shifted_back (world_of r)))
      got =
          eg
          ∙ ap (λ (c : ℕ). since c (read_more (drop v.state.used v.script.now) v.stock.now (world_of v))) cv
          ∙ ap (λ (t : List ℕ). since r.calls (read_more (drop v.state.used t) v.stock.now (world_of v))) (lv.script ∙ i.lent.script)
          ∙ ap (λ (t : List ℕ). since r.calls (read_more (drop v.state.used b.script.now) t (world_of v))) (lv.stock ∙ i.lent.stock)
          ∙ ap (λ (u : ℕ). since r.calls (read_more (drop u b.script.now) b.stock.now (world_of v))) used_there
          ∙ ap (λ (w : World). since r.calls (read_more (drop r.state.used b.script.now) b.stock.now w)) ev

      few_held : count r.state < n
      few_held = rw ek at h

      lent_there : Lent b g
      lent_there = lent_on i.lent (lent_on lv lg)

      pub stops : {j c : ℕ} → y ≡ accept j → j ≡ 0 → c ≡ count g.state → fetched (accept c) g ≡ peek_loop (drop b.state.used b.script.now) b.stock.now n 0 (world_of b)
      stops {j = j} {c = c} er ej ec = at_end b.script.now b.stock.now n r.calls (world_of r) i.fit (fetched y g) got few_held j c er ej ec ∙ sym i.same

      pub fails : {e : DeviceError} → y ≡ Err e → fetched (Err e) g ≡ peek_loop (drop b.state.used b.script.now) b.stock.now n 0 (world_of b)
      fails {e = e} er = at_fail b.script.now b.stock.now n r.calls (world_of r) i.fit (fetched y g) got few_held e er ∙ sym i.same

      pub again : {j : ℕ} → y ≡ accept j → (j ≡ 0 → ⊥) → Inv b n g × (g.state.used ≡ r.state.used + 1)
      again {j = j} er nj =
          let on = goes_on b.script.now b.stock.now n r.calls (world_of r) i.fit (fetched y g) got few_held j er nj in
          let c : g.calls ≡ r.calls + 1 = counted b.script.now b.stock.now n r.calls (world_of r) i.fit (fetched y g) got few_held in (
            record {
              lent = lent_there;
              same = i.same ∙ on.0;
              fit = turn_fits b.script.now b.stock.now n r.calls (world_of r) i.fit (fetched y g) got few_held;
              few = omega (arith, i.few, on.1);
            },
            on.1,
          )
