-- A call's turn of the flags is the table's.
-- Assumes nothing.
use mathlib.Core.Path.{◌≡◌, refl, sym, ◌∙◌}
use mathlib.Core.Logic.{◌↔◌, ◌⊎◌, inl, inr, ⊎_elim}
use mathlib.Core.Bool.{Bool, true, false, ◌&&◌, ◌||◌}
use mathlib.Core.List.{List}
use Prim.Native.Nat.{ℕ, ◌+◌, ◌-◌, ◌<◌}
use native.Mathlib.Omega.{arith}
use lib.ListN.{length, get_or, set, take, drop, replicate, length-set}
use borrow.Rule.Slice.PartMut.{put_mid}
use lib.Dec.{leb, ltb}
use Rattle.std.proofs.lemmas.Bool.Decides.{nat_tests}
use Rattle.std.proofs.lemmas.Bool.{ltb-true, lt-ltb, and_from, leb-true, and_parts, false≢true}
use Rattle.laws.specs.Pick.{pick}
use Rattle.card.specs.Answers.{ok}
use Rattle.trace.specs.declared.TracedCall.{TracedCall}
use Rattle.trace.specs.declared.Claim.{Claim}
use Rattle.trace.specs.declared.Claim.TheVariants.{Ok, Done, Interrupted, Zero, Error}
use Rattle.trace.specs.Claims.{claimed}
use Rattle.judge.specs.Table.{Direct, Synced, Stopped, WriteStep, FlushStep}
use Rattle.judge.specs.Flags.{Has, Highest, landing, Lands, Between, whole, stores, Stored, directs, syncs, empties, halts, stops, StepOf, Leads, Turned}
use Rattle.judge.proofs.Sets.{has_within, none_set, has_first, has_filled, landing_most, land_more}

-- ---- claims and the answers of the table

synced_of : (claim : Claim) → syncs claim ≡ true → Synced (claimed claim)
synced_of (Ok m) h = cc
synced_of Done h = Synced.well refl
synced_of Interrupted h = Synced.cut_off refl
synced_of Zero h = cc
synced_of (Error code) h = Synced.failed code refl

syncs_of : (claim : Claim) → Synced (claimed claim) → syncs claim ≡ true
syncs_of claim s = grind arith

direct_of : (n : ℕ) (claim : Claim) → directs n claim ≡ true → Direct n (claimed claim)
direct_of n (Ok m) h = Direct.took m (leb-true m n h) refl
direct_of n Done h = cc
direct_of n Interrupted h = Direct.cut_off refl
direct_of n Zero h = cc
direct_of n (Error code) h = Direct.failed code refl

directs_of : (n : ℕ) (claim : Claim) → Direct n (claimed claim) → directs n claim ≡ true
directs_of n claim d = grind (arith, nat_tests)

stopped_of : (claim : Claim) → halts claim ≡ true → Stopped (claimed claim)
stopped_of (Ok m) h = cc
stopped_of Done h = cc
stopped_of Interrupted h = cc
stopped_of Zero h = Stopped.none refl
stopped_of (Error code) h = Stopped.failed code refl

halts_of : (claim : Claim) → Stopped (claimed claim) → halts claim ≡ true
halts_of claim s = grind arith

-- a write that is stored claims its length
stores_of : (C : ℕ) (call : TracedCall) → call.flush ≡ false → call.length < C → claimed call.claim ≡ ok call.length → stores C call ≡ true
stores_of C call f h e = rw f (and_from _ _ (lt-ltb call.length C h) (by call.claim e))
  where
    by : (c : Claim) → claimed c ≡ ok call.length → whole call.length c ≡ true
    by c q = grind (arith, nat_tests)

pub record Stores (C : ℕ) (call : TracedCall) : Type 0 where
  pub is_write : call.flush ≡ false
  pub short : call.length < C
  pub says : claimed call.claim ≡ ok call.length

stores_says : (C : ℕ) (call : TracedCall) → stores C call ≡ true → Stores C call
stores_says C call h = grind (arith, nat_tests)

-- one flag more lands, within the capacity
pub stored_more : (C : ℕ) (call : TracedCall) (h at : ℕ) (old l : List Bool) → true ≡ stores C call → C < length l → ((k : ℕ) → Has l k ↔ Lands C call.length h old k) → at ≡ landing C call.length h → get_or old h false ≡ true → (k : ℕ) → Has (set l at true) k ↔ Lands C call.length (h + 1) old k
stored_more C call h at old l e f i q x = land_more C call.length h old l i at q x (omega (arith, landing_most C call.length h (stores_says C call (sym e)).short))

-- where nothing is stored no flag lands
pub none_stored : (C : ℕ) (call : TracedCall) (m : ℕ) (old : List Bool) → false ≡ stores C call → Stored C call old (replicate m false)
none_stored C call m old e = record { at = λ k. ((λ x. absurd (none_set m k x)), (λ p. absurd (false≢true (e ∙ p.0)))) }

-- ---- each kind of flag comes from the table, and the table has no other

pub Kinds : ℕ → TracedCall → List Bool → ℕ → ℕ → Type 0
Kinds C call old most k =
    (((stores C call ≡ true) × Lands C call.length (length old) old k) ⊎ ((empties C call ≡ true) × (k ≡ 0)))
    ⊎ ((stops C call most ≡ true) × Between 1 (most + 1) k)

-- from a flag that lands
land_step : (C : ℕ) (call : TracedCall) (h k : ℕ) → stores C call ≡ true → landing C call.length h ≡ k → StepOf C h call k
land_step C call h k e q =
    let s = stores_says C call e in
    rw s.is_write (by s.short s.says)
  where
    by : call.length < C → claimed call.claim ≡ ok call.length → WriteStep C h call.length (claimed call.claim) k
    by a b = grind (arith, nat_tests, WriteStep.stored, WriteStep.refilled)

-- nothing held
empty_step : (C : ℕ) (call : TracedCall) (h k : ℕ) → empties C call ≡ true → k ≡ 0 → StepOf C h call k
empty_step C call h k e z = by call.flush e
  where
    by : (b : Bool) → pick b (syncs call.claim) (leb C call.length && directs call.length call.claim) ≡ true → pick b (FlushStep h (claimed call.claim) k) (WriteStep C h call.length (claimed call.claim) k)
    by true q = FlushStep.emptied (synced_of call.claim q) z
    by false q =
        let x = and_parts (leb C call.length) (directs call.length call.claim) q in
        WriteStep.direct (leb-true C call.length x.0) (direct_of call.length call.claim x.1) z

-- a stopped flush
stop_step : (C : ℕ) (call : TracedCall) (most k : ℕ) → stops C call most ≡ true → Between 1 (most + 1) k → StepOf C most call k
stop_step C call most k e p = by call.flush (and_parts (halts call.claim) _ e).1
  where
    stopped : Stopped (claimed call.claim)
    stopped = stopped_of call.claim (and_parts (halts call.claim) _ e).0

    by : (b : Bool) → (b || ltb C (most + call.length)) ≡ true → pick b (FlushStep most (claimed call.claim) k) (WriteStep C most call.length (claimed call.claim) k)
    by true q = FlushStep.stopped stopped (omega (arith, p.least)) (omega (arith, p.most))
    by false q = WriteStep.stopped (ltb-true C (most + call.length) q) stopped (omega (arith, p.least)) (omega (arith, p.most))

kinds_lead : (C : ℕ) (call : TracedCall) (old : List Bool) (most k : ℕ) → Highest old most → Kinds C call old most k → Leads C call old k
unfolding Kinds
kinds_lead C call old most k t =
    ⊎_elim
    (⊎_elim (λ x. record { from = x.1.from; set = x.1.set; step = land_step C call x.1.from k x.0 x.1.lands }) (λ x. record { from = most; set = t.set; step = empty_step C call most k x.0 x.1 }))
    (λ x. record { from = most; set = t.set; step = stop_step C call most k x.0 x.1 })

leads_kinds : (C : ℕ) (call : TracedCall) (old : List Bool) (most k h : ℕ) → Highest old most → Has old h → StepOf C h call k → Kinds C call old most k
unfolding Kinds
leads_kinds C call old most k h t x s = grind (arith, nat_tests, has_within old h x, t.above h x, syncs_of, directs_of, halts_of, stores_of C call)

-- ---- a turn

-- without a flag nothing follows
pub none_turned : (C : ℕ) (call : TracedCall) (old : List Bool) → ((k : ℕ) → Has old k → ⊥) → Turned C call old old
none_turned C call old none = record { at = λ k. ((λ x. absurd (none k x)), (λ x. absurd (none x.from x.set))) }

turned : (C : ℕ) (call : TracedCall) (old new : List Bool) (most : ℕ) → Highest old most → ((k : ℕ) → Has new k ↔ Kinds C call old most k) → Turned C call old new
turned C call old new most t i =
    record { at = λ k. ((λ x. kinds_lead C call old most k t ((i k).0 x)), (λ x. (i k).1 (leads_kinds C call old most k x.from t x.set x.step))) }

module _ (C : ℕ) (call : TracedCall) (old a : List Bool) (most : ℕ) (b : Bool) (t : Highest old most) (s : Stored C call old a) (e : b ≡ empties C call) (l : length a ≡ 1025) (m : length old ≡ 1025) where
  -- the flags of what is stored, and that of nothing held
  two_kinds : (k : ℕ) → Has (set a 0 (get_or a 0 false || b)) k ↔ (((stores C call ≡ true) × Lands C call.length (length old) old k) ⊎ ((empties C call ≡ true) × (k ≡ 0)))
  two_kinds k =
      let f = has_first a b k (omega arith) in (
        (λ x. ⊎_elim (λ y. inl ((s.at k).0 y)) (λ y. inr (sym e ∙ y.0, y.1)) (f.0 x)),
        ⊎_elim (λ y. f.1 (inl ((s.at k).1 y))) (λ y. f.1 (inr (e ∙ y.0, y.1))),
      )

  pub turned_no_stop : false ≡ stops C call most → Turned C call old (set a 0 (get_or a 0 false || b))
  unfolding Kinds
  turned_no_stop q = turned C call old _ most t (λ k. ((λ x. inl ((two_kinds k).0 x)), ⊎_elim (λ y. (two_kinds k).1 y) (λ y. absurd (false≢true (q ∙ y.0)))))

  pub turned_stop : (ys : List Bool) → true ≡ stops C call most → ys ≡ replicate (length (take (most + 1 - 1) (drop 1 (set a 0 (get_or a 0 false || b))))) true → Turned C call old (put_mid 1 (most + 1 - 1) (set a 0 (get_or a 0 false || b)) ys)
  unfolding Kinds
  turned_stop ys q f =
      turned C call old _ most t
      (λ k.
      let h = has_filled (set a 0 (get_or a 0 false || b)) ys most k (omega (arith, length-set a 0 (get_or a 0 false || b), has_within old most t.set)) f in (
        (λ x. ⊎_elim (λ y. inl ((two_kinds k).0 y)) (λ y. inr (sym q, y)) (h.0 x)),
        ⊎_elim (λ y. h.1 (inl ((two_kinds k).1 y))) (λ y. h.1 (inr y.1)),
      ))
