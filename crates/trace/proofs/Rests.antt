-- What a whole trace holds, and how a later walk goes over its calls: from 'the definition's calls from here are these' to
-- the next call and the same of the rest.
-- Assumes nothing.
use mathlib.Core.Path.{◌≡◌, refl, sym, ap, ◌∙◌}
use mathlib.Core.Bool.{Bool, true, false}
use mathlib.Core.List.{List, [], ◌∷◌}
use Prim.Native.Nat.{ℕ, zero, suc, ◌+◌, ◌-◌, ◌≤◌, ◌<◌}
use native.Mathlib.Omega.{arith}
use lib.Dec.{ltb}
use lib.ListN.{length, take, drop, length-take, length-drop}
use borrow.Author.Tests.{ltb-false}
use Rattle.laws.specs.Pick.{pick}
use Rattle.laws.proofs.Picks.{pick_holds}
use Rattle.card.specs.Answers.{Said}
use Rattle.card.specs.Limits.{bytes_most, capacity_most}
use Rattle.std.specs.Prelude.{Result, Ok, Err}
use Rattle.numbers.specs.declared.Fault.{Fault}
use Rattle.numbers.specs.Number.{fault_at, number_most, length_most}
use Rattle.numbers.proofs.Back.{same_place}
use Rattle.numbers.proofs.Most.{most_value, most_places, length_within, after_holds}
use Rattle.trace.specs.declared.Claim.{Claim}
use Rattle.trace.specs.declared.TracedCall.{TracedCall}
use Rattle.trace.specs.declared.Header.{Header}
use Rattle.trace.specs.Claims.{claimed}
use Rattle.trace.specs.Calls.{Told, wrote, flushed, told, written, call_at}
use Rattle.trace.specs.Trace.{calls_most, Parsed, fault, trace, before, after_call, card_at, calls_from, count_at, trace_of, checked}
use Rattle.trace.proofs.Within.{Fair, CallWithin, within}
use Rattle.trace.proofs.Walk.{one_call, no_call}

-- a check's answer, back to what the definition says
pub record Held (p : Parsed) (header : Header) : Type 0 where
  pub calls : List Told
  pub card : List ℕ
  pub is : p ≡ trace header calls card

pub held : (p : Parsed) (header : Header) → Ok header ≡ checked p → Held p header
held (fault place) header e = absurd (cc)
held (trace h calls card) header e =
    let q : h ≡ header = cc in
    record { calls = calls; card = card; is = ap (λ (x : Header). trace x calls card) q }

pub refused : (p : Parsed) (place : ℕ) → fault_at place ≡ checked p → p ≡ fault place
refused (fault q) place e =
    let s : q ≡ place = sym (same_place place q e) in
    ap (λ (x : ℕ). fault x) s
refused (trace h calls card) place e = absurd (cc)

-- a claim that a call of this kind can make, as the trace says it
pub record FairSaid (flush : Bool) (said : Said) : Type 0 where
  pub claim : Claim
  pub is : said ≡ claimed claim
  pub fair : Fair flush claim

abbrev pub FairTold : Told → Type 0
FairTold (wrote bytes said) = FairSaid false said
FairTold (flushed said) = FairSaid true said

abbrev pub AllFair : List Told → Type 0
AllFair [] = Unit
AllFair (call ∷ calls) = FairTold call × AllFair calls

-- of one call that is read
pub told_fair : (t : List ℕ) (call : TracedCall) → Fair call.flush call.claim → FairTold (told t call)
told_fair t call f = by call.flush f
  where
    by : (b : Bool) → Fair b call.claim → FairTold (pick b (flushed (claimed call.claim)) (wrote (take call.length (drop call.start t)) (claimed call.claim)))
    by true f = record { claim = call.claim; is = refl; fair = f }
    by false f = record { claim = call.claim; is = refl; fair = f }

-- its bytes are as many as its length says, and a flush has none
pub told_written : (t : List ℕ) (call : TracedCall) (calls : List Told) → call.start + call.length ≤ length t → (call.flush ≡ true → call.length ≡ 0) → written (told t call ∷ calls) ≡ call.length + written calls
unfolding written
told_written t call calls h z = by call.flush z
  where
    by : (b : Bool) → (b ≡ true → call.length ≡ 0) → written (pick b (flushed (claimed call.claim)) (wrote (take call.length (drop call.start t)) (claimed call.claim)) ∷ calls) ≡ call.length + written calls
    by true z = omega (arith, z refl)
    by false z = simp (length-take, length-drop) (omega arith)

-- The rest of a trace that has so many calls left
pub record Rest (t : List ℕ) (capacity count first left total : ℕ) (header : Header) (calls : List Told) (card : List ℕ) : Type 0 where
  pub capacity_is : header.capacity ≡ capacity
  pub count_is : header.count ≡ count
  pub first_is : header.first ≡ first
  pub card_is : card ≡ take header.length (drop header.card t)
  pub card_ends : header.card + header.length ≡ length t
  pub card_most : header.length ≤ bytes_most
  pub calls_are : length calls ≡ left
  pub fair : AllFair calls
  pub total_most : total ≤ bytes_most → total + written calls ≤ bytes_most

abbrev pub GoodRest : List ℕ → ℕ → ℕ → ℕ → ℕ → ℕ → Parsed → Type 0
GoodRest t capacity count first left total (fault place) = Unit
GoodRest t capacity count first left total (trace header calls card) = Rest t capacity count first left total header calls card

card_good : (t : List ℕ) (capacity count first total at : ℕ) → GoodRest t capacity count first 0 total (card_at t capacity count first at)
unfolding card_at written
card_good t capacity count first total at =
    after_holds (GoodRest t capacity count first 0 total) (length_most t at bytes_most) fault _ (λ p e. tt)
    (λ n card e.
    let w = length_within t at bytes_most n card e in
    pick_holds (GoodRest t capacity count first 0 total) (ltb (card + n) (length t)) _ _ (λ _. tt)
    (λ m. record {
      capacity_is = refl;
      count_is = refl;
      first_is = refl;
      card_is = refl;
      card_ends = omega (arith, w.ends, ltb-false (card + n) (length t) m);
      card_most = w.small;
      calls_are = refl;
      fair = tt;
      total_most = λ h. omega arith;
    }))

-- what holds at a fault, and at any call, holds of what comes after the call
pub call_holds : (P : Parsed → Type 0) (r : Result TracedCall Fault) (good : TracedCall → Parsed) → ((place : ℕ) → r ≡ fault_at place → P (fault place)) → ((call : TracedCall) → r ≡ Ok call → P (good call)) → P (after_call r good)
call_holds P (Err e) good f g = f e.place refl
call_holds P (Ok call) good f g = g call refl

-- one call more, in front
before_good : (t : List ℕ) (capacity count first left total at : ℕ) (call : TracedCall) (p : Parsed) → CallWithin t total at call → GoodRest t capacity count first left (total + call.length) p → GoodRest t capacity count first (suc left) total (before (told t call) p)
before_good t capacity count first left total at call (fault place) w g = tt
before_good t capacity count first left total at call (trace header calls card) w g = record {
  capacity_is = g.capacity_is;
  count_is = g.count_is;
  first_is = g.first_is;
  card_is = g.card_is;
  card_ends = g.card_ends;
  card_most = g.card_most;
  calls_are = ap suc g.calls_are;
  fair = (told_fair t call w.fair, g.fair);
  total_most = λ h. omega (arith, told_written t call calls w.part w.bare, g.total_most (omega (arith, w.room)));
}

pub calls_good : (t : List ℕ) (capacity count first left total at : ℕ) → GoodRest t capacity count first left total (calls_from t capacity count first left total at)
unfolding calls_from
calls_good t capacity count first zero total at = card_good t capacity count first total at
calls_good t capacity count first (suc left) total at =
    call_holds (GoodRest t capacity count first (suc left) total) (call_at t total at) _ (λ p e. tt)
    (λ call e. before_good t capacity count first left total at call (calls_from t capacity count first left (total + call.length) call.next) (within t total at call e) (calls_good t capacity count first left (total + call.length) call.next))

-- of a rest that has no fault
pub rest : (t : List ℕ) (capacity count first left total at : ℕ) (header : Header) (calls : List Told) (card : List ℕ) → calls_from t capacity count first left total at ≡ trace header calls card → Rest t capacity count first left total header calls card
rest t capacity count first left total at header calls card e = rw e at (calls_good t capacity count first left total at)

-- A whole trace: its header's numbers, its card, and its calls, which are those from the first call's place on
pub record Trace (t : List ℕ) (header : Header) (calls : List Told) (card : List ℕ) : Type 0 where
  pub capacity_within : header.capacity ≤ capacity_most
  pub count_most : header.count ≤ calls_most
  pub first_in : header.first ≤ length t
  pub card_is : card ≡ take header.length (drop header.card t)
  pub card_ends : header.card + header.length ≡ length t
  pub card_most : header.length ≤ bytes_most
  pub calls_are : length calls ≡ header.count
  pub fair : AllFair calls
  pub written_most : written calls ≤ bytes_most
  pub from : calls_from t header.capacity header.count header.first header.count 0 header.first ≡ trace header calls card

whole_count : (t : List ℕ) (capacity count first : ℕ) (header : Header) (calls : List Told) (card : List ℕ) → capacity ≤ capacity_most → count ≤ calls_most → first ≤ length t → calls_from t capacity count first count 0 first ≡ trace header calls card → Trace t header calls card
whole_count t capacity count first header calls card hc hk hf e =
    let r = rest t capacity count first count 0 first header calls card e in
    record {
      capacity_within = rw r.capacity_is hc;
      count_most = rw r.count_is hk;
      first_in = rw r.first_is hf;
      card_is = r.card_is;
      card_ends = r.card_ends;
      card_most = r.card_most;
      calls_are = r.calls_are ∙ sym r.count_is;
      fair = r.fair;
      written_most = omega (arith, r.total_most (omega arith));
      from = ap (λ (x : ℕ). calls_from t x header.count header.first header.count 0 header.first) r.capacity_is
          ∙ ap (λ (x : ℕ). calls_from t capacity x header.first x 0 header.first) r.count_is
          ∙ ap (λ (x : ℕ). calls_from t capacity count x count 0 x) r.first_is
          ∙ e;
    }

pub whole : (t : List ℕ) (header : Header) (calls : List Told) (card : List ℕ) → trace_of t ≡ trace header calls card → Trace t header calls card
unfolding trace_of count_at
whole t header calls card =
    after_holds (λ p. p ≡ trace header calls card → Trace t header calls card) (number_most t 0 capacity_most) fault _ (λ p e q. absurd (cc))
    (λ capacity next e.
    after_holds (λ p. p ≡ trace header calls card → Trace t header calls card) (number_most t next calls_most) fault _ (λ p e q. absurd (cc))
    (λ count first k q. whole_count t capacity count first header calls card (most_value t 0 capacity_most capacity next e).1 (most_value t next calls_most count first k).1 (most_places t next calls_most count first k).1 q))

module _ (t : List ℕ) (capacity count first : ℕ) (left total at : ℕ) (header : Header) (calls : List Told) (card : List ℕ) (e : calls_from t capacity count first left total at ≡ trace header calls card) where
  -- While calls are left, the next one is read without a fault, it stands in front, and the rest is read from its next place
  pub record Next (call : TracedCall) : Type 0 where
    pub later : List Told
    pub front : calls ≡ told t call ∷ later
    pub goes : calls_from t capacity count first (left - 1) (total + call.length) call.next ≡ trace header later card

  pub next : (call : TracedCall) → call_at t total at ≡ Ok call → 0 < left → Next call
  next call q h = by (calls_from t capacity count first (left - 1) (total + call.length) call.next) refl (sym (one_call t capacity count first left total at call q h) ∙ e)
    where
      by : (p : Parsed) → calls_from t capacity count first (left - 1) (total + call.length) call.next ≡ p → before (told t call) p ≡ trace header calls card → Next call
      by (fault place) r s = absurd (cc)
      by (trace h later c) r s =
          let hh : h ≡ header = cc in
          let hc : c ≡ card = cc in
          record { later = later; front = cc; goes = cc }

  pub no_fault : (f : Fault) → call_at t total at ≡ Err f → 0 < left → ⊥
  no_fault f q h = let stops = no_call t capacity count first left total at f q h in cc

  -- at the end there are no calls left
  pub last : left ≤ 0 → calls ≡ []
  last h = none calls (rest t capacity count first left total at header calls card e).calls_are
    where
      none : (l : List Told) → length l ≡ left → l ≡ []
      none [] q = refl
      none (x ∷ xs) q = absurd (omega arith)
