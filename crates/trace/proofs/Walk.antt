-- A walk over the calls of a trace, one by one: the loop that checks it, and what a later walk over a whole trace goes by.
-- Assumes nothing.
use mathlib.Core.Path.{◌≡◌, refl, sym, ap, ◌∙◌}
use mathlib.Core.List.{List}
use Prim.Native.Nat.{ℕ, zero, suc, ◌+◌, ◌-◌, ◌≤◌, ◌<◌}
use native.Mathlib.Omega.{arith}
use Rattle.card.specs.Limits.{bytes_most, capacity_most}
use Rattle.trace.specs.declared.TracedCall.{TracedCall}
use Rattle.std.specs.Prelude.{Result, Ok, Err}
use Rattle.numbers.specs.declared.Fault.{Fault}
use Rattle.numbers.specs.Number.{found, number_most}
use Rattle.trace.specs.declared.Header.{Header}
use Rattle.trace.specs.Calls.{Told, told, call_at}
use Rattle.trace.specs.Trace.{calls_most, Parsed, fault, trace, before, card_at, calls_from, count_at, trace_of, checked}
use Rattle.trace.proofs.Within.{within}

-- a call in front changes nothing of a check
checked_before : (call : Told) (p : Parsed) → checked (before call p) ≡ checked p
checked_before call (fault place) = refl
checked_before call (trace header calls card) = refl

module _ (t : List ℕ) (capacity count first : ℕ) where
  -- the definition's steps as equations, for a count that is not 0
  pub one_call : (left total at : ℕ) (call : TracedCall) → call_at t total at ≡ Ok call → 0 < left → calls_from t capacity count first left total at ≡ before (told t call) (calls_from t capacity count first (left - 1) (total + call.length) call.next)
  unfolding calls_from
  one_call zero total at call e h = absurd (omega arith)
  one_call (suc left) total at call e h =
      let same : suc left - 1 ≡ left = omega arith in
      rw (e, same) refl

  pub no_call : (left total at : ℕ) (e : Fault) → call_at t total at ≡ Err e → 0 < left → calls_from t capacity count first left total at ≡ fault e.place
  unfolding calls_from
  no_call zero total at place e h = absurd (omega arith)
  no_call (suc left) total at place e h = rw e refl

  pub no_more : (left total at : ℕ) → left ≤ 0 → calls_from t capacity count first left total at ≡ card_at t capacity count first at
  unfolding calls_from
  no_more zero total at h = refl
  no_more (suc left) total at h = absurd (omega arith)

  -- At the head of a turn of the check, after `done` calls: it answers what the definition says of the rest
  pub record Turn (done total at : ℕ) : Type 0 where
    pub same : checked (calls_from t capacity count first count 0 first) ≡ checked (calls_from t capacity count first (count - done) total at)
    pub small : total ≤ bytes_most

  pub start : Turn 0 0 first
  start = record { same = ap (λ (n : ℕ). checked (calls_from t capacity count first n 0 first)) (omega arith); small = omega arith }

  pub again : {done total at : ℕ} (call : TracedCall) → Turn done total at → call_at t total at ≡ Ok call → done < count → Turn (done + 1) (total + call.length) call.next
  again {done} {total} {at} call w e h =
      let less : count - done - 1 ≡ count - (done + 1) = omega arith in
      record {
        same = w.same ∙ ap checked (one_call (count - done) total at call e (omega arith)) ∙ checked_before (told t call) (calls_from t capacity count first (count - done - 1) (total + call.length) call.next)
            ∙ ap (λ (n : ℕ). checked (calls_from t capacity count first n (total + call.length) call.next)) less;
        small = omega (arith, w.small, (within t total at call e).room);
      }

-- the whole check, once its two counts are read
module _ (t : List ℕ) (capacity next count first : ℕ) (e : number_most t 0 capacity_most ≡ found capacity next) (f : number_most t next calls_most ≡ found count first) (done total at : ℕ) (w : Turn t capacity count first done total at) (r : Result Header Fault) where
  counted : trace_of t ≡ calls_from t capacity count first count 0 first
  unfolding trace_of count_at
  counted = rw (e, f) refl

  -- at a call that has a fault
  pub stop : (p : Fault) → call_at t total at ≡ Err p → done < count → r ≡ Err p → r ≡ checked (trace_of t)
  stop p q h s = s ∙ sym (ap checked counted ∙ w.same ∙ ap checked (no_call t capacity count first (count - done) total at p q (omega arith)))

  -- after the calls
  pub end : count ≤ done → r ≡ checked (card_at t capacity count first at) → r ≡ checked (trace_of t)
  end h s = s ∙ sym (ap checked counted ∙ w.same ∙ ap checked (no_more t capacity count first (count - done) total at (omega arith)))
