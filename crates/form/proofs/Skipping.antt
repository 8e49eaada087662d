-- The loop that goes over so many things, and what it finds of the replies and of the calls.
-- Assumes nothing.
use mathlib.Core.Path.{◌≡◌, refl, sym, ap, ◌∙◌}
use mathlib.Core.List.{List, []}
use Prim.Native.Nat.{ℕ, zero, suc, ◌+◌, ◌-◌, ◌≤◌, ◌<◌}
use native.Mathlib.Omega.{arith}
use lib.ListN.{length}
use Rattle.std.specs.Prelude.{Result, Ok, Err}
use Rattle.numbers.specs.declared.Fault.{Fault}
use Rattle.numbers.specs.Number.{Found, found, number_most, after}
use Rattle.numbers.proofs.Most.{most_places}
use Rattle.form.specs.declared.Call.{Call}
use Rattle.form.specs.Lists.{Listed, listed, stopped, before, skipped, Skips}
use Rattle.form.specs.Replies.{word_most, replies_from}
use Rattle.form.specs.Calls.{asked, call_at, calls_from}
use Rattle.form.proofs.Within.{within}

module _ {A : Type 0} (Reads : ℕ → Found A → Type 0) where
  -- the definition's steps, for any count
  one_more : (left at : ℕ) (a : A) (next : ℕ) (r : Result ℕ Fault) → 0 < left → Reads at (found a next) → Skips Reads (left - 1) next r → Skips Reads left at r
  unfolding Skips
  one_more zero at a next r h p s = absurd (omega arith)
  one_more (suc left) at a next r h p s =
      let same : suc left - 1 ≡ left = omega arith in
      (found a next, p, rw same at s)

  faulty : (left at : ℕ) (f : Fault) → 0 < left → Reads at (Err f) → Skips Reads left at (Err f)
  unfolding Skips
  faulty zero at f h p = absurd (omega arith)
  faulty (suc left) at f h p = (Err f, p, refl)

  none : (left at : ℕ) → left ≤ 0 → Skips Reads left at (Ok at)
  unfolding Skips
  none zero at h = refl
  none (suc left) at h = absurd (omega arith)

  -- At the head of a turn, after `done` of them: where the rest ends, the whole ends
  pub record Turn (count first done at : ℕ) : Type 0 where
    pub same : (r : Result ℕ Fault) → Skips Reads (count - done) at r → Skips Reads count first r

  pub start : (count first : ℕ) → Turn count first 0 first
  start count first = record { same = λ r s. let all : count - 0 ≡ count = omega arith in rw all at s }

  module _ (count first done at : ℕ) (w : Turn count first done at) where
    pub again : (a : A) (next : ℕ) → Reads at (found a next) → done < count → Turn count first (done + 1) next
    again a next p h =
        let less : count - (done + 1) ≡ count - done - 1 = omega arith in
        record { same = λ r s. w.same r (one_more (count - done) at a next r (omega arith) p (rw less at s)) }

    pub stop : (f : Fault) → Reads at (Err f) → done < count → Skips Reads count first (Err f)
    stop f p h = w.same (Err f) (faulty (count - done) at f (omega arith) p)

    pub end : count ≤ done → Skips Reads count first (Ok at)
    end h = w.same (Ok at) (none (count - done) at (omega arith))

-- one more in front does not move the end
skipped_before : {A : Type 0} (x : A) (l : Listed A) → skipped (before x l) ≡ skipped l
skipped_before x (listed all next) = refl
skipped_before x (stopped place) = refl

-- Where each is read as a list's definition says, at places up to a bound, they end where the list ends
module _ {A B : Type 0} (Reads : ℕ → Found A → Type 0) (one : ℕ → Found A) (f : A → B) (from : ℕ → ℕ → Listed B) (bound : ℕ) (reads : (at : ℕ) (x : Found A) → at ≤ bound → Reads at x → x ≡ one at) (places : (at : ℕ) (a : A) (next : ℕ) → one at ≡ found a next → next ≤ bound) (empty : (at : ℕ) → from 0 at ≡ listed [] at) (more : (left at : ℕ) → from (suc left) at ≡ after (one at) stopped (λ a next. before (f a) (from left next))) where
  list_skipped : (left at : ℕ) (r : Result ℕ Fault) → at ≤ bound → Skips Reads left at r → r ≡ skipped (from left at)
  unfolding Skips
  list_skipped zero at r h s = s ∙ sym (ap skipped (empty at))
  list_skipped (suc left) at r h (Ok (a, next), p, s) =
      let q : one at ≡ found a next = sym (reads at (found a next) h p) in
      rw (more left at, q) (list_skipped left next r (places at a next q) s ∙ sym (skipped_before (f a) (from left next)))
  list_skipped (suc left) at r h (Err e, p, s) =
      let q : one at ≡ Err e = sym (reads at (Err e) h p) in
      rw (more left at, q) s

module _ (t : List ℕ) (bound : ℕ) (short : length t ≤ bound) (left at : ℕ) (r : Result ℕ Fault) (h : at ≤ bound) where
  pub replies_skipped : (Reads : ℕ → Found ℕ → Type 0) → ((at : ℕ) (x : Found ℕ) → at ≤ bound → Reads at x → x ≡ number_most t at word_most) → Skips Reads left at r → r ≡ skipped (replies_from t left at)
  unfolding replies_from
  replies_skipped Reads reads s = list_skipped Reads (λ at. number_most t at word_most) (λ reply. reply) (replies_from t) bound reads (λ at reply next q. omega (arith, (most_places t at word_most reply next q).1)) (λ at. refl) (λ left at. refl) left at r h s

  pub calls_skipped : (kind : ℕ) (Reads : ℕ → Found Call → Type 0) → ((at : ℕ) (x : Found Call) → at ≤ bound → Reads at x → x ≡ call_at t kind at) → Skips Reads left at r → r ≡ skipped (calls_from t kind left at)
  unfolding calls_from
  calls_skipped kind Reads reads s = list_skipped Reads (call_at t kind) (asked t) (calls_from t kind) bound reads (λ at call next q. omega (arith, (within t kind at call next q).ends)) (λ at. refl) (λ left at. refl) left at r h s
