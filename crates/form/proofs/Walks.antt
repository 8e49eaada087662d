-- A walk over the calls of a session, or over the replies that can be read, one by one.
-- Assumes nothing.
use mathlib.Core.Path.{◌≡◌, refl, sym, ◌∙◌}
use mathlib.Core.List.{List, [], ◌∷◌}
use Prim.Native.Nat.{ℕ, zero, suc, ◌-◌, ◌≤◌, ◌<◌}
use native.Mathlib.Omega.{arith}
use Rattle.std.specs.Prelude.{Err}
use Rattle.numbers.specs.declared.Fault.{Fault}
use Rattle.numbers.specs.Number.{found, number_most}
use Rattle.form.specs.declared.Call.{Call}
use Rattle.form.specs.Lists.{Listed, listed, stopped, before}
use Rattle.form.specs.Replies.{word_most, replies_in}
use Rattle.form.specs.Calls.{asked, call_at, calls_from}

-- Of things that are read one after the other, so many from a place on: `from left at`
module _ {A : Type 0} (from : ℕ → ℕ → Listed A) where
  -- A later walk: where the rest is read without a fault, what is read next stands in front of it
  pub record Next (all : List A) (end left next : ℕ) (x : A) : Type 0 where
    pub later : List A
    pub front : all ≡ x ∷ later
    pub goes : from (left - 1) next ≡ listed later end

  pub next_of : (all : List A) (end left at next : ℕ) (x : A) → from left at ≡ listed all end → from left at ≡ before x (from (left - 1) next) → Next all end left next x
  next_of all end left at next x e q = by (from (left - 1) next) refl (sym q ∙ e)
    where
      by : (l : Listed A) → from (left - 1) next ≡ l → before x l ≡ listed all end → Next all end left next x
      by (listed later last) r s =
          let h : last ≡ end = cc in
          record { later = later; front = cc; goes = cc }
      by (stopped place) r s = absurd (cc)

-- The definitions' steps as equations, for any count
module _ (t : List ℕ) where
  pub in_next : (left at reply next : ℕ) → number_most t at word_most ≡ found reply next → 0 < left → replies_in t left at ≡ reply ∷ replies_in t (left - 1) next
  unfolding replies_in
  in_next zero at reply next e h = absurd (omega arith)
  in_next (suc left) at reply next e h =
      let same : suc left - 1 ≡ left = omega arith in
      rw (e, same) refl

  pub in_fault : (left at : ℕ) (f : Fault) → number_most t at word_most ≡ Err f → replies_in t left at ≡ []
  unfolding replies_in
  in_fault zero at f e = refl
  in_fault (suc left) at f e = rw e refl

  pub in_none : (left at : ℕ) → left ≤ 0 → replies_in t left at ≡ []
  unfolding replies_in
  in_none zero at h = refl
  in_none (suc left) at h = absurd (omega arith)

  module _ (kind : ℕ) where
    pub call_next : (left at : ℕ) (call : Call) (next : ℕ) → call_at t kind at ≡ found call next → 0 < left → calls_from t kind left at ≡ before (asked t call) (calls_from t kind (left - 1) next)
    unfolding calls_from
    call_next zero at call next e h = absurd (omega arith)
    call_next (suc left) at call next e h =
        let same : suc left - 1 ≡ left = omega arith in
        rw (e, same) refl

    pub call_fault : (left at : ℕ) (f : Fault) → call_at t kind at ≡ Err f → 0 < left → calls_from t kind left at ≡ stopped f.place
    unfolding calls_from
    call_fault zero at f e h = absurd (omega arith)
    call_fault (suc left) at f e h = rw e refl

    pub call_none : (left at : ℕ) → left ≤ 0 → calls_from t kind left at ≡ listed [] at
    unfolding calls_from
    call_none zero at h = refl
    call_none (suc left) at h = absurd (omega arith)
