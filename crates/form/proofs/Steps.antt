-- How far a session is read: what the definition says of the whole, once its parts so far are read.
-- Assumes nothing.
use mathlib.Core.Path.{◌≡◌, refl, ap}
use mathlib.Core.List.{List}
use Prim.Native.Nat.{ℕ, ◌+◌, ◌≤◌}
use lib.ListN.{length}
use borrow.Author.Tests.{ne_eqb, le-ltb}
use Rattle.std.specs.Prelude.{Ok, Err}
use Rattle.card.specs.Limits.{capacity_most, script_most}
use Rattle.numbers.specs.declared.Fault.{Fault}
use Rattle.numbers.specs.Number.{found, number_most}
use Rattle.numbers.proofs.Back.{same_place}
use Rattle.form.specs.Lists.{Listed, listed, stopped, skipped}
use Rattle.form.specs.Replies.{replies_from}
use Rattle.form.specs.Session.{session_most, calls_most, stock_of, calls_of, count_at, stock_at, script_at, replies_at, capacity_at, session_of}

-- what was skipped, back to what was read
pub record Passed {A : Type 0} (l : Listed A) (next : ℕ) : Type 0 where
  pub all : List A
  pub is : l ≡ listed all next

pub passed : {A : Type 0} (l : Listed A) (next : ℕ) → skipped l ≡ Ok next → Passed l next
passed (listed all n) next e = record { all = all; is = ap (λ (x : ℕ). listed all x) (cc) }
passed (stopped place) next e = absurd (cc)

pub halted : {A : Type 0} (l : Listed A) (f : Fault) → skipped l ≡ Err f → l ≡ stopped f.place
halted (listed all n) f e = absurd (cc)
halted (stopped p) f e = ap (λ (x : ℕ). stopped x) (same_place p f.place e)

module _ (t : List ℕ) (kind a : ℕ) (short : length t ≤ session_most) (k : number_most t 0 3 ≡ found kind a) (other : kind ≡ 3 → ⊥) where
  pub to_capacity : session_of t ≡ capacity_at t kind a
  unfolding session_of
  to_capacity = rw (le-ltb _ _ short, k, ne_eqb _ _ other) refl

  module _ (capacity b count script : ℕ) (e : number_most t a capacity_most ≡ found capacity b) (f : number_most t b script_most ≡ found count script) where
    pub to_script : session_of t ≡ script_at t kind capacity count script
    unfolding capacity_at replies_at
    to_script = rw (to_capacity, e, f) refl

    module _ (at : ℕ) (s : skipped (replies_from t count script) ≡ Ok at) where
      pub replies : List ℕ
      replies = (passed (replies_from t count script) at s).all

      pub to_stock : session_of t ≡ stock_at t kind capacity count script replies at
      unfolding script_at replies
      to_stock = rw (to_script, (passed (replies_from t count script) at s).is) refl

      module _ (n stock calls first : ℕ) (q : stock_of t kind at ≡ found n stock) (g : number_most t (stock + n) calls_most ≡ found calls first) where
        pub to_calls : session_of t ≡ calls_of t (record { kind = kind; capacity = capacity; replies = count; script = script; stock = stock; length = n; count = calls; first = first }) replies
        unfolding stock_at count_at
        to_calls = rw (to_stock, q, g) refl
