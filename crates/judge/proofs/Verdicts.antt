-- From the two walks to the verdict.
-- Assumes nothing.
use mathlib.Core.Path.{◌≡◌, refl, sym, ap, ◌∙◌, subst}
use mathlib.Core.Bool.{Bool}
use mathlib.Core.List.{List}
use Prim.Native.Nat.{ℕ, ◌+◌, ◌-◌, ◌≤◌}
use native.Mathlib.Omega.{arith}
use lib.ListN.{length, take, length-take}
use Rattle.std.specs.Prelude.{Some, None, Result, Ok, Err}
use lib.Seq.{length-take-le}
use Rattle.numbers.specs.declared.Fault.{Fault}
use Rattle.trace.specs.declared.Header.{Header}
use Rattle.trace.specs.Calls.{Told}
use Rattle.trace.specs.Trace.{Parsed, trace, trace_of, checked}
use Rattle.trace.proofs.Rests.{held, whole, refused}
use Rattle.judge.specs.declared.Verdict.{Verdict}
use Rattle.judge.specs.declared.Verdict.TheVariants.{Possible as possible, Impossible as impossible}
use Rattle.judge.specs.Judge.{Possible, Judged}
use Rattle.judge.specs.Table.{pieces, Left, Goes}
use Rattle.judge.specs.Flags.{Has, Reached, OfTrace, Comparison}
use Rattle.judge.proofs.Runs.{possible_goes, goes_possible}
use Rattle.judge.proofs.Walks.{begun, card_long}

-- a card that is what is left of l begins l, and is as long as that
pub left_begins : (e : ℕ) (l card : List ℕ) → Left e l card → (card ≡ take (length card) l) × (length card + e ≡ length l)
left_begins e l card x =
    let long : length card ≡ length l - e = ap length x.is ∙ length-take-le (length l - e) l (omega arith) in
    (x.is ∙ ap (λ (k : ℕ). take k l) (sym long), omega (arith, x.fits))

-- the verdict by the table
abbrev pub Ruled : ℕ → Verdict → List Told → List ℕ → Type 0
Ruled C possible calls card = Goes C 0 calls (pieces calls) card
Ruled C impossible calls card = Goes C 0 calls (pieces calls) card → ⊥

module _ (t : List ℕ) (h : Header) where
  -- the card's length
  long : OfTrace t h (λ calls card. length card ≡ h.length)
  long calls card e = card_long t h 0 0 h.first calls card (begun t h ∙ e)

  -- a card that does not begin the answered bytes
  pub rules_differ : OfTrace t h (Comparison None) → OfTrace t h (Ruled h.capacity impossible)
  rules_differ d calls card e g = d calls card e (left_begins g.end (pieces calls) card g.left).0

  module _ (answered held-count : ℕ) (set : List Bool) (a : OfTrace t h (Comparison (Some answered))) (r : OfTrace t h (λ calls card. Reached h.capacity calls set)) (ph : held-count ≡ answered - h.length) where
    -- no other count than this can be what is left
    only_count : OfTrace t h (λ calls card. (g : Goes h.capacity 0 calls (pieces calls) card) → g.end ≡ held-count)
    only_count calls card e g =
        let x = a calls card e in
        let y = left_begins g.end (pieces calls) card g.left in
        omega (arith, x.0, y.1, long calls card e, ph)

    pub rules_possible : Has set held-count → OfTrace t h (Ruled h.capacity possible)
    rules_possible s calls card e =
        let x = a calls card e in
        let cl = long calls card e in
        let short : length card ≤ length (pieces calls) =
        let m = length-take (length card) (pieces calls) in
        let n = ap length x.1 in
        omega (arith, m, n) in
        let back : length (pieces calls) - held-count ≡ length card = omega (arith, x.0, cl, ph) in
        record {
          end = held-count;
          reach = ((r calls card e).at held-count).0 s;
          left = record { fits = omega (arith, x.0, ph); is = x.1 ∙ ap (λ (k : ℕ). take k (pieces calls)) (sym back) };
        }

    pub rules_impossible : (Has set held-count → ⊥) → OfTrace t h (Ruled h.capacity impossible)
    rules_impossible n calls card e g = n (subst (λ (k : ℕ). Has set k) (only_count calls card e g) (((r calls card e).at g.end).1 g.reach))

-- ---- the public verdict

module _ (header : Header) (calls : List Told) (card : List ℕ) (to : Possible header.capacity calls card → Goes header.capacity 0 calls (pieces calls) card) (from : Goes header.capacity 0 calls (pieces calls) card → Possible header.capacity calls card) where
  judged_by : (v : Verdict) → Ruled header.capacity v calls card → Judged (trace header calls card) (Ok v)
  unfolding Judged
  judged_by possible g = (
    ((λ e. from g), (λ p. refl)),
    ((λ e. cc), (λ n. absurd (n (from g)))),
  )
  judged_by impossible g = (
    ((λ e. cc), (λ p. absurd (g (to p)))),
    ((λ e p. g (to p)), (λ n. refl)),
  )

pub judged_whole : (t : List ℕ) (h : Header) (v : Verdict) → Ok h ≡ checked (trace_of t) → OfTrace t h (Ruled h.capacity v) → Judged (trace_of t) (Ok v)
judged_whole t h v e r =
    let k = held (trace_of t) h e in
    let w = whole t h k.calls k.card k.is in
    subst (λ (p : Parsed). Judged p (Ok v)) (sym k.is)
    (judged_by h k.calls k.card (possible_goes h.capacity k.calls k.card) (goes_possible h.capacity k.calls k.card w.fair w.capacity_within w.written_most) v (r k.calls k.card w.from))

pub judged_fault : (t : List ℕ) (e : Fault) (v : Result Verdict Fault) → Err e ≡ checked (trace_of t) → v ≡ Err e → Judged (trace_of t) v
unfolding Judged
judged_fault t e v q r = rw (refused (trace_of t) e.place q, r) refl

-- what the walks need of a whole trace
pub whole_fits : (t : List ℕ) (h : Header) → Ok h ≡ checked (trace_of t) → (h.capacity ≤ 1024) × (h.card + h.length ≤ length t)
whole_fits t h e =
    let k = held (trace_of t) h e in
    let w = whole t h k.calls k.card k.is in
    (w.capacity_within, omega (arith, w.card_ends))
