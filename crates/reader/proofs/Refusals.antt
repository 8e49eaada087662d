-- What a refusal tells, and what there is where none applies.
-- Assumes nothing.
use mathlib.Core.Path.{◌≡◌, refl, sym, ap, ◌∙◌}
use mathlib.Core.List.{List}
use Prim.Native.Nat.{ℕ, ◌≤◌}
use lib.ListN.{length}
use borrow.Author.Tests.{ne_eqb}
use Rattle.std.specs.Prelude.{Result, Err, IsErrAnd}
use Rattle.std.proofs.lemmas.Result.{err_from_is_err_and}
use Rattle.card.specs.Answers.{refused}
use Rattle.card.specs.Limits.{refusal_of, refusal_number}
use Rattle.card.specs.declared.limits.Refusal.{Refusal}
use Rattle.card.proofs.Refusals.{unrefused, own_row, other_row, refusal_some}
use Rattle.reader.specs.declared.State.{State}
use Rattle.reader.specs.declared.Sizes.{Sizes}
use Rattle.reader.specs.World.{World, Called, Fit, world, sizes_of}
use Rattle.reader.specs.Reader.{refusal, unless}

-- what is told of the sizes is told of what is lent
pub checked : (script stock s : List ℕ) (st : State) (sizes : Sizes) (n : ℕ) → n ≡ refusal_of sizes.capacity sizes.script sizes.stock st.pos st.filled st.taken st.used 0 → sizes ≡ sizes_of s script stock → n ≡ refusal script stock (world s st) 0
unfolding refusal
checked script stock s st sizes n e q = e ∙ ap (λ (z : Sizes). refusal_of z.capacity z.script z.stock st.pos st.filled st.taken st.used 0) q

pub pos_in : (sizes : Sizes) (st : State) → 0 ≡ refusal_of sizes.capacity sizes.script sizes.stock st.pos st.filled st.taken st.used 0 → st.pos ≤ st.filled
pos_in sizes st e = (unrefused sizes.capacity sizes.script sizes.stock st.pos st.filled st.taken st.used 0 (sym e)).pos_fits

-- a world at which no call is refused fits
pub unrefused_fit : (script stock : List ℕ) (w : World) (own : ℕ) → refusal script stock w own ≡ 0 → Fit script stock w
unfolding refusal
unrefused_fit script stock w own e =
    let p = unrefused (length w.storage) (length script) (length stock) w.state.pos w.state.filled w.state.taken w.state.used own e in
    record { pos_in = p.pos_fits; filled_in = p.filled_fits; taken_in = p.moved_fits; used_in = p.used_fits }

-- what `?` answers an error with
pub fails_with : {A E : Type 0} {x : Result A E} {e : E} → IsErrAnd x (λ f. f ≡ e) → x ≡ Err e
fails_with {x = x} h =
    let p = err_from_is_err_and x h in
    p.1 ∙ ap Err p.2

-- a call that is not refused works on a world that fits
pub fit : {script stock : List ℕ} {w : World} → 0 ≡ refusal script stock w 0 → Fit script stock w
fit {script = script} {stock = stock} {w = w} e = unrefused_fit script stock w 0 (sym e)

-- Which number it is: that of the state and of what is lent, and where those fit the call's own
module _ (script stock : List ℕ) (w : World) (own : ℕ) where
  pub number_first : (r : Refusal) → refusal_number r ≡ refusal script stock w 0 → refusal_number r ≡ refusal script stock w own
  unfolding refusal
  number_first r e = other_row (length w.storage) (length script) (length stock) w.state.pos w.state.filled w.state.taken w.state.used own (refusal_number r) e (refusal_some r _ refl)

  pub number_own : (n : ℕ) → 0 ≡ refusal script stock w 0 → n ≡ own → n ≡ refusal script stock w own
  unfolding refusal
  number_own n e o = o ∙ own_row (length w.storage) (length script) (length stock) w.state.pos w.state.filled w.state.taken w.state.used own (sym e)

  module _ (r : Refusal) (c : Called) where
    refused_so : refusal_number r ≡ refusal script stock w own → record { answer = refused (refusal_number r); calls = 0; world = w } ≡ unless (refusal script stock w own) w c
    unfolding unless
    refused_so e = rw (← e) (rw (ne_eqb _ _ (refusal_some r _ refl)) refl)

    pub refused_first : refusal_number r ≡ refusal script stock w 0 → record { answer = refused (refusal_number r); calls = 0; world = w } ≡ unless (refusal script stock w own) w c
    refused_first e = refused_so (number_first r e)

    pub refused_own : 0 ≡ refusal script stock w 0 → refusal_number r ≡ own → record { answer = refused (refusal_number r); calls = 0; world = w } ≡ unless (refusal script stock w own) w c
    refused_own e o = refused_so (number_own (refusal_number r) e o)

  pub answered_so : (a c : Called) → 0 ≡ refusal script stock w 0 → 0 ≡ own → a ≡ c → a ≡ unless (refusal script stock w own) w c
  unfolding unless
  answered_so a c e o q = rw (← number_own 0 e o) q
