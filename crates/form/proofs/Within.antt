-- What is read keeps: lengths, sizes and places lie within their limits and in the session.
-- Assumes nothing.
use mathlib.Core.Path.{◌≡◌, sym, ap, ◌∙◌}
use mathlib.Core.Bool.{true}
use mathlib.Core.List.{List}
use Prim.Native.Nat.{ℕ, ◌+◌, ◌≤◌, ◌<◌}
use native.Mathlib.Omega.{arith}
use lib.Dec.{eqb}
use lib.ListN.{length}
use borrow.Author.Tests.{eqb-true, eqb-false}
use Rattle.laws.proofs.Picks.{pick_holds}
use Rattle.card.specs.Limits.{bytes_most}
use Rattle.std.specs.Prelude.{Ok, Err}
use Rattle.numbers.specs.Number.{Found, found, fault_at, number_most}
use Rattle.numbers.proofs.Back.{same_found}
use Rattle.numbers.proofs.Most.{most_value, most_places, LengthWithin, length_within, after_holds}
use Rattle.form.specs.declared.Call.{Call}
use Rattle.form.specs.declared.Call.TheVariants.{Write, WriteAll, Flush, Read, Peek, Consume, Seek, Fill}
use Rattle.form.specs.Replies.{word_most}
use Rattle.form.specs.Calls.{asked, call_number, length_at, write_at, write_all_at, read_at, peek_at, consume_at, size_at, seek_at, writer_call, reader_call, call_at}
use Rattle.form.specs.Session.{stock_of}
use Rattle.form.proofs.Places.{fault_in, length_fault_in}

-- A length at a place, of at most 16,384, and its bytes
pub length_part : (t : List ℕ) (at n start : ℕ) → length_at t at ≡ found n start → LengthWithin t at bytes_most n start
unfolding length_at
length_part t at n start e = length_within t at bytes_most n start e

pub length_at_in : (t : List ℕ) (at place : ℕ) → length_at t at ≡ fault_at place → at ≤ length t → place ≤ length t
unfolding length_at
length_at_in t at place e h = length_fault_in t at bytes_most place e h

-- The stock lies where the session and the place before it lie, and a writer has none
pub record Stock (t : List ℕ) (kind at n stock : ℕ) : Type 0 where
  pub later : at ≤ stock
  pub most : n ≤ bytes_most
  pub ends : (bound : ℕ) → length t ≤ bound → at ≤ bound → stock + n ≤ bound
  pub none : (kind ≡ 2 → ⊥) → n ≡ 0

pub stock_part : (t : List ℕ) (kind at n stock : ℕ) → stock_of t kind at ≡ found n stock → Stock t kind at n stock
unfolding stock_of
stock_part t kind at n stock =
    pick_holds (λ m. m ≡ found n stock → Stock t kind at n stock) (eqb kind 2) _ _
    (λ k e. let w = length_part t at n stock e in record { later = omega (arith, w.later); most = w.small; ends = λ bound h l. omega (arith, w.ends); none = λ no. absurd (no (eqb-true kind 2 k)) })
    (λ k e.
    let same = same_found 0 n at stock e in
    let a : n ≡ 0 = sym same.0 in
    record { later = omega arith; most = omega arith; ends = λ bound h l. omega arith; none = λ no. omega arith })

pub stock_fault_in : (t : List ℕ) (kind at place : ℕ) → stock_of t kind at ≡ fault_at place → at ≤ length t → place ≤ length t
unfolding stock_of
stock_fault_in t kind at place =
    pick_holds (λ r. r ≡ fault_at place → at ≤ length t → place ≤ length t) (eqb kind 2) (length_at t at) (found 0 at) (λ _ e h. length_at_in t at place e h) (λ _ e. absurd (cc))

-- What a call of a kind can ask for: writers' calls where the kind is not 2, a reader's where it is
abbrev pub Fits : List ℕ → ℕ → Call → Type 0
Fits t kind (Write start n) = (kind ≡ 2 → ⊥) × ((start + n ≤ length t) × (n ≤ bytes_most))
Fits t kind (WriteAll start n) = (kind ≡ 2 → ⊥) × ((start + n ≤ length t) × (n ≤ bytes_most))
Fits t kind Flush = kind ≡ 2 → ⊥
Fits t kind (Read n) = (kind ≡ 2) × (n ≤ bytes_most)
Fits t kind (Peek n) = (kind ≡ 2) × (n ≤ word_most)
Fits t kind (Consume n) = (kind ≡ 2) × (n ≤ word_most)
Fits t kind (Seek back size) = (kind ≡ 2) × ((size ≤ word_most) × (back ≡ true → 1 ≤ size))
Fits t kind Fill = kind ≡ 2

-- A call at place `at`: its number stands there, and the rest of it after that
pub record CallWithin (t : List ℕ) (kind at : ℕ) (call : Call) (next : ℕ) : Type 0 where
  pub body : ℕ
  pub number : number_most t at 7 ≡ found (call_number (asked t call)) body
  pub later : at < next
  pub ends : next ≤ length t
  pub fits : Fits t kind call

-- of whatever is read
abbrev GoodCall : List ℕ → ℕ → ℕ → Found Call → Type 0
GoodCall t kind at (Ok (call, next)) = CallWithin t kind at call next
GoodCall t kind at (Err e) = at ≤ length t → e.place ≤ length t

-- the calls one by one, where the call's number stands at place `from` and the rest at place `at`
module _ (t : List ℕ) (kind from number at : ℕ) (here : number_most t from 7 ≡ found number at) where
  there : (k : ℕ) → number ≡ k → number_most t from 7 ≡ found k at
  there k e = here ∙ ap (λ (x : ℕ). found x at) e

  after : from < at
  after = (most_places t from 7 number at here).0

  inside : at ≤ length t
  inside = (most_places t from 7 number at here).1

  module _ (no : kind ≡ 2 → ⊥) where
    write_good : number ≡ 0 → GoodCall t kind from (write_at t at)
    unfolding write_at
    write_good q =
        after_holds (GoodCall t kind from) (length_at t at) fault_at _ (λ p e h. length_at_in t at p e inside)
        (λ n start e. let w = length_part t at n start e in record { body = at; number = there 0 q; later = omega (arith, w.later, after); ends = w.ends; fits = (no, (w.ends, w.small)) })

    write_all_good : number ≡ 1 → GoodCall t kind from (write_all_at t at)
    unfolding write_all_at
    write_all_good q =
        after_holds (GoodCall t kind from) (length_at t at) fault_at _ (λ p e h. length_at_in t at p e inside)
        (λ n start e. let w = length_part t at n start e in record { body = at; number = there 1 q; later = omega (arith, w.later, after); ends = w.ends; fits = (no, (w.ends, w.small)) })

    writer_good : GoodCall t kind from (writer_call t from number at)
    unfolding writer_call
    writer_good =
        pick_holds (GoodCall t kind from) (eqb number 0) _ _ (λ e. write_good (eqb-true number 0 e))
        (λ _. pick_holds (GoodCall t kind from) (eqb number 1) _ _ (λ e. write_all_good (eqb-true number 1 e))
        (λ _. pick_holds (GoodCall t kind from) (eqb number 2) _ _ (λ e. record { body = at; number = there 2 (eqb-true number 2 e); later = after; ends = inside; fits = no })
        (λ _ h. h)))

  module _ (is : kind ≡ 2) where
    read_good : number ≡ 3 → GoodCall t kind from (read_at t at)
    unfolding read_at
    read_good q =
        after_holds (GoodCall t kind from) (number_most t at bytes_most) fault_at _ (λ p e h. fault_in t at bytes_most p e inside)
        (λ n next e. let w = most_places t at bytes_most n next e in record { body = at; number = there 3 q; later = omega (arith, after); ends = w.1; fits = (is, (most_value t at bytes_most n next e).1) })

    peek_good : number ≡ 4 → GoodCall t kind from (peek_at t at)
    unfolding peek_at
    peek_good q =
        after_holds (GoodCall t kind from) (number_most t at word_most) fault_at _ (λ p e h. fault_in t at word_most p e inside)
        (λ n next e. let w = most_places t at word_most n next e in record { body = at; number = there 4 q; later = omega (arith, after); ends = w.1; fits = (is, (most_value t at word_most n next e).1) })

    consume_good : number ≡ 5 → GoodCall t kind from (consume_at t at)
    unfolding consume_at
    consume_good q =
        after_holds (GoodCall t kind from) (number_most t at word_most) fault_at _ (λ p e h. fault_in t at word_most p e inside)
        (λ n next e. let w = most_places t at word_most n next e in record { body = at; number = there 5 q; later = omega (arith, after); ends = w.1; fits = (is, (most_value t at word_most n next e).1) })

    size_good : (direction place : ℕ) → number ≡ 6 → at ≤ place → place ≤ length t → GoodCall t kind from (size_at t direction place)
    unfolding size_at
    size_good direction place q h l =
        after_holds (GoodCall t kind from) (number_most t place word_most) fault_at _ (λ p e _. fault_in t place word_most p e l)
        (λ size next e.
        let w = most_places t place word_most size next e in
        let small = (most_value t place word_most size next e).1 in
        pick_holds (GoodCall t kind from) (eqb direction 0) _ _
        (λ _. record { body = at; number = there 6 q; later = omega (arith, after); ends = w.1; fits = (is, (small, λ f. absurd (cc))) })
        (λ _. pick_holds (GoodCall t kind from) (eqb size 0) _ _ (λ _ _. l)
        (λ z. record { body = at; number = there 6 q; later = omega (arith, after); ends = w.1; fits = (is, (small, λ f. omega (arith, eqb-false size 0 z))) })))

    seek_good : number ≡ 6 → GoodCall t kind from (seek_at t at)
    unfolding seek_at
    seek_good q =
        after_holds (GoodCall t kind from) (number_most t at 1) fault_at _ (λ p e h. fault_in t at 1 p e inside)
        (λ direction next e. let w = most_places t at 1 direction next e in size_good direction next q (omega arith) w.1)

    reader_good : GoodCall t kind from (reader_call t from number at)
    unfolding reader_call
    reader_good =
        pick_holds (GoodCall t kind from) (eqb number 3) _ _ (λ e. read_good (eqb-true number 3 e))
        (λ _. pick_holds (GoodCall t kind from) (eqb number 4) _ _ (λ e. peek_good (eqb-true number 4 e))
        (λ _. pick_holds (GoodCall t kind from) (eqb number 5) _ _ (λ e. consume_good (eqb-true number 5 e))
        (λ _. pick_holds (GoodCall t kind from) (eqb number 6) _ _ (λ e. seek_good (eqb-true number 6 e))
        (λ _. pick_holds (GoodCall t kind from) (eqb number 7) _ _ (λ e. record { body = at; number = there 7 (eqb-true number 7 e); later = after; ends = inside; fits = is })
        (λ _ h. h)))))

call_good : (t : List ℕ) (kind at : ℕ) → GoodCall t kind at (call_at t kind at)
unfolding call_at
call_good t kind at =
    after_holds (GoodCall t kind at) (number_most t at 7) fault_at _ (λ p e h. fault_in t at 7 p e h)
    (λ number next e.
    pick_holds (GoodCall t kind at) (eqb kind 2) _ _
    (λ k. reader_good t kind at number next e (eqb-true kind 2 k))
    (λ k. writer_good t kind at number next e (eqb-false kind 2 k)))

-- of a call that is read
pub within : (t : List ℕ) (kind at : ℕ) (call : Call) (next : ℕ) → call_at t kind at ≡ found call next → CallWithin t kind at call next
within t kind at call next e = rw e at (call_good t kind at)

-- and of a fault
pub call_fault_in : (t : List ℕ) (kind at place : ℕ) → call_at t kind at ≡ fault_at place → at ≤ length t → place ≤ length t
call_fault_in t kind at place e h = (rw e at (call_good t kind at)) h
