-- What a session without a fault holds, and how a later walk goes over its calls: from 'the definition's calls from here are
-- these' to the next call and the same of the rest.
-- Assumes nothing.
use mathlib.Core.Path.{◌≡◌, refl, sym, ap, ◌∙◌}
use mathlib.Core.Bool.{true}
use mathlib.Core.List.{List, [], ◌∷◌}
use Prim.Native.Nat.{ℕ, zero, suc, ◌+◌, ◌≤◌, ◌<◌}
use native.Mathlib.Omega.{arith}
use lib.Dec.{eqb, ltb}
use lib.ListN.{length, take, drop, length-take, length-drop}
use borrow.Author.Tests.{eqb-false, ltb-true, ltb-false}
use Rattle.laws.proofs.Picks.{pick_holds}
use Rattle.card.specs.Limits.{bytes_most, capacity_most, script_most}
use Rattle.std.specs.Prelude.{Ok, Err}
use Rattle.numbers.specs.declared.Fault.{Fault}
use Rattle.numbers.specs.Number.{found, fault_at, number_most}
use Rattle.numbers.proofs.Back.{same_place}
use Rattle.numbers.proofs.Most.{most_value, most_places, after_holds}
use Rattle.form.specs.declared.Call.{Call}
use Rattle.form.specs.declared.Call.TheVariants.{Write, WriteAll, Flush, Read, Peek, Consume, Seek, Fill}
use Rattle.form.specs.declared.Header.{Header}
use Rattle.form.specs.declared.Checked.TheVariants.{Session, Traced}
use Rattle.form.specs.Lists.{Listed, listed, stopped, before, after_all}
use Rattle.form.specs.Replies.{word_most, replies_from, replies_in}
use Rattle.form.specs.Calls.{Asked, write, write_all, flush, read, peek, consume, seek_relative, fill, asked, call_at, calls_from}
use Rattle.form.specs.Session.{session_most, calls_most, Parsed, fault, traced, session, stock_of, calls_of, count_at, stock_at, script_at, replies_at, capacity_at, session_of, checked}
use Rattle.form.proofs.Places.{fault_in}
use Rattle.form.proofs.Within.{Fits, CallWithin, within, call_fault_in, stock_part, stock_fault_in}
use Rattle.form.proofs.Walks.{Next, next_of, call_next, call_fault, call_none}

-- a check's answer, back to what the definition says
pub record Held (p : Parsed) (header : Header) : Type 0 where
  pub replies : List ℕ
  pub stock : List ℕ
  pub calls : List Asked
  pub is : p ≡ session header replies stock calls

pub held : (p : Parsed) (header : Header) → Ok (Session header) ≡ checked p → Held p header
held (fault place) header e = absurd (cc)
held (traced start trace) header e = absurd (cc)
held (session h replies stock calls) header e =
    let q : h ≡ header = cc in
    record { replies = replies; stock = stock; calls = calls; is = ap (λ (x : Header). session x replies stock calls) q }

pub refused : (p : Parsed) (place : ℕ) → fault_at place ≡ checked p → p ≡ fault place
refused (fault q) place e =
    let s : q ≡ place = sym (same_place place q e) in
    ap (λ (x : ℕ). fault x) s
refused (traced start trace) place e = absurd (cc)
refused (session h replies stock calls) place e = absurd (cc)

-- what holds at a fault, and of any list that is read, holds of what comes after
pub all_holds {ℓ} : {A : Type 0} {B : Type ℓ} (P : B → Type 0) (l : Listed A) (bad : ℕ → B) (good : List A → ℕ → B) → ((place : ℕ) → l ≡ stopped place → P (bad place)) → ((all : List A) (next : ℕ) → l ≡ listed all next → P (good all next)) → P (after_all l bad good)
all_holds P (listed all next) bad good f g = g all next refl
all_holds P (stopped place) bad good f g = f place refl

-- The replies that are read: so many, each below 2^32, in the session; and they are those that can be read
abbrev pub AllWords : List ℕ → Type 0
AllWords [] = Unit
AllWords (reply ∷ replies) = (reply ≤ word_most) × AllWords replies

pub record Replies (t : List ℕ) (left at : ℕ) (replies : List ℕ) (end : ℕ) : Type 0 where
  pub are : length replies ≡ left
  pub words : AllWords replies
  pub later : at ≤ end
  pub ends : at ≤ length t → end ≤ length t
  pub these : replies_in t left at ≡ replies

abbrev GoodReplies : List ℕ → ℕ → ℕ → Listed ℕ → Type 0
GoodReplies t left at (listed replies end) = Replies t left at replies end
GoodReplies t left at (stopped place) = at ≤ length t → place ≤ length t

replies_good : (t : List ℕ) (left at : ℕ) → GoodReplies t left at (replies_from t left at)
unfolding replies_from replies_in
replies_good t zero at = record { are = refl; words = tt; later = omega arith; ends = λ h. h; these = refl }
replies_good t (suc left) at =
    after_holds (GoodReplies t (suc left) at) (number_most t at word_most) stopped _ (λ p e h. fault_in t at word_most p e h)
    (λ reply next e. more reply next e (replies_from t left next) (replies_good t left next))
  where
    more : (reply next : ℕ) → number_most t at word_most ≡ found reply next → (l : Listed ℕ) → GoodReplies t left next l → GoodReplies t (suc left) at (before reply l)
    more reply next e (listed replies end) g =
        let w = most_places t at word_most reply next e in
        record {
          are = ap suc g.are;
          words = ((most_value t at word_most reply next e).1, g.words);
          later = omega (arith, g.later);
          ends = λ h. g.ends w.1;
          these = rw e (ap (λ (l : List ℕ). reply ∷ l) g.these);
        }
    more reply next e (stopped place) g = λ h. g (most_places t at word_most reply next e).1

pub replies_are : (t : List ℕ) (left at : ℕ) (replies : List ℕ) (end : ℕ) → replies_from t left at ≡ listed replies end → Replies t left at replies end
replies_are t left at replies end e = rw e at (replies_good t left at)

replies_fault_in : (t : List ℕ) (left at place : ℕ) → replies_from t left at ≡ stopped place → at ≤ length t → place ≤ length t
replies_fault_in t left at place e h = (rw e at (replies_good t left at)) h

-- The calls that are read: so many, each one that the kind has and within its limits, in the session
abbrev pub FitsAsked : ℕ → Asked → Type 0
FitsAsked kind (write bytes) = (kind ≡ 2 → ⊥) × (length bytes ≤ bytes_most)
FitsAsked kind (write_all bytes) = (kind ≡ 2 → ⊥) × (length bytes ≤ bytes_most)
FitsAsked kind flush = kind ≡ 2 → ⊥
FitsAsked kind (read n) = (kind ≡ 2) × (n ≤ bytes_most)
FitsAsked kind (peek n) = (kind ≡ 2) × (n ≤ word_most)
FitsAsked kind (consume n) = (kind ≡ 2) × (n ≤ word_most)
FitsAsked kind (seek_relative back size) = (kind ≡ 2) × ((size ≤ word_most) × (back ≡ true → 1 ≤ size))
FitsAsked kind fill = kind ≡ 2

-- the bytes of a write are as many as its length says
pub part_length : (t : List ℕ) (start n : ℕ) → start + n ≤ length t → length (take n (drop start t)) ≡ n
part_length t start n h = simp (length-take, length-drop) (omega arith)

asked_fits : (t : List ℕ) (kind : ℕ) (call : Call) → Fits t kind call → FitsAsked kind (asked t call)
asked_fits t kind (Write start n) f = (f.0, omega (arith, part_length t start n f.1.0, f.1.1))
asked_fits t kind (WriteAll start n) f = (f.0, omega (arith, part_length t start n f.1.0, f.1.1))
asked_fits t kind Flush f = f
asked_fits t kind (Read n) f = f
asked_fits t kind (Peek n) f = f
asked_fits t kind (Consume n) f = f
asked_fits t kind (Seek back size) f = f
asked_fits t kind Fill f = f

abbrev pub AllFit : ℕ → List Asked → Type 0
AllFit kind [] = Unit
AllFit kind (call ∷ calls) = FitsAsked kind call × AllFit kind calls

pub record Calls (t : List ℕ) (kind left at : ℕ) (calls : List Asked) (end : ℕ) : Type 0 where
  pub are : length calls ≡ left
  pub fit : AllFit kind calls
  pub later : at ≤ end
  pub ends : at ≤ length t → end ≤ length t

abbrev GoodCalls : List ℕ → ℕ → ℕ → ℕ → Listed Asked → Type 0
GoodCalls t kind left at (listed calls end) = Calls t kind left at calls end
GoodCalls t kind left at (stopped place) = at ≤ length t → place ≤ length t

calls_good : (t : List ℕ) (kind left at : ℕ) → GoodCalls t kind left at (calls_from t kind left at)
unfolding calls_from
calls_good t kind zero at = record { are = refl; fit = tt; later = omega arith; ends = λ h. h }
calls_good t kind (suc left) at =
    after_holds (GoodCalls t kind (suc left) at) (call_at t kind at) stopped _ (λ p e h. call_fault_in t kind at p e h)
    (λ call next e. more call next (within t kind at call next e) (calls_from t kind left next) (calls_good t kind left next))
  where
    more : (call : Call) (next : ℕ) → CallWithin t kind at call next → (l : Listed Asked) → GoodCalls t kind left next l → GoodCalls t kind (suc left) at (before (asked t call) l)
    more call next w (listed calls end) g = record {
      are = ap suc g.are;
      fit = (asked_fits t kind call w.fits, g.fit);
      later = omega (arith, w.later, g.later);
      ends = λ h. g.ends w.ends;
    }
    more call next w (stopped place) g = λ h. g w.ends

pub calls_are : (t : List ℕ) (kind left at : ℕ) (calls : List Asked) (end : ℕ) → calls_from t kind left at ≡ listed calls end → Calls t kind left at calls end
calls_are t kind left at calls end e = rw e at (calls_good t kind left at)

calls_fault_in : (t : List ℕ) (kind left at place : ℕ) → calls_from t kind left at ≡ stopped place → at ≤ length t → place ≤ length t
calls_fault_in t kind left at place e h = (rw e at (calls_good t kind left at)) h

-- A session without a fault: its header's numbers and places, its replies, its stock, and its calls, which are those from the
-- first call's place on, up to the session's end
pub record Whole (t : List ℕ) (header : Header) (replies stock : List ℕ) (calls : List Asked) : Type 0 where
  pub short : length t ≤ session_most
  pub kind_most : header.kind ≤ 2
  pub capacity_within : header.capacity ≤ capacity_most
  pub replies_most : header.replies ≤ script_most
  pub script_in : header.script ≤ length t
  pub replies_these : replies_in t header.replies header.script ≡ replies
  pub replies_count : length replies ≡ header.replies
  pub words : AllWords replies
  pub stock_is : stock ≡ take header.length (drop header.stock t)
  pub stock_in : header.stock + header.length ≤ length t
  pub stock_most : header.length ≤ bytes_most
  pub stock_none : (header.kind ≡ 2 → ⊥) → header.length ≡ 0
  pub count_most : header.count ≤ calls_most
  pub first_in : header.first ≤ length t
  pub calls_count : length calls ≡ header.count
  pub fit : AllFit header.kind calls
  pub from : calls_from t header.kind header.count header.first ≡ listed calls (length t)

-- Of kind 3: the trace is all that comes after the kind
pub record Trace (t : List ℕ) (start : ℕ) (trace : List ℕ) : Type 0 where
  pub short : length t ≤ session_most
  pub start_in : start ≤ length t
  pub is : trace ≡ drop start t

-- A session with a fault: the place lies in the input or at its end, and is at most 32,768
pub record Refused (t : List ℕ) (place : ℕ) : Type 0 where
  pub place_in : place ≤ length t
  pub place_most : place ≤ session_most

-- of whatever a session says
abbrev GoodSession : List ℕ → Parsed → Type 0
GoodSession t (fault place) = Refused t place
GoodSession t (traced start trace) = Trace t start trace
GoodSession t (session header replies stock calls) = Whole t header replies stock calls

module _ (t : List ℕ) (short : length t ≤ session_most) (kind : ℕ) (kind_most : kind ≤ 2) where
  refuse : (place : ℕ) → place ≤ length t → Refused t place
  refuse place h = record { place_in = h; place_most = omega arith }

  module _ (capacity count script at : ℕ) (replies : List ℕ) (capacity_within : capacity ≤ capacity_most) (count_most : count ≤ script_most) (script_in : script ≤ length t) (r : Replies t count script replies at) where
    calls_of_good : (n stock calls first : ℕ) → stock_of t kind at ≡ found n stock → calls ≤ calls_most → first ≤ length t → GoodSession t (calls_of t (record { kind = kind; capacity = capacity; replies = count; script = script; stock = stock; length = n; count = calls; first = first }) replies)
    unfolding calls_of
    calls_of_good n stock calls first e k h =
        all_holds (GoodSession t) (calls_from t kind calls first) fault _ (λ p q. refuse p (calls_fault_in t kind calls first p q h))
        (λ all end q.
        pick_holds (GoodSession t) (ltb end (length t)) _ _ (λ s. refuse end ((calls_are t kind calls first all end q).ends h))
        (λ s.
        let w = stock_part t kind at n stock e in
        let c = calls_are t kind calls first all end q in
        let whole : end ≡ length t = omega (arith, ltb-false end (length t) s, c.ends h) in
        record {
          short = short;
          kind_most = kind_most;
          capacity_within = capacity_within;
          replies_most = count_most;
          script_in = script_in;
          replies_these = r.these;
          replies_count = r.are;
          words = r.words;
          stock_is = refl;
          stock_in = w.ends (length t) (omega arith) (r.ends script_in);
          stock_most = w.most;
          stock_none = w.none;
          count_most = k;
          first_in = h;
          calls_count = c.are;
          fit = c.fit;
          from = q ∙ ap (λ (x : ℕ). listed all x) whole;
        }))

    stock_good : GoodSession t (stock_at t kind capacity count script replies at)
    unfolding stock_at count_at
    stock_good =
        after_holds (GoodSession t) (stock_of t kind at) fault _ (λ p q. refuse p (stock_fault_in t kind at p q (r.ends script_in)))
        (λ n stock e.
        after_holds (GoodSession t) (number_most t (stock + n) calls_most) fault _ (λ p q. refuse p (fault_in t (stock + n) calls_most p q ((stock_part t kind at n stock e).ends (length t) (omega arith) (r.ends script_in))))
        (λ calls first q. calls_of_good n stock calls first e (most_value t (stock + n) calls_most calls first q).1 (most_places t (stock + n) calls_most calls first q).1))

  capacity_good : (at : ℕ) → at ≤ length t → GoodSession t (capacity_at t kind at)
  unfolding capacity_at replies_at script_at
  capacity_good at h =
      after_holds (GoodSession t) (number_most t at capacity_most) fault _ (λ p q. refuse p (fault_in t at capacity_most p q h))
      (λ capacity next e.
      after_holds (GoodSession t) (number_most t next script_most) fault _ (λ p q. refuse p (fault_in t next script_most p q (most_places t at capacity_most capacity next e).1))
      (λ count script q.
      all_holds (GoodSession t) (replies_from t count script) fault _ (λ p l. refuse p (replies_fault_in t count script p l (most_places t next script_most count script q).1))
      (λ replies end l. stock_good capacity count script end replies (most_value t at capacity_most capacity next e).1 (most_value t next script_most count script q).1 (most_places t next script_most count script q).1 (replies_are t count script replies end l))))

session_good : (t : List ℕ) → GoodSession t (session_of t)
unfolding session_of
session_good t =
    pick_holds (GoodSession t) (ltb session_most (length t)) _ _ (λ s. record { place_in = omega (arith, ltb-true session_most (length t) s); place_most = omega arith })
    (λ s.
    let short : length t ≤ session_most = ltb-false session_most (length t) s in
    after_holds (GoodSession t) (number_most t 0 3) fault _ (λ p q. record { place_in = fault_in t 0 3 p q (omega arith); place_most = omega (arith, fault_in t 0 3 p q (omega arith)) })
    (λ kind next e.
    pick_holds (GoodSession t) (eqb kind 3) _ _
    (λ k. record { short = short; start_in = (most_places t 0 3 kind next e).1; is = refl })
    (λ k. capacity_good t short kind (omega (arith, eqb-false kind 3 k, (most_value t 0 3 kind next e).1)) next (most_places t 0 3 kind next e).1)))

pub whole : (t : List ℕ) (header : Header) (replies stock : List ℕ) (calls : List Asked) → session_of t ≡ session header replies stock calls → Whole t header replies stock calls
whole t header replies stock calls e = rw e at (session_good t)

pub refused_in : (t : List ℕ) (place : ℕ) → session_of t ≡ fault place → Refused t place
refused_in t place e = rw e at (session_good t)

-- the same of kind 3
pub record HeldTrace (p : Parsed) (start : ℕ) : Type 0 where
  pub trace : List ℕ
  pub is : p ≡ traced start trace

pub held_trace : (p : Parsed) (start : ℕ) → Ok (Traced start) ≡ checked p → HeldTrace p start
held_trace (fault place) start e = absurd (cc)
held_trace (traced s trace) start e =
    let q : s ≡ start = cc in
    record { trace = trace; is = ap (λ (x : ℕ). traced x trace) q }
held_trace (session h replies stock calls) start e = absurd (cc)

pub whole_trace : (t : List ℕ) (start : ℕ) (trace : List ℕ) → session_of t ≡ traced start trace → Trace t start trace
whole_trace t start trace e = rw e at (session_good t)

-- A walk over the calls
module _ (t : List ℕ) (kind left at : ℕ) (calls : List Asked) (end : ℕ) (e : calls_from t kind left at ≡ listed calls end) where
  -- While calls are left, the next one is read without a fault, it stands in front, and the rest is read from its next place
  pub next : (call : Call) (place : ℕ) → call_at t kind at ≡ found call place → 0 < left → Next (calls_from t kind) calls end left place (asked t call)
  next call place q h = next_of (calls_from t kind) calls end left at place (asked t call) e (call_next t kind left at call place q h)

  pub no_fault : (f : Fault) → call_at t kind at ≡ Err f → 0 < left → ⊥
  no_fault f q h = let stops = call_fault t kind left at f q h in cc

  -- at the end there are no calls left, and the place is the end
  pub last : left ≤ 0 → (calls ≡ []) × (at ≡ end)
  last h = ends (sym (call_none t kind left at h) ∙ e)
    where
      ends : listed [] at ≡ listed calls end → (calls ≡ []) × (at ≡ end)
      ends s = (cc, cc)
