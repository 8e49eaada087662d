-- The two walks over a trace's calls: the held counts that the table leads to, and the card against the answered bytes.
-- Assumes nothing.
use mathlib.Core.Path.{◌≡◌, refl, sym, ap, ap₂, ◌∙◌, subst}
use mathlib.Core.Logic.{◌↔◌}
use mathlib.Core.Bool.{Bool, true, false}
use mathlib.Core.List.{List, [], ◌∷◌, ◌++◌}
use Prim.Native.Nat.{ℕ, ◌+◌, ◌-◌, ◌≤◌, ◌<◌, min}
use native.Mathlib.Decide.{dec_le}
use native.Mathlib.Nat.{sub-zero}
use native.Mathlib.Omega.{arith}
use lib.ListN.{length, take, drop, length-append, length-take, length-drop, take-append-drop, drop_of_length-le}
use lib.Seq.{take_all, take-append-le, take-append-add, take_at, drop_at, take-take, length-take-le, take-nil}
use lib.Dec.{eqb}
use Rattle.std.specs.Prelude.{Option, Some, None, Ok, Err}
use Rattle.std.specs.Bool.{then_some}
use Rattle.std.specs.Bool.{Decides}
use Rattle.std.specs.List.{starts_with}
use Rattle.std.proofs.lemmas.Bool.Decides.{Decides-eqb}
use Rattle.std.proofs.lemmas.Slice.Eq.{slice_eq-Decides}
use Rattle.std.proofs.lemmas.List.{nil_from_length, take_rest}
use Rattle.std.proofs.lemmas.Bool.{eqb-true, eqb-false}
use Rattle.numbers.specs.declared.Fault.{Fault}
use Rattle.trace.specs.declared.TracedCall.{TracedCall}
use Rattle.trace.specs.declared.Header.{Header}
use Rattle.trace.specs.Calls.{Told, told, call_at}
use Rattle.trace.specs.Trace.{Parsed, trace, calls_from}
use Rattle.trace.proofs.Within.{within}
use Rattle.trace.proofs.Rests.{rest, next, no_fault, last}
use Rattle.judge.specs.Table.{Step, Reach, piece, pieces}
use Rattle.judge.specs.Flags.{Has, StepOf, Turned, Reached, OfTrace, answers, Comparison}

-- what the definition reads from a place on, with so many calls gone over
abbrev pub ahead : List ℕ → Header → ℕ → ℕ → ℕ → Parsed
ahead t h gone total at = calls_from t h.capacity h.count h.first (h.count - gone) total at

pub begun : (t : List ℕ) (h : Header) → ahead t h 0 0 h.first ≡ calls_from t h.capacity h.count h.first h.count 0 h.first
begun t h = ap (λ (n : ℕ). calls_from t h.capacity h.count h.first n 0 h.first) (sub-zero h.count)

-- its next call, its end, and the card
module _ (t : List ℕ) (h : Header) (gone total at : ℕ) (calls : List Told) (card : List ℕ) (e : ahead t h gone total at ≡ trace h calls card) where
  pub record Next (call : TracedCall) : Type 0 where
    pub later : List Told
    pub front : calls ≡ told t call ∷ later
    pub goes : ahead t h (gone + 1) (total + call.length) call.next ≡ trace h later card

  next_call : (call : TracedCall) → call_at t total at ≡ Ok call → gone < h.count → Next call
  next_call call q lt =
      let n = next t h.capacity h.count h.first (h.count - gone) total at h calls card e call q (omega arith) in
      let less : h.count - (gone + 1) ≡ h.count - gone - 1 = omega arith in
      record { later = n.later; front = n.front; goes = ap (λ (k : ℕ). calls_from t h.capacity h.count h.first k (total + call.length) call.next) less ∙ n.goes }

  none_left : h.count ≤ gone → calls ≡ []
  none_left z = last t h.capacity h.count h.first (h.count - gone) total at h calls card e (omega arith)

  never_stops : (f : Fault) → call_at t total at ≡ Err f → gone < h.count → ⊥
  never_stops f q lt = no_fault t h.capacity h.count h.first (h.count - gone) total at h calls card e f q (omega arith)

  card_is : card ≡ take h.length (drop h.card t)
  card_is = (rest t h.capacity h.count h.first (h.count - gone) total at h calls card e).card_is

  pub card_long : length card ≡ h.length
  card_long =
      let r = rest t h.capacity h.count h.first (h.count - gone) total at h calls card e in
      rw r.card_is (length-take-le h.length (drop h.card t) (rw (length-drop h.card t) (omega (arith, r.card_ends))))

-- ---- the held counts

-- some flag leads through these calls to e
pub record From (C : ℕ) (flags : List Bool) (calls : List Told) (e : ℕ) : Type 0 where
  pub held : ℕ
  pub set : Has flags held
  pub reach : Reach C held calls e

pub record Here (t : List ℕ) (h : Header) (gone total at : ℕ) (flags : List Bool) (calls : List Told) (card : List ℕ) : Type 0 where
  pub rest : List Told
  pub is : ahead t h gone total at ≡ trace h rest card
  pub same : (e : ℕ) → From h.capacity flags rest e ↔ Reach h.capacity 0 calls e

pub record Inv (t : List ℕ) (h : Header) (gone total at C : ℕ) (flags : List Bool) : Type 0 where
  pub few : total ≤ 16384
  pub same : C ≡ h.capacity
  pub here : OfTrace t h (Here t h gone total at flags)

-- a call's step in the trace, and by its numbers
step_told : (t : List ℕ) (C h k : ℕ) (call : TracedCall) → call.start + call.length ≤ length t → StepOf C h call k ↔ Step C h (told t call) k
step_told t C h k call p = grind (arith, length-take, length-drop)

module _ (t : List ℕ) (h : Header) where
  pub begins : (C : ℕ) (flags : List Bool) → C ≡ h.capacity → ((k : ℕ) → Has flags k ↔ (k ≡ 0)) → Inv t h 0 0 h.first C flags
  begins C flags same none =
      record {
        few = omega arith;
        same = same;
        here = λ calls card e.
            record {
              rest = calls;
              is = begun t h ∙ e;
              same = λ k. (
                (λ f. subst (λ (n : ℕ). Reach h.capacity n calls k) ((none f.held).0 f.set) f.reach),
                (λ r. record { held = 0; set = (none 0).1 refl; reach = r }),
              );
            };
      }

  module _ (gone total at : ℕ) where
    pub again : (C D : ℕ) (flags new : List Bool) (call : TracedCall) → Inv t h gone total at C flags → call_at t total at ≡ Ok call → D ≡ C → Turned C call flags new → gone < h.count → Inv t h (gone + 1) (total + call.length) call.next D new
    unfolding Reach
    again C D flags new call i q d turns lt =
        let w = within t total at call q in
        let tu = subst (λ (k : ℕ). Turned k call flags new) i.same turns in
        record {
          few = omega (arith, i.few, w.room);
          same = d ∙ i.same;
          here = λ calls card e.
              let x = i.here calls card e in
              let n = next_call t h gone total at x.rest card x.is call q lt in
              record {
                rest = n.later;
                is = n.goes;
                same = λ k. (
                  (λ f.
                      let lead = (tu.at f.held).0 f.set in
                      (x.same k).0
                      (record {
                        held = lead.from;
                        set = lead.set;
                        reach = subst (λ (l : List Told). Reach h.capacity lead.from l k) (sym n.front) (f.held, ((step_told t h.capacity lead.from f.held call w.part).0 lead.step, f.reach));
                      })),
                  (λ r.
                      let f = (x.same k).1 r in
                      let go : (h' : ℕ) × (Step h.capacity f.held (told t call) h' × Reach h.capacity h' n.later k) = subst (λ (l : List Told). Reach h.capacity f.held l k) n.front f.reach in
                      record {
                        held = go.0;
                        set = (tu.at go.0).1 (record { from = f.held; set = f.set; step = (step_told t h.capacity f.held go.0 call w.part).1 go.1.0 });
                        reach = go.1.1;
                      }),
                );
              };
        }

    pub ends : (C : ℕ) (flags : List Bool) → Inv t h gone total at C flags → h.count ≤ gone → OfTrace t h (λ calls card. Reached h.capacity calls flags)
    unfolding Reach
    ends C flags i z calls card e =
        let x = i.here calls card e in
        let none = none_left t h gone total at x.rest card x.is z in
        record {
          at = λ k. (
            (λ s. (x.same k).0 (record { held = k; set = s; reach = subst (λ (l : List Told). Reach h.capacity k l k) (sym none) refl })),
            (λ r.
                let f = (x.same k).1 r in
                let q : f.held ≡ k = subst (λ (l : List Told). Reach h.capacity f.held l k) none f.reach in
                subst (λ (j : ℕ). Has flags j) q f.set),
          );
        }

    pub never : (e : Fault) (C : ℕ) (flags : List Bool) (P : List Told → List ℕ → Type 0) → Inv t h gone total at C flags → call_at t total at ≡ Err e → gone < h.count → OfTrace t h P
    never f C flags P i q lt calls card e =
        let x = i.here calls card e in
        absurd (never_stops t h gone total at x.rest card x.is f q lt)

pub call_short : (t : List ℕ) (total at : ℕ) (call : TracedCall) → call_at t total at ≡ Ok call → total ≤ 16384 → total + call.length ≤ 16384
call_short t total at call q f = omega (arith, (within t total at call q).room)

-- ---- the card against the answered bytes

-- `left` is what of the card has not been met: the card begins what the calls answer for when this begins what the rest does
pub record HereBytes (t : List ℕ) (h : Header) (gone total at : ℕ) (left : List ℕ) (answered : ℕ) (calls : List Told) (card : List ℕ) : Type 0 where
  pub rest : List Told
  pub is : ahead t h gone total at ≡ trace h rest card
  pub sum : answered + length (pieces rest) ≡ length (pieces calls)
  pub same : (card ≡ take (length card) (pieces calls)) ↔ (left ≡ take (length left) (pieces rest))

pub record InvBytes (t : List ℕ) (h : Header) (gone total at : ℕ) (left : List ℕ) (answered : ℕ) : Type 0 where
  pub few : total ≤ 16384
  pub less : answered ≤ total
  pub here : OfTrace t h (HereBytes t h gone total at left answered)

pub bytes_begin : (t : List ℕ) (h : Header) → InvBytes t h 0 0 h.first (take (h.card + h.length - h.card) (drop h.card t)) 0
bytes_begin t h =
    record {
      few = omega arith;
      less = omega arith;
      here = λ calls card e.
          let long : h.card + h.length - h.card ≡ h.length = omega arith in
          let whole : take (h.card + h.length - h.card) (drop h.card t) ≡ card = ap (λ (k : ℕ). take k (drop h.card t)) long ∙ sym (card_is t h 0 0 h.first calls card (begun t h ∙ e)) in
          record { rest = calls; is = begun t h ∙ e; sum = omega arith; same = rw whole ((λ x. x), (λ x. x)) };
    }

-- a list in two parts is another in two parts of the same lengths exactly when the parts are equal
two_parts : (a b c d : List ℕ) → length a ≡ length c → (a ++ b ≡ c ++ d) ↔ ((a ≡ c) × (b ≡ d))
two_parts a b c d l = grind (arith, take_at a b (length c) l, take_at c d (length c) refl, drop_at a b (length c) l, drop_at c d (length c) refl)

-- one piece more: as much of it as the card still has must be on the card
piece_agrees : (c p q : List ℕ) (m : ℕ) → m ≡ min (length p) (length c) → (c ≡ take (length c) (p ++ q)) ↔ ((take m c ≡ take m p) × (drop m c ≡ take (length c - m) q))
piece_agrees c p q m e = by (dec_le (length p) (length c))
  where
    by : Dec (length p ≤ length c) → (c ≡ take (length c) (p ++ q)) ↔ ((take m c ≡ take m p) × (drop m c ≡ take (length c - m) q))
    by (yes h) =
        let front = take-append-add p q (length c - length p) in
        let both = two_parts (take m c) (drop m c) p (take (length c - length p) q) (length-take-le m c (omega arith) ∙ omega arith) in
        grind (arith, take_all m p (omega arith), take-append-drop m c)
    by (no h) = grind (arith, take_all m c (omega arith), take-append-le (length c) p q (omega arith), drop_of_length-le c {i = m} (omega arith))

-- the piece of a call: how long it is, and where it stands in the trace
module _ (t : List ℕ) (call : TracedCall) (part : call.start + call.length ≤ length t) where
  pub piece_long : length (piece (told t call)) ≡ answers call
  piece_long = grind (arith, length-take, length-drop)

  pub piece_stands : (m : ℕ) → m ≤ answers call → take m (piece (told t call)) ≡ take m (drop call.start t)
  piece_stands m h = grind (arith, take-take, take-nil)

answers_most : (call : TracedCall) → answers call ≤ call.length
answers_most call = grind arith

-- a call that is read, of whose claimed bytes the first m are compared with what is left of the card
pub record Met (t : List ℕ) (h : Header) (gone total at : ℕ) (left : List ℕ) (answered : ℕ) (call : TracedCall) (taken m : ℕ) : Type 0 where
  pub walked : InvBytes t h gone total at left answered
  pub reads : call_at t total at ≡ Ok call
  pub taken_is : taken ≡ answers call
  pub most : m ≡ min taken (length left)

module _ {t : List ℕ} {h : Header} {gone total at : ℕ} {left : List ℕ} {answered : ℕ} {call : TracedCall} {taken m : ℕ} (x : Met t h gone total at left answered call taken m) where
  pub record Fits : Type 0 where
    pub starts : call.start ≤ length t
    pub total_fits : total + call.length ≤ 16384
    pub answered_fits : answered + taken ≤ total + call.length

  pub bytes_fit : Fits
  bytes_fit =
      let w = within t total at call x.reads in
      let a = answers_most call in
      record { starts = omega (arith, w.part); total_fits = omega (arith, x.walked.few, w.room); answered_fits = omega (arith, x.walked.less, x.taken_is) }

  -- what the comparison of this call decides
  decides : (calls : List Told) (card : List ℕ) (y : HereBytes t h gone total at left answered calls card) (n : List Told) → y.rest ≡ told t call ∷ n → (card ≡ take (length card) (pieces calls)) ↔ ((take m left ≡ take m (drop call.start t)) × (drop m left ≡ take (length (drop m left)) (pieces n)))
  unfolding pieces
  decides calls card y n front =
      let w = within t total at call x.reads in
      let p = piece (told t call) in
      let few : m ≤ answers call = omega (arith, x.most, x.taken_is) in
      let short : m ≡ min (length p) (length left) = x.most ∙ ap (λ (k : ℕ). min k (length left)) (x.taken_is ∙ sym (piece_long t call w.part)) in
      let agree = piece_agrees left p (pieces n) m short in
      let stands : take m p ≡ take m (drop call.start t) = piece_stands t call w.part m few in
      let rest_is : pieces y.rest ≡ p ++ pieces n = ap pieces front in
      rw (← stands, length-drop) (
        (λ e. agree.0 (y.same.0 e ∙ ap (λ (l : List ℕ). take (length left) l) rest_is)),
        (λ e. y.same.1 (agree.1 e ∙ ap (λ (l : List ℕ). take (length left) l) (sym rest_is))),
      )

  pub bytes_again : gone < h.count → take m left ≡ take m (drop call.start t) → InvBytes t h (gone + 1) (total + call.length) call.next (drop m left) (answered + taken)
  unfolding pieces
  bytes_again lt same_bytes =
      record {
        few = bytes_fit.total_fits;
        less = bytes_fit.answered_fits;
        here = λ calls card e.
            let w = within t total at call x.reads in
            let y = x.walked.here calls card e in
            let n = next_call t h gone total at y.rest card y.is call x.reads lt in
            let d = decides calls card y n.later n.front in
            let grown : length (pieces y.rest) ≡ length (piece (told t call)) + length (pieces n.later) = ap (λ (l : List Told). length (pieces l)) n.front ∙ length-append (piece (told t call)) (pieces n.later) in
            record {
              rest = n.later;
              is = n.goes;
              sum = omega (arith, y.sum, grown, x.taken_is, piece_long t call w.part);
              same = ((λ z. (d.0 z).1), (λ z. d.1 (same_bytes, z)));
            };
      }

  pub bytes_differ : gone < h.count → (take m left ≡ take m (drop call.start t) → ⊥) → OfTrace t h (Comparison None)
  bytes_differ lt other calls card e z =
      let y = x.walked.here calls card e in
      let n = next_call t h gone total at y.rest card y.is call x.reads lt in
      other ((decides calls card y n.later n.front).0 z).0

-- the end: the card is used up, or it is not
module _ (t : List ℕ) (h : Header) (gone total at : ℕ) (left : List ℕ) (answered : ℕ) (i : InvBytes t h gone total at left answered) (z : h.count ≤ gone) where
  bytes_end : length left ≡ 0 → OfTrace t h (Comparison (Some answered))
  unfolding pieces
  bytes_end e calls card p =
      let x = i.here calls card p in
      let no_pieces : pieces x.rest ≡ [] = ap pieces (none_left t h gone total at x.rest card x.is z) in (
        omega (arith, x.sum, ap length no_pieces),
        x.same.1 (nil_from_length left e ∙ sym (ap (λ (k : ℕ). take k (pieces x.rest)) e)),
      )

  bytes_short : (length left ≡ 0 → ⊥) → OfTrace t h (Comparison None)
  unfolding pieces
  bytes_short n calls card p y =
      let x = i.here calls card p in
      let no_pieces : pieces x.rest ≡ [] = ap pieces (none_left t h gone total at x.rest card x.is z) in
      n (ap length (x.same.0 y ∙ ap (λ (l : List ℕ). take (length left) l) no_pieces ∙ take-nil (length left)))

  pub bytes_ends : (b : Bool) (r : Option ℕ) → b ≡ eqb (length left) 0 → r ≡ then_some b answered → OfTrace t h (Comparison r)
  bytes_ends b r p e = subst (λ (o : Option ℕ). OfTrace t h (Comparison o)) (sym e) (by b p)
    where
      by : (b' : Bool) → b' ≡ eqb (length left) 0 → OfTrace t h (Comparison (then_some b' answered))
      by true q = bytes_end (eqb-true (length left) 0 (sym q))
      by false q = bytes_short (eqb-false (length left) 0 (sym q))

pub bytes_never : (t : List ℕ) (h : Header) (gone total at : ℕ) (left : List ℕ) (answered : ℕ) (e : Fault) (P : List Told → List ℕ → Type 0) → InvBytes t h gone total at left answered → call_at t total at ≡ Err e → gone < h.count → OfTrace t h P
bytes_never t h gone total at left answered f P i q lt calls card e =
    let x = i.here calls card e in
    absurd (never_stops t h gone total at x.rest card x.is f q lt)

-- what `starts_with` tells of the first m numbers
pub starts_same : (t part left : List ℕ) (start m : ℕ) (r : Bool) → r ≡ starts_with eqb (take (length t - start) (drop start t)) part → part ≡ take m left → m ≤ length left → Decides r (take m left ≡ take m (drop start t))
starts_same t part left start m r e p l =
    let long : length part ≡ m = ap length p ∙ length-take-le m left l in
    let same : take (length part) (take (length t - start) (drop start t)) ≡ take m (drop start t) = ap₂ (λ (k : ℕ) (s : List ℕ). take k s) long (take_rest t start) in
    let d = slice_eq-Decides Decides-eqb part (take (length part) (take (length t - start) (drop start t))) r e in
    ((λ q. sym p ∙ d.0 q ∙ same), (λ q. d.1 (p ∙ q ∙ sym same)))
