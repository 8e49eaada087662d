-- Runs over the calls of a trace: what explains a trace goes by the table, and what goes by the table can be explained.
-- Assumes nothing.
use mathlib.Core.Path.{◌≡◌, refl, sym, ap, ap₂, ◌∙◌, subst}
use mathlib.Core.Bool.{Bool, true, false}
use mathlib.Core.List.{List, [], ◌∷◌, ◌++◌, append_assoc, append-nil}
use Prim.Native.Nat.{ℕ, ◌+◌, ◌-◌, ◌≤◌, ◌<◌, ◌^◌}
use native.Mathlib.Omega.{arith}
use lib.ListN.{length, take, replicate, length-append, length-take, length-replicate}
use lib.Seq.{take_at, length-take-le}
use Rattle.card.specs.Answers.{Said, error}
use Rattle.flushing.specs.World.{World, begun, replies, new}
use Rattle.writer.specs.Writer.{write, flush}
use Rattle.ledger.specs.Ledger.{accepted, ledger}
use Rattle.ledger.proofs.Moves.{In, Moved, moved_in}
use Rattle.ledger.proofs.Ledgers.{begun_fit, from_begun, write_moved, flush_moved}
use Rattle.trace.specs.declared.Claim.{Claim}
use Rattle.trace.specs.Claims.{claimed}
use Rattle.trace.specs.Calls.{Told, wrote, flushed, written}
use Rattle.trace.proofs.Within.{Fair}
use Rattle.trace.proofs.Rests.{FairSaid, FairTold, AllFair}
use Rattle.judge.specs.Judge.{called_by, claim, Explains, Numbers, Possible}
use Rattle.judge.specs.Table.{Direct, Synced, Stopped, WriteStep, FlushStep, Step, Reach, piece, pieces, Left, Goes}
use Rattle.judge.proofs.Only.{only_write, only_flush}
use Rattle.judge.proofs.Can.{sends, direct_reply, synced_reply, stopped_reply, write_replies, flush_replies, Claimable, Ran, can_write, can_flush}

-- ---- one call

pub call_moved : (script : List ℕ) (w : World) (call : Told) → In script w → (called_by script w call).answer ≡ claim call → Moved script w (called_by script w call).world (piece call)
call_moved script w (wrote s said) i e =
    subst (λ (a : Said). Moved script w (write script (begun w) s).world (accepted s a)) e (from_begun script w _ _ (write_moved script (begun w) s (begun_fit script w i)))
call_moved script w (flushed said) i e = from_begun script w _ _ (flush_moved script (begun w) (begun_fit script w i))

call_only : (script : List ℕ) (w : World) (call : Told) → In script w → (called_by script w call).answer ≡ claim call → Step (length w.storage) w.held call (called_by script w call).world.held
call_only script w (wrote s said) i e =
    subst (λ (a : Said). WriteStep (length w.storage) w.held (length s) a (write script (begun w) s).world.held) e (only_write script (begun w) s (begun_fit script w i))
call_only script w (flushed said) i e =
    subst (λ (a : Said). FlushStep w.held a (flush script (begun w)).world.held) e (only_flush script (begun w) (begun_fit script w i))

-- ---- the ledger's length, and the card in it

pub ledger_long : (script : List ℕ) (w : World) → In script w → length (ledger w) ≡ w.out + w.held
ledger_long script w i =
    length-append (take w.out w.medium) (take w.held w.storage)
    ∙ ap₂ (λ (a b : ℕ). a + b) (length-take-le w.out w.medium i.out) (length-take-le w.held w.storage i.held)

-- the medium's bytes are the ledger without what is held
medium_left : (script : List ℕ) (w : World) → In script w → take (length (ledger w) - w.held) (ledger w) ≡ take w.out w.medium
medium_left script w i =
    let long = ledger_long script w i in
    let less : length (ledger w) - w.held ≡ w.out = omega arith in
    rw less (take_at (take w.out w.medium) (take w.held w.storage) w.out (length-take-le w.out w.medium i.out))

-- ---- what explains a trace goes by the table

pub explained : (script : List ℕ) (w : World) (calls : List Told) (card : List ℕ) (C : ℕ) → length w.storage ≡ C → In script w → Explains script w calls card → Goes C w.held calls (ledger w ++ pieces calls) card
unfolding Explains Reach pieces
explained script w [] card C pc i x =
    let long = ledger_long script w i in
    record {
      end = w.held;
      reach = refl;
      left =
          subst (λ (l : List ℕ). Left w.held l card) (sym (append-nil (ledger w)))
          (record { fits = omega arith; is = sym x ∙ sym (medium_left script w i) });
    }
explained script w (call ∷ calls) card C pc i x =
    let v = (called_by script w call).world in
    let m = call_moved script w call i x.0 in
    let st = call_only script w call i x.0 in
    let g = explained script v calls card C (m.storage_long ∙ pc) (moved_in script w v (piece call) m) x.1 in
    let same : ledger v ++ pieces calls ≡ ledger w ++ (piece call ++ pieces calls) = ap (λ (l : List ℕ). l ++ pieces calls) m.bytes ∙ append_assoc (ledger w) (piece call) (pieces calls) in
    record {
      end = g.end;
      reach = (v.held, (subst (λ (k : ℕ). Step k w.held call v.held) pc st, g.reach));
      left = subst (λ (l : List ℕ). Left g.end l card) same g.left;
    }

-- ---- what goes by the table can be explained

-- the replies of one step, and of a run
abbrev pub step_replies : (C h : ℕ) (call : Told) (h' : ℕ) → Step C h call h' → List ℕ
step_replies C h (wrote s said) h' st = write_replies st
step_replies C h (flushed said) h' st = flush_replies st

unfoldable pub script_for : (C h : ℕ) (calls : List Told) (e : ℕ) → Reach C h calls e → List ℕ
unfolding Reach
script_for C h [] e r = []
script_for C h (call ∷ calls) e r = step_replies C h call r.0 r.1.0 ++ script_for C r.0 calls e r.1.1

-- a claim that a trace can make has a code that a card can send
claimable : (flush? : Bool) (said : Said) → FairSaid flush? said → Claimable said
unfolding Claimable
claimable flush? said f code e = by f.claim f.fair (sym e ∙ f.is)
  where
    by : (c : Claim) → Fair flush? c → error code ≡ claimed c → (0 < code) × (code ≤ 4294901759)
    by c f q = grind arith

-- no step leaves more than the capacity
step_most : (C h : ℕ) (call : Told) (h' : ℕ) → h ≤ C → Step C h call h' → h' ≤ C
step_most C h call h' k s = grind arith

-- an accepted prefix is no longer than the slice
accepted_most : (s : List ℕ) (a : Said) → length (accepted s a) ≤ length s
accepted_most s a = grind (arith, length-take)

pub piece_most : (call : Told) (calls : List Told) → length (piece call) + written calls ≤ written (call ∷ calls)
unfolding written
piece_most (wrote s said) calls = omega (arith, accepted_most s said)
piece_most (flushed said) calls = omega arith

-- what a world needs for the calls that are left
pub record Ready (script : List ℕ) (w : World) (C h : ℕ) (calls : List Told) (left : List ℕ) : Type 0 where
  pub held_is : w.held ≡ h
  pub capacity_is : length w.storage ≡ C
  pub inside : In script w
  pub replies_are : replies script w ≡ left
  pub roomy : w.out + w.held + written calls ≤ length w.medium
  pub short : written calls ≤ 16384
  pub small : C ≤ 1024

written_first : (s : List ℕ) (said : Said) (calls : List Told) → written (wrote s said ∷ calls) ≡ length s + written calls
unfolding written
written_first s said calls = refl

-- the call on its replies, from the world's own numbers
call_here : (script : List ℕ) (w : World) (h' : ℕ) (call : Told) (calls : List Told) (later : List ℕ) → FairTold call → In script w → w.out + w.held + written (call ∷ calls) ≤ length w.medium → written (call ∷ calls) ≤ 16384 → length w.storage ≤ 1024 → (st : Step (length w.storage) w.held call h') → replies script w ≡ step_replies (length w.storage) w.held call h' st ++ later → Ran script (called_by script w call) (claim call) h' later
call_here script w h' (wrote s said) calls later f i roomy short small st e =
    let many = written_first s said calls in
    can_write script later (begun w) s said h' (begun_fit script w i) (claimable false said f) (omega (arith, i.held)) (omega arith) (omega (arith, i.out)) st e
call_here script w h' (flushed said) calls later f i roomy short small st e =
    can_flush script later (begun w) said h' (begun_fit script w i) (claimable true said f) (omega (arith, i.held)) (omega (arith, i.out)) st e

call_can : (script : List ℕ) (w : World) (C h h' : ℕ) (call : Told) (calls : List Told) (later : List ℕ) (st : Step C h call h') → FairTold call → Ready script w C h (call ∷ calls) (step_replies C h call h' st ++ later) → Ran script (called_by script w call) (claim call) h' later
call_can script w C h h' call calls later st f r =
    let here = call_here script w h' call calls later f r.inside r.roomy r.short (omega (arith, r.capacity_is, r.small)) in
    let at_held = subst (λ (k : ℕ). (x : Step (length w.storage) k call h') → replies script w ≡ step_replies (length w.storage) k call h' x ++ later → Ran script (called_by script w call) (claim call) h' later) r.held_is here in
    subst (λ (k : ℕ). (x : Step k h call h') → replies script w ≡ step_replies k h call h' x ++ later → Ran script (called_by script w call) (claim call) h' later) r.capacity_is at_held st r.replies_are

-- what a card is left with at the end
ends_left : (script : List ℕ) (w : World) (h e : ℕ) (card : List ℕ) → In script w → w.held ≡ h → h ≡ e → Left e (ledger w ++ []) card → take w.out w.medium ≡ card
ends_left script w h e card i p q l =
    let here : Left e (ledger w) card = subst (λ (x : List ℕ). Left e x card) (append-nil (ledger w)) l in
    let same : card ≡ take (length (ledger w) - w.held) (ledger w) = here.is ∙ ap (λ (k : ℕ). take (length (ledger w) - k) (ledger w)) (sym (p ∙ q)) in
    sym (same ∙ medium_left script w i)

pub explains : (script : List ℕ) (w : World) (C h : ℕ) (calls : List Told) (card : List ℕ) (e : ℕ) (r : Reach C h calls e) → AllFair calls → Ready script w C h calls (script_for C h calls e r) → Left e (ledger w ++ pieces calls) card → Explains script w calls card
unfolding Explains Reach pieces script_for
explains script w C h [] card e r f d l = ends_left script w h e card d.inside d.held_is r l
explains script w C h (call ∷ calls) card e r f d l =
    let v = (called_by script w call).world in
    let ran = call_can script w C h r.0 call calls (script_for C r.0 calls e r.1.1) r.1.0 f.0 d in
    let m = call_moved script w call d.inside ran.answer in
    let v-in = moved_in script w v (piece call) m in
    let same : ledger w ++ (piece call ++ pieces calls) ≡ ledger v ++ pieces calls = sym (append_assoc (ledger w) (piece call) (pieces calls)) ∙ ap (λ (x : List ℕ). x ++ pieces calls) (sym m.bytes) in
    let grown : v.out + v.held ≡ w.out + w.held + length (piece call) = sym (ledger_long script v v-in) ∙ ap length m.bytes ∙ length-append (ledger w) (piece call) ∙ ap (λ (k : ℕ). k + length (piece call)) (ledger_long script w d.inside) in
    let few = piece_most call calls in (
      ran.answer,
      explains script v C r.0 calls card e r.1.1 f.1
          (record {
            held_is = ran.held;
            capacity_is = m.storage_long ∙ d.capacity_is;
            inside = v-in;
            replies_are = ran.left;
            roomy = omega (arith, grown, few, d.roomy, m.medium_long);
            short = omega (arith, few, d.short);
            small = d.small;
          })
          (subst (λ (x : List ℕ). Left e x card) same l),
    )

-- ---- the replies are numbers of a script

numbers_append : (a b : List ℕ) → Numbers a → Numbers b → Numbers (a ++ b)
unfolding Numbers
numbers_append [] b x y = y
numbers_append (n ∷ a) b x y = (x.0, numbers_append a b x.1 y)

numbers_sends : (k : ℕ) → k ≤ 1024 → Numbers (sends k)
unfolding Numbers
numbers_sends k h = grind arith

numbers_one : (n : ℕ) → n < 2 ^ 32 → Numbers (n ∷ [])
unfolding Numbers
numbers_one n h = (h, tt)

direct_number : (n : ℕ) (said : Said) (d : Direct n said) → Claimable said → n ≤ 16384 → direct_reply d < 2 ^ 32
unfolding direct_reply Claimable
direct_number n said d c l = grind arith

synced_number : (said : Said) (d : Synced said) → Claimable said → synced_reply d < 2 ^ 32
unfolding synced_reply Claimable
synced_number said d c = grind arith

stopped_number : (said : Said) (d : Stopped said) → Claimable said → stopped_reply d < 2 ^ 32
unfolding stopped_reply Claimable
stopped_number said d c = grind arith

step_numbers : (C h : ℕ) (call : Told) (calls : List Told) (h' : ℕ) (st : Step C h call h') → FairTold call → C ≤ 1024 → h ≤ C → written (call ∷ calls) ≤ 16384 → Numbers (step_replies C h call h' st)
unfolding write_replies flush_replies Numbers
step_numbers C h (wrote s said) calls h' (WriteStep.stored a b c d) f small hc short = tt
step_numbers C h (wrote s said) calls h' (WriteStep.refilled a b c d) f small hc short = numbers_sends h (omega arith)
step_numbers C h (wrote s said) calls h' (WriteStep.direct a d c) f small hc short =
    let many = written_first s said calls in
    numbers_append (sends h) (direct_reply d ∷ []) (numbers_sends h (omega arith)) (numbers_one (direct_reply d) (direct_number (length s) said d (claimable false said f) (omega arith)))
step_numbers C h (wrote s said) calls h' (WriteStep.stopped a d lo hi) f small hc short =
    numbers_append (sends (h - h')) (stopped_reply d ∷ []) (numbers_sends (h - h') (omega arith)) (numbers_one (stopped_reply d) (stopped_number said d (claimable false said f)))
step_numbers C h (flushed said) calls h' (FlushStep.emptied d c) f small hc short =
    numbers_append (sends h) (synced_reply d ∷ []) (numbers_sends h (omega arith)) (numbers_one (synced_reply d) (synced_number said d (claimable true said f)))
step_numbers C h (flushed said) calls h' (FlushStep.stopped d lo hi) f small hc short =
    numbers_append (sends (h - h')) (stopped_reply d ∷ []) (numbers_sends (h - h') (omega arith)) (numbers_one (stopped_reply d) (stopped_number said d (claimable true said f)))

script_numbers : (C h : ℕ) (calls : List Told) (e : ℕ) (r : Reach C h calls e) → AllFair calls → C ≤ 1024 → h ≤ C → written calls ≤ 16384 → Numbers (script_for C h calls e r)
unfolding Reach script_for Numbers
script_numbers C h [] e r f small hc short = tt
script_numbers C h (call ∷ calls) e r f small hc short =
    let few = piece_most call calls in
    numbers_append (step_replies C h call r.0 r.1.0) (script_for C r.0 calls e r.1.1) (step_numbers C h call calls r.0 r.1.0 f.0 small hc short)
    (script_numbers C r.0 calls e r.1.1 f.1 small (step_most C h call r.0 hc r.1.0) (omega arith))

-- ---- the theorem: possible exactly when the table leads to a held count at which the card is what is left

pub possible_goes : (C : ℕ) (calls : List Told) (card : List ℕ) → Possible C calls card → Goes C 0 calls (pieces calls) card
possible_goes C calls card p =
    explained p.script (new (replicate C 0) p.medium) calls card C (length-replicate C 0) (record { held = omega arith; out = omega arith; used = omega arith }) p.explains

pub goes_possible : (C : ℕ) (calls : List Told) (card : List ℕ) → AllFair calls → C ≤ 1024 → written calls ≤ 16384 → Goes C 0 calls (pieces calls) card → Possible C calls card
goes_possible C calls card f small short g =
    let script = script_for C 0 calls g.end g.reach in
    let medium : List ℕ = replicate (written calls) 0 in
    let long : length medium ≡ written calls = length-replicate (written calls) 0 in
    record {
      script = script;
      medium = medium;
      numbers = script_numbers C 0 calls g.end g.reach f small (omega arith) short;
      room = omega (arith, long);
      explains =
          explains script (new (replicate C 0) medium) C 0 calls card g.end g.reach f
          (record {
            held_is = refl;
            capacity_is = length-replicate C 0;
            inside = record { held = omega arith; out = omega arith; used = omega arith };
            replies_are = refl;
            roomy = omega (arith, long);
            short = short;
            small = small;
          })
          g.left;
    }
