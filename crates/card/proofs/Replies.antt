-- The laws of one call of the device.
-- Assumes nothing.
use mathlib.Core.Path.{◌≡◌, refl, sym, ap, ◌∙◌}
use mathlib.Core.Bool.{true, false}
use mathlib.Core.List.{List, [], ◌∷◌}
use Prim.Native.Nat.{ℕ, ◌+◌, ◌-◌, ◌≤◌, ◌<◌, min}
use native.Mathlib.Nat.{add-zero}
use native.Mathlib.Omega.{arith}
use lib.ListN.{length, take, drop, get_or, length-drop, drop_of_length-le}
use lib.Seq.{drop-cons}
use lib.Dec.{ltb}
use borrow.Author.Tests.{le-leb, lt-leb, ne_eqb}
use Rattle.std.proofs.lemmas.Bool.{ltb-true, ltb-false}
use Rattle.std.proofs.lemmas.Grind.{get_or_default_zero}
use Rattle.laws.proofs.Parts.{rest, drop_least}
use Rattle.laws.specs.Put.{put}
use Rattle.std.specs.Prelude.{Ok, Err}
use Rattle.card.specs.declared.Exchange.{Exchange}
use Rattle.card.specs.declared.DeviceError.{DeviceError}
use Rattle.card.specs.Device.{Reply, accept, interrupted, error, reply_of, next, takes, at_most, moves, exchange}

-- past the script's end
pub at_end : (script : List ℕ) (used most : ℕ) → length script ≤ used → record { reply = error 0; used = used } ≡ exchange (drop used script) used most
unfolding exchange next takes at_most
at_end script used most h = rw (drop_of_length-le script h) (rw add-zero refl)

-- at a reply, cut to what can move
pub at_reply : (script : List ℕ) (used most : ℕ) (r k : Reply) → k ≡ at_most most r → r ≡ reply_of (get_or script used 0) → used < length script → record { reply = k; used = used + 1 } ≡ exchange (drop used script) used most
unfolding exchange next takes
at_reply script used most r k q e h = rw (drop-cons script used 0 h) (rw q (rw e refl))

-- the same of what a look at the script's place gave, if anything
pub past_end : (script : List ℕ) (used most : ℕ) → false ≡ ltb used (length script) → record { reply = error 0; used = used } ≡ exchange (drop used script) used most
past_end script used most h = at_end script used most (ltb-false used (length script) (sym h))

pub at_number : (script : List ℕ) (used most n : ℕ) (r k : Reply) → k ≡ at_most most r → r ≡ reply_of n → (true ≡ ltb used (length script)) × (n ≡ get_or script used n) → record { reply = k; used = used + 1 } ≡ exchange (drop used script) used most
at_number script used most n r k q e h =
    let inside : used < length script = ltb-true used (length script) (sym h.0) in
    at_reply script used most r k q (e ∙ ap reply_of (h.1 ∙ get_or_default_zero script used n inside)) inside

-- a number of the script by its three ranges
pub accepts : (n : ℕ) → n ≤ 65535 → accept n ≡ reply_of n
unfolding reply_of
accepts n h = simp (le-leb _ _ h)

pub pauses : (n : ℕ) → n ≡ 65536 → interrupted ≡ reply_of n
unfolding reply_of
pauses n e = rw e refl

pub fails : (n : ℕ) → 65536 < n → error (n - 65536) ≡ reply_of n
unfolding reply_of
fails n h =
    let above : 65535 < n = omega arith in
    let other : n ≡ 65536 → ⊥ = λ e. omega arith in
    simp (lt-leb _ _ above, ne_eqb _ _ other)

-- no more moves than can
pub moves_most : (most : ℕ) (r : Reply) → moves (at_most most r) ≤ most
unfolding at_most
moves_most most (Ok n) = omega arith
moves_most most (Err e) = omega arith

pub exchange_most : (left : List ℕ) (used most : ℕ) → moves (exchange left used most).reply ≤ most
unfolding exchange
exchange_most left used most = moves_most most (next left)

-- a call whose reply's bytes were pasted: what moves needs no cut to what can move
pub carried : (e : Exchange) (left : List ℕ) (used m n k c : ℕ) (x d : List ℕ) (at : ℕ) (s s' : List ℕ) → e ≡ exchange left used m → x ≡ put d at s (min k c) → k ≡ moves e.reply → m ≡ n → c ≡ n → s ≡ s' → (e ≡ exchange left used n) × (x ≡ put d at s' (moves e.reply))
carried e left used m n k c x d at s s' pe px pk pm pc ps =
    let h : moves e.reply ≤ m = rw pe (exchange_most left used m) in
    let q : min k c ≡ moves e.reply = omega arith in
    (rw (← pm) pe, rw (← ps) (rw (← q) px))

-- the rest of a stock from a place on, or nothing where the place is past its end: its bytes, and how many of them fit
pub rest_from : (n k : ℕ) (s : List ℕ) → k ≡ min n (length s) → take (length s - k) (drop k s) ≡ drop n s
rest_from n k s e = rest k s ∙ drop_least n k s e

pub rest_offered : (a n k m : ℕ) (s : List ℕ) → k ≡ min n (length s) → m ≡ min a (length (take (length s - k) (drop k s))) → m ≡ min a (length s - n)
rest_offered a n k m s e q = q ∙ ap (λ (l : List ℕ). min a (length l)) (rest_from n k s e) ∙ ap (λ (j : ℕ). min a j) (length-drop n s)

pub rest_fits : (a n k : ℕ) (s : List ℕ) → k ≡ min n (length s) → min (length (take (length s - k) (drop k s))) (a - 0) ≡ min a (length s - n)
rest_fits a n k s e =
    let h : length (take (length s - k) (drop k s)) ≡ length s - n = ap length (rest_from n k s e) ∙ length-drop n s in
    rw h (omega arith)

-- a call takes a reply unless it fails at the script's end, and never one that is not there
pub takes_accept : (left : List ℕ) (most t : ℕ) → at_most most (next left) ≡ accept t → takes left ≡ 1
unfolding next takes at_most
takes_accept [] most t q =
    let z : ◌≡◌ {A = ℕ} 0 1 = cc in
    absurd (omega arith)
takes_accept (n ∷ rest) most t q = refl

pub takes_interrupted : (left : List ℕ) (most : ℕ) → at_most most (next left) ≡ interrupted → takes left ≡ 1
unfolding next takes at_most
takes_interrupted [] most q =
    let z : ◌≡◌ {A = ℕ} 0 1 = cc in
    absurd (omega arith)
takes_interrupted (n ∷ rest) most q = refl

pub takes_most : (left : List ℕ) → takes left ≤ length left
unfolding takes
takes_most [] = omega arith
takes_most (n ∷ rest) = omega arith

pub takes_fit : (script : List ℕ) (used : ℕ) → used ≤ length script → used + takes (drop used script) ≤ length script
takes_fit script used h =
    let m : takes (drop used script) ≤ length script - used = rw (← (length-drop used script)) (takes_most (drop used script)) in
    omega arith

-- the fields of an exchange
pub reply_of_exchange : (e : Exchange) (left : List ℕ) (used most : ℕ) → e ≡ exchange left used most → at_most most (next left) ≡ e.reply
unfolding exchange
reply_of_exchange e left used most p = sym (ap (λ (x : Exchange). x.reply) p)

pub used_of_exchange : (e : Exchange) (left : List ℕ) (used most : ℕ) → e ≡ exchange left used most → e.used ≡ used + takes left
unfolding exchange
used_of_exchange e left used most p = ap (λ (x : Exchange). x.used) p

-- a reply that is no, for a reason that is known
pub because : (r : Reply) (e d : DeviceError) → r ≡ Err e → e ≡ d → r ≡ Err d
because r e d p q = rw (← q) p
