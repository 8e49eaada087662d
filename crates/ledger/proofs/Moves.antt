-- What the parts of a call do to the ledger: each adds exactly the bytes that it takes of a slice.
-- Assumes nothing.
use mathlib.Core.Path.{◌≡◌, refl, sym, ap, ap₂, ◌∙◌}
use mathlib.Core.List.{List, [], ◌++◌, append_assoc, append-nil}
use Prim.Native.Nat.{ℕ, ◌+◌, ◌-◌, ◌≤◌}
use native.Mathlib.Nat.{zero-add}
use native.Mathlib.Omega.{arith}
use lib.ListN.{length, take, drop, length-drop}
use lib.Seq.{take-add, drop-drop}
use Rattle.laws.specs.Put.{put}
use Rattle.laws.proofs.Puts.{take_put, drop-put, length-put}
use Rattle.flushing.specs.World.{World, Fit, taken, drained, kept}
use Rattle.ledger.specs.Ledger.{ledger}

-- a world whose numbers are within their lists
pub record In (script : List ℕ) (w : World) : Type 0 where
  pub held : w.held ≤ length w.storage
  pub out : w.out ≤ length w.medium
  pub used : w.used ≤ length script

pub fit_in : (script : List ℕ) (w : World) → Fit script w → In script w
fit_in script w fit = record { held = fit.held; out = fit.out; used = fit.used }

-- from world w to world v the bytes p came onto the ledger; nothing past the medium's place was touched; v is in range
pub record Moved (script : List ℕ) (w v : World) (p : List ℕ) : Type 0 where
  pub bytes : ledger v ≡ ledger w ++ p
  pub past : drop v.out v.medium ≡ drop v.out w.medium
  pub more : w.out ≤ v.out
  pub storage_long : length v.storage ≡ length w.storage
  pub medium_long : length v.medium ≡ length w.medium
  pub held : v.held ≤ length w.storage
  pub out : v.out ≤ length w.medium
  pub used : v.used ≤ length script

pub moved_in : (script : List ℕ) (w v : World) (p : List ℕ) → Moved script w v p → In script v
moved_in script w v p m = record { held = omega (arith, m.held, m.storage_long); out = omega (arith, m.out, m.medium_long); used = m.used }

-- one move after another
pub moved_then : (script : List ℕ) (w v u : World) (p q : List ℕ) → Moved script w v p → Moved script v u q → Moved script w u (p ++ q)
moved_then script w v u p q a b =
    let up : v.out + (u.out - v.out) ≡ u.out = omega (arith, b.more) in
    let further : drop u.out v.medium ≡ drop u.out w.medium =
    ap (λ (k : ℕ). drop k v.medium) (sym up)
    ∙ sym (drop-drop (u.out - v.out) v.out v.medium)
    ∙ ap (λ (l : List ℕ). drop (u.out - v.out) l) a.past
    ∙ drop-drop (u.out - v.out) v.out w.medium
    ∙ ap (λ (k : ℕ). drop k w.medium) up in
    record {
      bytes = b.bytes ∙ ap (λ (l : List ℕ). l ++ q) a.bytes ∙ append_assoc (ledger w) p q;
      past = b.past ∙ further;
      more = omega (arith, a.more, b.more);
      storage_long = b.storage_long ∙ a.storage_long;
      medium_long = b.medium_long ∙ a.medium_long;
      held = omega (arith, b.held, a.storage_long);
      out = omega (arith, b.out, a.medium_long);
      used = b.used;
    }

-- nothing moves
pub unmoved : (script : List ℕ) (w v : World) → In script w → v.storage ≡ w.storage → v.medium ≡ w.medium → v.held ≡ w.held → v.out ≡ w.out → v.used ≤ length script → Moved script w v []
unmoved script w v fit ps pm ph po pu =
    record {
      bytes = cc (append-nil (ledger w));
      past = ap (λ (l : List ℕ). drop v.out l) pm;
      more = omega arith;
      storage_long = ap length ps;
      medium_long = ap length pm;
      held = omega (arith, fit.held);
      out = omega (arith, fit.out);
      used = pu;
    }

-- the buffer's own first n bytes taken by the medium and drained
pub drained_moved : (script : List ℕ) (w : World) (n used writes : ℕ) → In script w → n ≤ w.held → w.out + n ≤ length w.medium → used ≤ length script → Moved script w (drained (taken w w.storage n used writes) n) []
drained_moved script w n used writes fit h r u =
    let inside : n ≤ length w.storage = omega (arith, fit.held) in
    let left : length (drop n w.storage) ≡ length w.storage - n = length-drop n w.storage in
    let fits : w.held - n ≤ length (drop n w.storage) = omega (arith, fit.held) in
    let front = take_put w.medium w.out w.storage n fit.out inside in
    let back : take (w.held - n) (put w.storage 0 (drop n w.storage) (w.held - n)) ≡ take (w.held - n) (drop n w.storage) =
    ap (λ (k : ℕ). take k (put w.storage 0 (drop n w.storage) (w.held - n))) (sym (zero-add (w.held - n)))
    ∙ take_put w.storage 0 (drop n w.storage) (w.held - n) (omega arith) fits in
    let whole : n + (w.held - n) ≡ w.held = omega arith in
    record {
      bytes =
          ap₂ (λ (a b : List ℕ). a ++ b) front back
          ∙ append_assoc (take w.out w.medium) (take n w.storage) (take (w.held - n) (drop n w.storage))
          ∙ ap (λ (l : List ℕ). take w.out w.medium ++ l) (sym (take-add n (w.held - n) w.storage) ∙ ap (λ (k : ℕ). take k w.storage) whole)
          ∙ sym (append-nil (ledger w));
      past = drop-put w.medium w.out w.storage n fit.out inside;
      more = omega arith;
      storage_long = length-put w.storage 0 (drop n w.storage) (w.held - n) (omega (arith, fit.held)) fits;
      medium_long = length-put w.medium w.out w.storage n r inside;
      held = omega (arith, fit.held);
      out = r;
      used = u;
    }

-- a slice's first n bytes taken by the medium, when nothing is held
pub taken_moved : (script : List ℕ) (w : World) (s : List ℕ) (n used writes : ℕ) → In script w → w.held ≡ 0 → n ≤ length s → w.out + n ≤ length w.medium → used ≤ length script → Moved script w (taken w s n used writes) (take n s)
taken_moved script w s n used writes fit z h r u =
    let front = take_put w.medium w.out s n fit.out h in
    let none : take w.held w.storage ≡ [] = ap (λ (k : ℕ). take k w.storage) z in
    record {
      bytes =
          ap₂ (λ (a b : List ℕ). a ++ b) front none
          ∙ append-nil (take w.out w.medium ++ take n s)
          ∙ ap (λ (l : List ℕ). l ++ take n s) (sym (append-nil (take w.out w.medium)) ∙ ap (λ (l : List ℕ). take w.out w.medium ++ l) (sym none));
      past = drop-put w.medium w.out s n fit.out h;
      more = omega arith;
      storage_long = refl;
      medium_long = length-put w.medium w.out s n r h;
      held = fit.held;
      out = r;
      used = u;
    }

-- a slice's first n bytes kept in the buffer
pub kept_moved : (script : List ℕ) (w : World) (s : List ℕ) (n : ℕ) → In script w → n ≤ length s → w.held + n ≤ length w.storage → Moved script w (kept w s n) (take n s)
kept_moved script w s n fit h r =
    record {
      bytes =
          ap (λ (l : List ℕ). take w.out w.medium ++ l) (take_put w.storage w.held s n fit.held h)
          ∙ sym (append_assoc (take w.out w.medium) (take w.held w.storage) (take n s));
      past = refl;
      more = omega arith;
      storage_long = length-put w.storage w.held s n r h;
      medium_long = refl;
      held = r;
      out = fit.out;
      used = fit.used;
    }
