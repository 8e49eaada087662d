-- A paste made step by step: the invariant of the loops that copy and that shift, and what a step by a block makes of it.
-- Assumes nothing.
use mathlib.Core.Path.{◌≡◌, refl, sym, ap, ◌∙◌}
use mathlib.Core.List.{List}
use Prim.Native.Nat.{ℕ, ◌+◌, ◌-◌, ◌≤◌, ◌<◌}
use native.Mathlib.Nat.{zero-add}
use native.Mathlib.Omega.{arith}
use lib.ListN.{length, take, drop, get_or, set, length-set, length-drop}
use Rattle.laws.specs.Put.{put}
use Rattle.laws.proofs.Puts.{put_none, put_over, put_same, put_more, take_put, length-put}
use Rattle.laws.proofs.Parts.{rest}

-- the w bytes of s from place `from` on, pasted over the front of z
pub front : (z s x : List ℕ) (from w : ℕ) → x ≡ put z 0 (take (length s - from) (drop from s)) w → from + w ≤ length s → take w x ≡ take w (drop from s)
front z s x from w e h =
    let long : w ≤ length (drop from s) = simp length-drop (omega arith) in
    ap (λ (l : List ℕ). take w l) (e ∙ ap (λ (l : List ℕ). put z 0 l w) (rest from s))
    ∙ ap (λ (k : ℕ). take k (put z 0 (drop from s) w)) (sym (zero-add w))
    ∙ take_put z 0 (drop from s) w (omega arith) long

-- of n bytes of s the first i are pasted over those of d from place `at` on, which makes x
pub record Pasted (d : List ℕ) (at : ℕ) (s : List ℕ) (n i : ℕ) (x : List ℕ) : Type 0 where
  pub within : i ≤ n
  pub here : x ≡ put d at s i
  pub long : length x ≡ length d

pub begins : (d : List ℕ) (at : ℕ) (s : List ℕ) (n : ℕ) → Pasted d at s n 0 d
begins d at s n = record { within = omega arith; here = put_none d at s; long = refl }

pub ends : (d : List ℕ) (at : ℕ) (s : List ℕ) (n i : ℕ) (x : List ℕ) → Pasted d at s n i x → i ≡ n → x ≡ put d at s n
ends d at s n i x p e = rw (← e) p.here

-- a byte more
pub byte : (d : List ℕ) (at : ℕ) (s : List ℕ) (n i : ℕ) (x : List ℕ) → Pasted d at s n i x → i < n → at + n ≤ length d → n ≤ length s → Pasted d at s n (i + 1) (set x (at + i) (get_or s i 0))
byte d at s n i x p h hd hs =
    record {
      within = omega arith;
      here = rw p.here (put_more d at s i (omega arith) (omega arith));
      long = simp length-set p.long;
    }

-- a block b of w bytes, from place k of s on, that leaves no gap behind the i bytes and ends no earlier
pub block : (d : List ℕ) (at : ℕ) (s : List ℕ) (n i k w : ℕ) (b x y : List ℕ) → Pasted d at s n i x → take w b ≡ take w (drop k s) → y ≡ put x (at + k) b w → k ≤ i → i ≤ k + w → k + w ≤ n → at + n ≤ length d → n ≤ length s → Pasted d at s n (k + w) y
block d at s n i k w b x y p eb ey hk hi hn hd hs =
    let pasted : y ≡ put d at s (k + w) =
    ey
    ∙ ap (λ (f : List ℕ). put f (at + k) b w) p.here
    ∙ put_same (put d at s i) (at + k) b (drop k s) w eb
    ∙ put_over d at s i k w hk hi (omega arith) (omega arith) in
    record {
      within = hn;
      here = pasted;
      long = ap length pasted ∙ length-put d at s (k + w) (omega arith) (omega arith);
    }
