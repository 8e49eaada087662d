-- What `put` leaves: lengths, parts, runs of puts.
-- Assumes nothing.
use mathlib.Core.Path.{◌≡◌, refl, sym, ap, ap₂, ◌∙◌}
use mathlib.Core.List.{List, ◌++◌, append_assoc}
use Prim.Native.Nat.{ℕ, ◌+◌, ◌-◌, ◌≤◌, ◌<◌}
use native.Mathlib.Numerals.{add-one}
use native.Mathlib.Nat.{add_assoc, zero-add}
use native.Mathlib.Omega.{arith}
use lib.ListN.{length, take, drop, get_or, set, length-drop}
use lib.Seq.{paste, paste-zero, paste-suc, length-paste, take-paste, drop-paste, take-add, drop-drop, take-take, take-append-add, length-take-le, get_or-drop}
use borrow.Rule.Slice.PartMut.{put_mid}
use Rattle.laws.specs.Put.{put}

-- nothing pasted
pub put_none : (d : List ℕ) (at : ℕ) (s : List ℕ) → d ≡ put d at s 0
unfolding put
put_none d at s = paste-zero d at s

pub put_zero : (d : List ℕ) (at : ℕ) (s : List ℕ) (n : ℕ) → n ≡ 0 → d ≡ put d at s n
put_zero d at s n e = rw e (put_none d at s)

-- a paste whose count, or whose source, is another form of the same
pub put_count : (x d : List ℕ) (at : ℕ) (s : List ℕ) (m n : ℕ) → x ≡ put d at s m → m ≡ n → x ≡ put d at s n
put_count x d at s m n e q = rw (← q) e

-- a paste by the library's own word, and a part of d that is given other bytes
pub put_paste : (x d : List ℕ) (at : ℕ) (s : List ℕ) (n : ℕ) → x ≡ paste d at s n → x ≡ put d at s n
unfolding put
put_paste x d at s n e = e

pub put_mid_is : (d : List ℕ) (at k : ℕ) (s x : List ℕ) (m n : ℕ) → x ≡ take m s → k ≡ m → m ≡ n → put_mid at k d x ≡ put d at s n
unfolding put
put_mid_is d at k s x m n e p q = rw (e, p, q) (sym (append_assoc (take at d) (take n s) (drop n (drop at d))) ∙ ap (λ (l : List ℕ). take at d ++ take n s ++ l) (drop-drop n at d))

-- the definition as a law, for proofs that keep it shut
pub opened : (d : List ℕ) (at : ℕ) (s : List ℕ) (n : ℕ) → put d at s n ≡ take at d ++ take n s ++ drop (at + n) d
unfolding put
opened d at s n = refl

-- a turn of a loop that copies by bytes
pub put_more : (d : List ℕ) (at : ℕ) (s : List ℕ) (j : ℕ) → at + j < length d → j < length s → set (put d at s j) (at + j) (get_or s j 0) ≡ put d at s (j + 1)
unfolding put
put_more d at s j hd hs = rw add-one (paste-suc d at s j 0 hd hs)

pub length-put : (d : List ℕ) (at : ℕ) (s : List ℕ) (n : ℕ) → at + n ≤ length d → n ≤ length s → length (put d at s n) ≡ length d
unfolding put
length-put d at s n hd hs = length-paste d at s n hd hs

-- up to the pasted bytes' end, and from there on
pub take_put : (d : List ℕ) (at : ℕ) (s : List ℕ) (n : ℕ) → at ≤ length d → n ≤ length s → take (at + n) (put d at s n) ≡ take at d ++ take n s
unfolding put
take_put d at s n hd hs = take-paste d at s n hd hs

pub drop-put : (d : List ℕ) (at : ℕ) (s : List ℕ) (n : ℕ) → at ≤ length d → n ≤ length s → drop (at + n) (put d at s n) ≡ drop (at + n) d
unfolding put
drop-put d at s n hd hs = drop-paste d at s n hd hs

-- a second paste of what comes next in s, that begins no later than the first ended and ends no earlier, makes one paste
pub put_over : (d : List ℕ) (at : ℕ) (s : List ℕ) (m k w : ℕ) → k ≤ m → m ≤ k + w → at + (k + w) ≤ length d → k + w ≤ length s → put (put d at s m) (at + k) (drop k s) w ≡ put d at s (k + w)
put_over d at s m k w hk hm hd hs =
    let front : take (at + k) (put d at s m) ≡ take at d ++ take k s =
    sym (take-take (at + k) (at + m) (put d at s m) (omega arith))
    ∙ ap (λ (l : List ℕ). take (at + k) l) (take_put d at s m (omega arith) (omega arith))
    ∙ ap (λ (j : ℕ). take (j + k) (take at d ++ take m s)) (sym (length-take-le at d (omega arith)))
    ∙ take-append-add (take at d) (take m s) k
    ∙ ap (λ (l : List ℕ). take at d ++ l) (take-take k m s hk) in
    let far : at + m + (k + w - m) ≡ at + k + w = omega arith in
    let back : drop (at + k + w) (put d at s m) ≡ drop (at + (k + w)) d =
    ap (λ (j : ℕ). drop j (put d at s m)) (sym far)
    ∙ sym (drop-drop (k + w - m) (at + m) (put d at s m))
    ∙ ap (λ (l : List ℕ). drop (k + w - m) l) (drop-put d at s m (omega arith) (omega arith))
    ∙ drop-drop (k + w - m) (at + m) d
    ∙ ap (λ (j : ℕ). drop j d) (far ∙ add_assoc at k w) in
    opened (put d at s m) (at + k) (drop k s) w
    ∙ ap₂ (λ (f b : List ℕ). f ++ take w (drop k s) ++ b) front back
    ∙ ap (λ (l : List ℕ). l ++ drop (at + (k + w)) d) (append_assoc (take at d) (take k s) (take w (drop k s)) ∙ ap (λ (l : List ℕ). take at d ++ l) (sym (take-add k w s)))
    ∙ sym (opened d at s (k + w))

-- the same where the first ended
pub put-put : (d : List ℕ) (at : ℕ) (s : List ℕ) (m n : ℕ) → at + (m + n) ≤ length d → m + n ≤ length s → put (put d at s m) (at + m) (drop m s) n ≡ put d at s (m + n)
put-put d at s m n hd hs = put_over d at s m m n (omega arith) (omega arith) hd hs

-- a byte past the pasted ones
pub get_d_put_past : (d : List ℕ) (at : ℕ) (s : List ℕ) (n j : ℕ) → at + n ≤ length d → n ≤ length s → at + n ≤ j → get_or (put d at s n) j 0 ≡ get_or d j 0
get_d_put_past d at s n j hd hs h =
    let e : at + n + (j - (at + n)) ≡ j = omega arith in
    ap (λ (k : ℕ). get_or (put d at s n) k 0) (sym e)
    ∙ sym (get_or-drop (at + n) (put d at s n) (j - (at + n)) 0)
    ∙ ap (λ (l : List ℕ). get_or l (j - (at + n)) 0) (drop-put d at s n (omega arith) hs)
    ∙ get_or-drop (at + n) d (j - (at + n)) 0
    ∙ ap (λ (k : ℕ). get_or d k 0) e

-- a turn of a loop that moves d's own bytes to its front, one at a time
pub shift_more : (d x : List ℕ) (from i : ℕ) → x ≡ put d 0 (drop from d) i → from + i < length d → set x i (get_or x (from + i) 0) ≡ put d 0 (drop from d) (i + 1)
shift_more d x from i e h =
    let long : i < length (drop from d) = simp length-drop (omega arith) in
    let read : get_or x (from + i) 0 ≡ get_or (drop from d) i 0 = rw e (get_d_put_past d 0 (drop from d) i (from + i) (omega arith) (omega arith) (omega arith) ∙ sym (get_or-drop from d i 0)) in
    ap (λ (v : ℕ). set x i v) read
    ∙ ap (λ (l : List ℕ). set l i (get_or (drop from d) i 0)) e
    ∙ ap (λ (k : ℕ). set (put d 0 (drop from d) i) k (get_or (drop from d) i 0)) (sym (zero-add i))
    ∙ put_more d 0 (drop from d) i (omega arith) long

-- a paste from bytes of which the first n are the same
pub put_same : (d : List ℕ) (at : ℕ) (s t : List ℕ) (n : ℕ) → take n s ≡ take n t → put d at s n ≡ put d at t n
unfolding put
put_same d at s t n e = ap (λ (l : List ℕ). take at d ++ l ++ drop (at + n) d) e

-- as from a prefix of s that is long enough
pub put-take : (d : List ℕ) (at : ℕ) (s : List ℕ) (h n : ℕ) → n ≤ h → put d at (take h s) n ≡ put d at s n
put-take d at s h n p = put_same d at (take h s) s n (take-take n h s p)
