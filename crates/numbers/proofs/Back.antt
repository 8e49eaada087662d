-- Reading and writing a number undo each other: what is written is read, and what is read was written so and not otherwise.
-- Assumes nothing.
use mathlib.Core.Path.{◌≡◌, refl, sym, ap, ap₂, ◌∙◌}
use mathlib.Core.Bool.{true, false, ◌&&◌}
use mathlib.Core.List.{List, [], ◌∷◌, ◌++◌}
use Prim.Native.Nat.{ℕ, zero, suc, ◌+◌, ◌-◌, ◌*◌, ◌/◌, ◌%◌, ◌^◌, ◌≤◌, ◌<◌}
use native.Mathlib.Nat.{add-mul, add_assoc, mul-one, mul_assoc, mul_comm, pow-suc, zero-lt-suc, mul-le-mul, one-le-pow}
use native.Mathlib.Omega.{arith}
use lib.Dec.{ltb, eqb}
use lib.ListN.{length, take, drop, get_or, length-drop, take-append-drop}
use lib.Seq.{take-append_seam, get_or-drop}
use borrow.Author.Tests.{lt-ltb, le-ltb, ltb-true, ltb-false, eqb-true, eqb-false}
use Rattle.laws.proofs.Picks.{by_test}
use Rattle.numbers.specs.declared.Fault.{Fault}
use Rattle.numbers.specs.Number.{Found, found, fault_at, ended, groups_from, number_of, number}
use Rattle.numbers.specs.Width.{Width}
use Rattle.numbers.specs.Written.{group_bytes, number_bytes}
use Rattle.numbers.proofs.Groups.{not_past, unpast, not_long, more}

-- Whatever holds in the four cases of a byte holds of the number from there on
pub by_cases : (P : Found ℕ → Type 0) (top start end left weight value at byte : ℕ) (rest : List ℕ)
    → ((eqb left 1 && ltb top byte) ≡ true → P (fault_at start))
    → ((eqb left 1 && ltb top byte) ≡ false → byte ≡ 0 → start < at → P (fault_at start))
    → ((eqb left 1 && ltb top byte) ≡ false → byte < 128 → (start < at → 0 < byte) → P (found (value + byte * weight) (at + 1)))
    → ((eqb left 1 && ltb top byte) ≡ false → 128 ≤ byte → P (groups_from top start end (left - 1) (weight * 128) (value + (byte - 128) * weight) (at + 1) rest))
    → P (groups_from top start end left weight value at (byte ∷ rest))
unfolding groups_from ended
by_cases P top start end left weight value at byte rest over long last go =
    by_test (eqb left 1 && ltb top byte) (λ p. rw p (over p)) (λ p.
    by_test (ltb byte 128)
    (λ s. by_test (eqb byte 0)
    (λ z. by_test (ltb start at)
    (λ a. rw (p, s, z, a) (long p (eqb-true byte 0 z) (ltb-true start at a)))
    (λ a. rw (p, s, z, a) (last p (ltb-true byte 128 s) (λ h. absurd (omega (arith, ltb-false start at a))))))
    (λ z. rw (p, s, z) (last p (ltb-true byte 128 s) (λ h. omega (arith, eqb-false byte 0 z)))))
    (λ s. rw (p, s) (go p (ltb-false byte 128 s))))

-- a fault has one place
pub same_place : {A : Type 0} (p q : ℕ) → fault_at {A = A} p ≡ fault_at q → p ≡ q
same_place p q e =
    let faults : ◌≡◌ {A = Fault} (record { place = p }) (record { place = q }) = cc in
    ap (λ f. f.place) faults

-- what is found is one value and one place
pub same_found : {A : Type 0} (a b : A) (m n : ℕ) → found a m ≡ found b n → (a ≡ b) × (m ≡ n)
same_found {A = A} a b m n e =
    let pair : ◌≡◌ {A = A × ℕ} (a, m) (b, n) = cc in
    (ap (λ x. x.0) pair, ap (λ x. x.1) pair)

-- a number that is read has at least one byte, and no byte past the end
pub places : (top start end left weight value at : ℕ) (l : List ℕ) (v next : ℕ) → groups_from top start end left weight value at l ≡ found v next → (at < next) × (next ≤ at + length l)
unfolding groups_from
places top start end left weight value at [] v next e = absurd (cc)
places top start end left weight value at (byte ∷ rest) v next e =
    by_cases (λ n. n ≡ found v next → (at < next) × (next ≤ at + length (byte ∷ rest))) top start end left weight value at byte rest
    (λ p e. absurd (cc))
    (λ p z a e. absurd (cc))
    (λ p s a e. let q : at + 1 ≡ next = (same_found _ _ _ _ e).1 in (omega arith, omega arith))
    (λ p h e. let r = places top start end (left - 1) (weight * 128) (value + (byte - 128) * weight) (at + 1) rest v next e in (omega arith, omega arith))
    e

-- a group and what is above it, counted `weight` times
two_groups : (value low high weight : ℕ) → value + low * weight + high * (weight * 128) ≡ value + (low + high * 128) * weight
two_groups value low high weight =
    add_assoc value (low * weight) (high * (weight * 128))
    ∙ ap (λ (x : ℕ). value + (low * weight + x)) (ap (λ (x : ℕ). high * x) (mul_comm weight 128) ∙ sym (mul_assoc high 128 weight))
    ∙ ap (λ (x : ℕ). value + x) (sym (add-mul low (high * 128) weight))

-- one group less
less_groups : (top left v : ℕ) → v < (top + 1) * 128 ^ left → 1 ≤ left → v / 128 < (top + 1) * 128 ^ (left - 1)
less_groups top left v b h =
    let e : left ≡ suc (left - 1) = omega arith in
    let q : (top + 1) * 128 ^ left ≡ (top + 1) * 128 ^ (left - 1) * 128 = ap (λ (x : ℕ). (top + 1) * 128 ^ x) e ∙ ap (λ (x : ℕ). (top + 1) * x) (pow-suc 128 (left - 1)) ∙ sym (mul_assoc (top + 1) (128 ^ (left - 1)) 128) in
    omega arith

-- one group alone
one_group : (top left v : ℕ) → v < (top + 1) * 128 ^ left → left ≡ 0 → v ≤ top
one_group top left v h z =
    let q : (top + 1) * 128 ^ left ≡ top + 1 = rw z (mul-one (top + 1)) in
    omega arith

-- the definition's steps, as equations
step_last : (top start end left weight value at byte : ℕ) (rest : List ℕ) → (left ≡ 1 → byte ≤ top) → byte < 128 → (start < at → 0 < byte) → groups_from top start end left weight value at (byte ∷ rest) ≡ found (value + byte * weight) (at + 1)
unfolding groups_from ended
step_last top start end left weight value at byte rest h l s = rw (not_past left top byte h, lt-ltb byte 128 l, not_long start at byte (λ z. by_test (ltb start at) (λ a. absurd (omega (arith, s (ltb-true start at a)))) (λ a. ltb-false start at a))) refl

step_more : (top start end left weight value at byte : ℕ) (rest : List ℕ) → (left ≡ 1 → byte ≤ top) → 128 ≤ byte → groups_from top start end left weight value at (byte ∷ rest) ≡ groups_from top start end (left - 1) (weight * 128) (value + (byte - 128) * weight) (at + 1) rest
unfolding groups_from
step_more top start end left weight value at byte rest h l = rw (not_past left top byte h, le-ltb byte 128 l) refl

-- what a number's bytes are
bytes_last : (left v : ℕ) → ltb v 128 ≡ true → group_bytes (suc left) v ≡ v ∷ []
unfolding group_bytes
bytes_last left v e = rw e refl

bytes_more : (left v : ℕ) → ltb v 128 ≡ false → group_bytes (suc left) v ≡ (128 + v % 128) ∷ group_bytes left (v / 128)
unfolding group_bytes
bytes_more left v e = rw e refl

-- what is written is read
pub reads : (top start end left weight value at v : ℕ) (post : List ℕ) → 1 ≤ left → top < 128 → v < (top + 1) * 128 ^ (left - 1) → (start < at → 0 < v) → groups_from top start end left weight value at (group_bytes left v ++ post) ≡ found (value + v * weight) (at + length (group_bytes left v))
reads top start end zero weight value at v post h t b s = absurd (omega arith)
reads top start end (suc left) weight value at v post h t b s =
    let same : suc left - 1 ≡ left = omega arith in
    let b' : v < (top + 1) * 128 ^ left = rw same at b in
    by_test (ltb v 128)
    (λ l. rw (bytes_last left v l) (step_last top start end (suc left) weight value at v post (λ o. one_group top left v b' (omega arith)) (ltb-true v 128 l) s))
    (λ l.
    let big : 128 ≤ v = ltb-false v 128 l in
    let some : 1 ≤ left = by_test (eqb left 0) (λ z. absurd (omega (arith, one_group top left v b' (eqb-true left 0 z)))) (λ z. omega (arith, eqb-false left 0 z)) in
    let low : 128 + v % 128 - 128 ≡ v % 128 = omega arith in
    let whole : v % 128 + v / 128 * 128 ≡ v = omega arith in
    let sum : value + v % 128 * weight + v / 128 * (weight * 128) ≡ value + v * weight = two_groups value (v % 128) (v / 128) weight ∙ ap (λ (x : ℕ). value + x * weight) whole in
    let place : at + 1 + length (group_bytes left (v / 128)) ≡ at + suc (length (group_bytes left (v / 128))) = omega arith in
    rw (bytes_more left v l)
    (step_more top start end (suc left) weight value at (128 + v % 128) (group_bytes left (v / 128) ++ post) (λ o. absurd (omega arith)) (omega arith)
    ∙ ap₂ (λ (x y : ℕ). groups_from top start end x (weight * 128) (value + y * weight) (at + 1) (group_bytes left (v / 128) ++ post)) same low
    ∙ reads top start end left (weight * 128) (value + v % 128 * weight) (at + 1) (v / 128) post some t (less_groups top left v b' some) (λ o. omega arith)
    ∙ ap₂ (λ (x y : ℕ). found x y) sum place))

-- the same of any count of groups
some_last : (left v : ℕ) → 1 ≤ left → v < 128 → group_bytes left v ≡ v ∷ []
some_last zero v h l = absurd (omega arith)
some_last (suc left) v h l = bytes_last left v (lt-ltb v 128 l)

some_more : (left v : ℕ) → 1 ≤ left → 128 ≤ v → group_bytes left v ≡ (128 + v % 128) ∷ group_bytes (left - 1) (v / 128)
some_more zero v h l = absurd (omega arith)
some_more (suc left) v h l =
    let same : suc left - 1 ≡ left = omega arith in
    rw same (bytes_more left v (le-ltb v 128 l))

-- one group more
more_groups : (top left low high : ℕ) → high < (top + 1) * 128 ^ (left - 1 - 1) → 2 ≤ left → low < 128 → low + high * 128 < (top + 1) * 128 ^ (left - 1)
more_groups top left low high b h l =
    let e : left - 1 ≡ suc (left - 1 - 1) = omega arith in
    let q : (top + 1) * 128 ^ (left - 1) ≡ (top + 1) * 128 ^ (left - 1 - 1) * 128 = ap (λ (x : ℕ). (top + 1) * 128 ^ x) e ∙ ap (λ (x : ℕ). (top + 1) * x) (pow-suc 128 (left - 1 - 1)) ∙ sym (mul_assoc (top + 1) (128 ^ (left - 1 - 1)) 128) in
    omega arith

-- a group that may be the last
last_group : (top left byte : ℕ) → (left ≡ 1 → byte ≤ top) → 1 ≤ left → byte < 128 → byte < (top + 1) * 128 ^ (left - 1)
last_group top left byte h o l =
    by_test (eqb left 1)
    (λ e.
    let q : left - 1 ≡ 0 = omega (arith, eqb-true left 1 e) in
    let w : (top + 1) * 128 ^ (left - 1) ≡ top + 1 = rw q (mul-one (top + 1)) in
    omega (arith, h (eqb-true left 1 e)))
    (λ e.
    let two : 2 ≤ left = omega (arith, eqb-false left 1 e) in
    let k : 1 * 1 ≤ (top + 1) * 128 ^ (left - 1 - 1) = mul-le-mul {n₁ = 1} {m₁ = 1} {n₂ = top + 1} (omega arith) (one-le-pow (left - 1 - 1) 128 (zero-lt-suc 127)) in
    omega (arith, more_groups top left byte 0 k two l))

-- What stands where a value is read: the bytes of one number, which with the groups before it makes the value
pub record Meant (top start left weight value at : ℕ) (l : List ℕ) (v next : ℕ) : Type 0 where
  pub meant : ℕ
  pub makes : v ≡ value + meant * weight
  pub below : meant < (top + 1) * 128 ^ (left - 1)
  pub shortest : start < at → 0 < meant
  pub tail : List ℕ
  pub bytes : l ≡ group_bytes left meant ++ tail
  pub ends : next ≡ at + length (group_bytes left meant)

-- the elements of a list of bytes
abbrev pub Bytes : List ℕ → Type 0
Bytes l = (i : ℕ) → get_or l i 0 < 256

later : (top start left weight value at byte : ℕ) (rest : List ℕ) (v next : ℕ) → 128 ≤ byte → byte < 256 → 2 ≤ left → start ≤ at → Meant top start (left - 1) (weight * 128) (value + (byte - 128) * weight) (at + 1) rest v next → Meant top start left weight value at (byte ∷ rest) v next
later top start left weight value at byte rest v next b small two s m =
    let low = byte - 128 in
    let high = m.meant in
    let n = low + high * 128 in
    let some : 0 < high = m.shortest (omega arith) in
    let lowest : 128 + n % 128 ≡ byte = omega arith in
    let div : n / 128 ≡ high = omega arith in
    let written : group_bytes left n ≡ byte ∷ group_bytes (left - 1) high = some_more left n (omega arith) (omega arith) ∙ ap₂ (λ (x y : ℕ). x ∷ group_bytes (left - 1) y) lowest div in
    record {
      meant = n;
      makes = m.makes ∙ two_groups value low high weight;
      below = more_groups top left low high m.below two (omega arith);
      shortest = λ a. omega arith;
      tail = m.tail;
      bytes = rw written (ap (λ (x : List ℕ). byte ∷ x) m.bytes);
      ends = rw written (omega (arith, m.ends));
    }

pub only_these : (top start end left weight value at : ℕ) (l : List ℕ) (v next : ℕ) → Bytes l → 1 ≤ left → top < 128 → start ≤ at → groups_from top start end left weight value at l ≡ found v next → Meant top start left weight value at l v next
unfolding groups_from
only_these top start end left weight value at [] v next f h t s e = absurd (cc)
only_these top start end left weight value at (byte ∷ rest) v next f h t s e =
    by_cases (λ n. n ≡ found v next → Meant top start left weight value at (byte ∷ rest) v next) top start end left weight value at byte rest
    (λ p e. absurd (cc))
    (λ p z a e. absurd (cc))
    (λ p l a e. let one = some_last left byte h l in let same = same_found _ _ _ _ e in record {
      meant = byte;
      makes = sym same.0;
      below = last_group top left byte (unpast left top byte p) h l;
      shortest = a;
      tail = rest;
      bytes = rw one refl;
      ends = rw one (sym same.1);
    })
    (λ p b e.
    let small : byte < 256 = f 0 in
    let two : 2 ≤ left = more left top byte (unpast left top byte p) b t h in
    let m = only_these top start end (left - 1) (weight * 128) (value + (byte - 128) * weight) (at + 1) rest v next (λ i. f (suc i)) (omega arith) t (omega arith) e in
    later top start left weight value at byte rest v next b small two s m)
    e

-- What is read at a place: a value below the width's end, and exactly the plain writer's bytes of it stand there
pub record Stands (groups top : ℕ) (bytes : List ℕ) (at v next : ℕ) : Type 0 where
  pub below : v < (top + 1) * 128 ^ (groups - 1)
  pub ends : next ≡ at + length (group_bytes groups v)
  pub part : take (length (group_bytes groups v)) (drop at bytes) ≡ group_bytes groups v

-- For every width: reading what the plain writer writes gives the number back, with the place after it ..
pub back_of : (groups top : ℕ) (bytes : List ℕ) (at v : ℕ) → Width groups top → v < (top + 1) * 128 ^ (groups - 1) → take (length (group_bytes groups v)) (drop at bytes) ≡ group_bytes groups v → number_of groups top bytes at ≡ found v (at + length (group_bytes groups v))
unfolding number_of
back_of groups top bytes at v w h e =
    let k = length (group_bytes groups v) in
    let split : drop at bytes ≡ group_bytes groups v ++ drop k (drop at bytes) = sym (take-append-drop k (drop at bytes)) ∙ ap (λ (x : List ℕ). x ++ drop k (drop at bytes)) e in
    ap (λ (x : List ℕ). groups_from top at (length bytes) groups 1 0 at x) split
    ∙ reads top at (length bytes) groups 1 0 at v (drop k (drop at bytes)) w.some w.seven h (λ a. absurd (omega arith))
    ∙ ap (λ (x : ℕ). found x (at + k)) (omega (arith, mul-one v))

stands : (groups top : ℕ) (bytes : List ℕ) (at v next : ℕ) → Meant top at groups 1 0 at (drop at bytes) v next → Stands groups top bytes at v next
stands groups top bytes at v next m =
    let same : v ≡ m.meant = m.makes ∙ omega (arith, mul-one m.meant) in
    record {
      below = rw same m.below;
      ends = rw same m.ends;
      part = rw same (ap (λ (x : List ℕ). take (length (group_bytes groups m.meant)) x) m.bytes ∙ take-append_seam (group_bytes groups m.meant) m.tail);
    }

-- .. and no other bytes do
pub only_of : (groups top : ℕ) (bytes : List ℕ) (at v next : ℕ) → Width groups top → Bytes bytes → number_of groups top bytes at ≡ found v next → Stands groups top bytes at v next
unfolding number_of
only_of groups top bytes at v next w f e = stands groups top bytes at v next (only_these top at (length bytes) groups 1 0 at (drop at bytes) v next (λ i. rw (get_or-drop at bytes i 0) (f (at + i))) w.some w.seven (omega arith) e)

-- the width of document 01's numbers
pub width : Width 5 15
width = record { some = omega arith; more = omega arith; seven = omega arith; fits = omega arith }

-- The same of numbers below 2^32
pub back : (bytes : List ℕ) (at v : ℕ) → v < 2 ^ 32 → take (length (number_bytes v)) (drop at bytes) ≡ number_bytes v → number bytes at ≡ found v (at + length (number_bytes v))
unfolding number number_bytes
back bytes at v h e = back_of 5 15 bytes at v width h e

pub only : (bytes : List ℕ) (at v next : ℕ) → Bytes bytes → number bytes at ≡ found v next → (v < 2 ^ 32) × ((next ≡ at + length (number_bytes v)) × (take (length (number_bytes v)) (drop at bytes) ≡ number_bytes v))
unfolding number number_bytes
only bytes at v next f e =
    let s = only_of 5 15 bytes at v next width f e in
    (s.below, (s.ends, s.part))

-- the places of a value: after its start, and not past the end
pub value_places : (bytes : List ℕ) (at v next : ℕ) → number bytes at ≡ found v next → (at < next) × (next ≤ length bytes)
unfolding number number_of
value_places bytes at v next e =
    let p = places 15 at (length bytes) 5 1 0 at (drop at bytes) v next e in
    (omega arith, omega (arith, length-drop at bytes))
