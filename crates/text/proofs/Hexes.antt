-- Bytes in hex: the loop that prints two digits a byte.
-- Assumes nothing.
use mathlib.Core.Path.{◌≡◌, refl, sym, ap, ◌∙◌}
use mathlib.Core.List.{List, [], ◌∷◌, ◌++◌}
use Prim.Native.Nat.{ℕ, ◌+◌, ◌/◌, ◌%◌, ◌≤◌, ◌<◌}
use native.Mathlib.Numerals.{add-one}
use native.Mathlib.Omega.{arith}
use lib.ListN.{length, drop, get_or, drop_of_length-le}
use lib.Seq.{drop-cons}
use lib.Dec.{eqb}
use mathlib.Core.Bool.{true, false}
use borrow.Author.Tests.{eqb-true}
use Rattle.text.specs.Printed.{Printed, printed}
use Rattle.text.specs.Words.{ascii}
use Rattle.text.specs.Numbers.{digit, hex_digits, hex_of}
use Rattle.text.proofs.Prints.{none_printed, printed_then}

-- At the head of a turn: what is left to print makes the whole
abbrev pub Rest : Printed → List ℕ → Printed → ℕ → Type 0
Rest first shown p i = printed p.output p.at (hex_digits (drop i shown)) ≡ printed first.output first.at (hex_digits shown)

-- a text after one that is printed
after : (p q : Printed) (s t : List ℕ) → q ≡ printed p.output p.at s → printed q.output q.at t ≡ printed p.output p.at (s ++ t)
after p q s t e = ap (λ (x : Printed). printed x.output x.at t) e ∙ printed_then p.output p.at s t

-- a byte's two digits are printed
pub again : (first : Printed) (shown : List ℕ) (p q r : Printed) (i : ℕ) → Rest first shown p i → q ≡ printed p.output p.at (digit (get_or shown i 0 / 16) ∷ []) → r ≡ printed q.output q.at (digit (get_or shown i 0 % 16) ∷ []) → i < length shown → Rest first shown r (i + 1)
unfolding hex_digits
again first shown p q r i e f g h =
    let b = get_or shown i 0 in
    let left = hex_digits (drop (i + 1) shown) in
    let next : b ∷ drop (i + 1) shown ≡ drop i shown = rw add-one (sym (drop-cons shown i 0 h)) in
    after q r (digit (b % 16) ∷ []) left g
    ∙ after p q (digit (b / 16) ∷ []) (digit (b % 16) ∷ left) f
    ∙ ap (λ (x : List ℕ). printed p.output p.at (hex_digits x)) next
    ∙ e

-- no byte is left
pub finish : (first : Printed) (shown : List ℕ) (p : Printed) (i : ℕ) → Rest first shown p i → length shown ≤ i → p ≡ printed first.output first.at (hex_digits shown)
unfolding hex_digits
finish first shown p i e h =
    none_printed p.output p.at
    ∙ ap (λ (x : List ℕ). printed p.output p.at (hex_digits x)) (sym (drop_of_length-le shown h))
    ∙ e

-- no bytes, and some
pub none : (shown : List ℕ) → eqb (length shown) 0 ≡ true → hex_of shown ≡ ascii "-"
unfolding hex_of
none [] e = refl
none (b ∷ rest) e = absurd (omega (arith, eqb-true (length (b ∷ rest)) 0 e))

pub some : (shown : List ℕ) → eqb (length shown) 0 ≡ false → hex_of shown ≡ hex_digits shown
unfolding hex_of
some [] e = absurd (cc)
some (b ∷ rest) e = refl
