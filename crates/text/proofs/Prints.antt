-- The laws of `printed` and `written`: what a function that prints the parts of a text one after the other goes by.
-- Assumes nothing.
use mathlib.Core.Path.{◌≡◌, refl, sym, ap, ◌∙◌}
use mathlib.Core.List.{List, [], ◌∷◌, ◌++◌}
use Prim.Native.Nat.{ℕ, suc, ◌+◌, ◌-◌, ◌≤◌, ◌<◌, min}
use native.Mathlib.Nat.{add-zero, add_assoc}
use native.Mathlib.Numerals.{add-one}
use native.Mathlib.Decide.{dec_le}
use native.Mathlib.Omega.{arith}
use lib.ListN.{length, take, drop, set, length-append}
use lib.Seq.{take-append-le, drop-append_seam, set_split, append_snoc}
use Rattle.laws.specs.Put.{put}
use Rattle.laws.proofs.Puts.{put_none, put_zero, put-put, length-put, opened}
use Rattle.text.specs.declared.Page.{Page}
use Rattle.text.specs.Printed.{Printed, printed, fitting, written}

-- the definition as a law, at any form of the count
pub prints : (output o : List ℕ) (at r n : ℕ) (text : List ℕ) → o ≡ put output at text n → r ≡ at + n → n ≡ fitting output at text → record { output = o; at = r } ≡ printed output at text
unfolding printed
prints output o at r n text e p q = rw (p, e, q)

-- the same of a page
pub writes : (page : Page) (o : List ℕ) (n : ℕ) (text : List ℕ) → o ≡ put page.bytes.now page.at text n → n ≡ fitting page.bytes.now page.at text → record { bytes = record page.bytes { now = o }; at = page.at + n } ≡ written page text
unfolding written
writes page o n text e q = ap (λ (p : Printed). record { bytes = record page.bytes { now = p.output }; at = p.at }) (prints page.bytes.now o page.at (page.at + n) n text e refl q)

-- a store is a paste of one byte
set-put : (d : List ℕ) (at value : ℕ) → at < length d → set d at value ≡ put d at (value ∷ []) 1
set-put d at value h = set_split d at value h ∙ sym (append_snoc (take at d) value (drop (suc at) d)) ∙ rw (← add-one at) (sym (opened d at (value ∷ []) 1))

-- one byte, where there is room and where there is none
pub byte_stored : (output : List ℕ) (at value : ℕ) → at < length output → record { output = set output at value; at = at + 1 } ≡ printed output at (value ∷ [])
byte_stored output at value h = prints output _ at _ 1 (value ∷ []) (set-put output at value h) refl (omega arith)

pub byte_cut : (output : List ℕ) (at value : ℕ) → length output ≤ at → record { output = output; at = at } ≡ printed output at (value ∷ [])
byte_cut output at value h = prints output output at at 0 (value ∷ []) (put_none output at (value ∷ [])) (sym (add-zero at)) (omega arith)

-- what is printed on a page's bytes from its place on is written on it
pub pages : (page : Page) (o : List ℕ) (a : ℕ) (text : List ℕ) → record { output = o; at = a } ≡ printed page.bytes.now page.at text → record { bytes = record page.bytes { now = o }; at = a } ≡ written page text
unfolding written
pages page o a text e = ap (λ (p : Printed). record { bytes = record page.bytes { now = p.output }; at = p.at }) e

-- nothing printed, and nothing written on a page
pub none_printed : (output : List ℕ) (at : ℕ) → record { output = output; at = at } ≡ printed output at []
none_printed output at = prints output output at at 0 [] (put_none output at []) (sym (add-zero at)) (omega arith)

pub nothing : (page : Page) → page ≡ written page []
nothing page = pages page page.bytes.now page.at [] (none_printed page.bytes.now page.at)

-- the count takes no place that the output lacks
fits : (output : List ℕ) (at : ℕ) (text : List ℕ) → at ≤ length output → at + fitting output at text ≤ length output
fits output at text h = omega arith

-- the output stays as long as it is
pub length_printed : (output : List ℕ) (at : ℕ) (text : List ℕ) → length (printed output at text).output ≡ length output
unfolding printed
length_printed output at text = by (dec_le at (length output))
  where
    by : Dec (at ≤ length output) → length (put output at text (fitting output at text)) ≡ length output
    by (yes h) = length-put output at text (fitting output at text) (fits output at text h) (omega arith)
    by (no h) = ap length (sym (put_zero output at text (fitting output at text) (omega arith)))

-- a paste of a text is one of any longer text that starts with it
put_front : (d : List ℕ) (at : ℕ) (s t : List ℕ) (n : ℕ) → n ≤ length s → put d at s n ≡ put d at (s ++ t) n
put_front d at s t n h =
    opened d at s n
    ∙ ap (λ (l : List ℕ). take at d ++ l ++ drop (at + n) d) (sym (take-append-le n s t h))
    ∙ sym (opened d at (s ++ t) n)

-- the first text alone found room
first_alone : (d : List ℕ) (at : ℕ) (s t : List ℕ) (m n : ℕ) → m ≤ length s → n ≡ 0 → put (put d at s m) (at + m) t n ≡ put d at (s ++ t) (m + n)
first_alone d at s t m n h z = rw (z, add-zero m) (sym (put_none (put d at s m) (at + m) t) ∙ put_front d at s t m h)

-- the whole first text found room, and the start of the second
first_whole : (d : List ℕ) (at : ℕ) (s t : List ℕ) (m n : ℕ) → m ≡ length s → n ≤ length t → at + (m + n) ≤ length d → put (put d at s m) (at + m) t n ≡ put d at (s ++ t) (m + n)
first_whole d at s t m n e hn hd =
    let long : m + n ≤ length (s ++ t) = simp length-append (omega arith) in
    let rest : drop m (s ++ t) ≡ t = rw e (drop-append_seam s t) in
    ap (λ (x : List ℕ). put x (at + m) t n) (put_front d at s t m (omega arith))
    ∙ ap (λ (x : List ℕ). put (put d at (s ++ t) m) (at + m) x n) (sym rest)
    ∙ put-put d at (s ++ t) m n hd long

-- the counts of two texts one after the other
one_count : (room s t m n : ℕ) → m ≡ min s room → n ≡ min t (room - m) → m + n ≡ min (s + t) room
one_count room s t m n p q = omega arith

-- pastes of two texts, each as far as it finds room
both : (d : List ℕ) (at : ℕ) (s t : List ℕ) (m n : ℕ) → m ≡ fitting d at s → n ≡ min (length t) (length d - at - m) → put (put d at s m) (at + m) t n ≡ put d at (s ++ t) (m + n)
both d at s t m n p q = by (dec_le 1 n)
  where
    by : Dec (1 ≤ n) → put (put d at s m) (at + m) t n ≡ put d at (s ++ t) (m + n)
    by (yes h) = first_whole d at s t m n (omega arith) (omega arith) (omega arith)
    by (no h) = first_alone d at s t m n (omega arith) (omega arith)

-- A text printed after another is the two appended
pub printed_then : (output : List ℕ) (at : ℕ) (s t : List ℕ) → printed (printed output at s).output (printed output at s).at t ≡ printed output at (s ++ t)
unfolding printed
printed_then output at s t =
    let m = fitting output at s in
    let o = put output at s m in
    let n = fitting o (at + m) t in
    let long : length o ≡ length output = length_printed output at s in
    let left : n ≡ min (length t) (length output - at - m) = omega arith in
    prints output (put o (at + m) t n) at (at + m + n) (m + n) (s ++ t)
    (both output at s t m n refl left)
    (add_assoc at m n)
    (one_count (length output - at) (length s) (length t) m n refl left ∙ rw length-append refl)

-- The same of a page. In a run of parts each is one step
pub then : (page : Page) (s t : List ℕ) → written (written page s) t ≡ written page (s ++ t)
unfolding written
then page s t = ap (λ (p : Printed). record { bytes = record page.bytes { now = p.output }; at = p.at }) (printed_then page.bytes.now page.at s t)

-- a text that has another form
pub same_text : (page p : Page) (s t : List ℕ) → p ≡ written page s → t ≡ s → p ≡ written page t
same_text page p s t e q = rw q e
