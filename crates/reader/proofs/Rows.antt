-- The bench sheet's rows 10 to 13, by computation. Row 10 is a starred one.
-- Assumes nothing.
use mathlib.Core.Path.{◌≡◌, refl}
use mathlib.Core.List.{List, [], ◌∷◌}
use Prim.Native.Nat.{ℕ}
use lib.IntN.{pos, negsuc}
use Rattle.laws.specs.Put.{put}
use Rattle.card.specs.Answers.{ok, done, refused}
use Rattle.card.specs.Device.{reply_of, next, takes, at_most, exchange}
use Rattle.card.specs.Limits.{refusal_of, length_refusal}
use Rattle.reader.specs.World.{World, world}
use Rattle.reader.specs.Buffer as Buffer
use Rattle.reader.specs.Buffer.{new, shown, backshift, added, read_more}
use Rattle.reader.specs.Reader.{refusal, unless, shifted_back, after_more, peek_turn, peek_loop, peek_refusal, direct, copied, read_unrefused, seek_refusal, sought, read, peek, seek_relative}

-- storage and stock of the rows: a is 97
abbrev pub zeros : List ℕ
zeros = 0 ∷ 0 ∷ 0 ∷ 0 ∷ []

abbrev pub eight : List ℕ
eight = 97 ∷ 98 ∷ 99 ∷ 100 ∷ 101 ∷ 102 ∷ 103 ∷ 104 ∷ []

-- a world whose numbers are pos, filled, taken and used
abbrev pub at : List ℕ → ℕ → ℕ → ℕ → ℕ → World
at storage p f t u = world storage (record { pos = p; filled = f; taken = t; used = u })

-- 10. stock abcdefgh, `read` 2, [3, 2]: ok 2, pos 2, filled 3
pub row_10_read : read (3 ∷ 2 ∷ []) eight (0 ∷ 0 ∷ []) (world zeros new) ≡ record { destination = 97 ∷ 98 ∷ []; called = record { answer = ok 2; calls = 1; world = at (97 ∷ 98 ∷ 99 ∷ 0 ∷ []) 2 3 3 1 } }
unfolding put reply_of next takes at_most exchange refusal_of length_refusal added read_more Buffer.fill_buf refusal copied read_unrefused read
row_10_read = refl

-- then `peek` 3: cde, pos 0
pub row_10_peek : peek (3 ∷ 2 ∷ []) eight 3 (at (97 ∷ 98 ∷ 99 ∷ 0 ∷ []) 2 3 3 1) ≡ record { answer = ok 3; calls = 1; world = at (99 ∷ 100 ∷ 101 ∷ 0 ∷ []) 0 3 5 2 }
unfolding put reply_of next takes at_most exchange refusal_of backshift added read_more refusal unless shifted_back after_more peek_turn peek_loop peek_refusal peek
row_10_peek = refl

pub row_10_shown : shown 3 (at (99 ∷ 100 ∷ 101 ∷ 0 ∷ []) 0 3 5 2) ≡ 99 ∷ 100 ∷ 101 ∷ []
unfolding shown
row_10_shown = refl

-- 11. `read` 4, [9]: ok 4, buffer unused
pub row_11_direct : read (9 ∷ []) eight zeros (world zeros new) ≡ record { destination = 97 ∷ 98 ∷ 99 ∷ 100 ∷ []; called = record { answer = ok 4; calls = 1; world = at zeros 0 0 4 1 } }
unfolding put reply_of next takes at_most exchange refusal_of length_refusal refusal direct read_unrefused read
row_11_direct = refl

-- `read` 0 on an empty buffer, [3]: ok 0, calls 1, filled 3
pub row_11_none : read (3 ∷ []) eight [] (world zeros new) ≡ record { destination = []; called = record { answer = ok 0; calls = 1; world = at (97 ∷ 98 ∷ 99 ∷ 0 ∷ []) 0 3 3 1 } }
unfolding put reply_of next takes at_most exchange refusal_of length_refusal added read_more Buffer.fill_buf refusal copied read_unrefused read
row_11_none = refl

-- 12. `peek` 4, stock ab, [2, 0]: ab
pub row_12_peek : peek (2 ∷ 0 ∷ []) (97 ∷ 98 ∷ []) 4 (world zeros new) ≡ record { answer = ok 2; calls = 2; world = at (97 ∷ 98 ∷ 0 ∷ 0 ∷ []) 0 2 2 2 }
unfolding put reply_of next takes at_most exchange refusal_of backshift added read_more refusal unless shifted_back after_more peek_turn peek_loop peek_refusal peek
row_12_peek = refl

-- `peek` 5: refusal 3
pub row_12_refused : peek (2 ∷ 0 ∷ []) (97 ∷ 98 ∷ []) 5 (world zeros new) ≡ record { answer = refused 3; calls = 0; world = world zeros new }
unfolding refusal_of refusal unless peek_refusal peek
row_12_refused = refl

-- 13. pos 2, filled 3: seek -2 gives pos 0, +1 gives pos 3; -3, +2 and -2^63 give refusal 4
pub row_13 : (seek_relative [] eight (negsuc 1) (at zeros 2 3 3 0) ≡ record { answer = done; calls = 0; world = at zeros 0 3 3 0 }) × (seek_relative [] eight (pos 1) (at zeros 2 3 3 0) ≡ record { answer = done; calls = 0; world = at zeros 3 3 3 0 })
unfolding refusal_of refusal unless seek_refusal sought seek_relative
row_13 = (refl, refl)

pub row_13_refused : (seek_relative [] eight (negsuc 2) (at zeros 2 3 3 0) ≡ record { answer = refused 4; calls = 0; world = at zeros 2 3 3 0 }) × ((seek_relative [] eight (pos 2) (at zeros 2 3 3 0) ≡ record { answer = refused 4; calls = 0; world = at zeros 2 3 3 0 }) × (seek_relative [] eight (negsuc 9223372036854775807) (at zeros 2 3 3 0) ≡ record { answer = refused 4; calls = 0; world = at zeros 2 3 3 0 }))
unfolding refusal_of refusal unless seek_refusal sought seek_relative
row_13_refused = (refl, (refl, refl))
