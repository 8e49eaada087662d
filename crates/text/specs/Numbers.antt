-- Numbers in decimal, and bytes in hex.
-- Assumes nothing.
use Rattle.std.specs.Prelude.{ℕ, zero, suc, ◌+◌, ◌-◌, ◌/◌, ◌%◌, List, [], ◌∷◌, ◌++◌, ltb}
use Prim.Native.Char.{code}
use Prim.Native.String.{String}
use Rattle.laws.specs.Pick.{pick}
use Rattle.text.specs.Words.{ascii}

-- A digit, of a number below 16. Hex is lower case
abbrev pub digit : ℕ → ℕ
digit d = pick (ltb d 10) (code "0" + d) (code "a" + (d - 10))

-- The digits of a number that has at most so many: below ten it is its own digit; else the digits of its tenth part, and then
-- the digit of what is left
unfoldable pub digits : ℕ → ℕ → List ℕ
digits zero n = []
digits (suc more) n = pick (ltb n 10) (digit n ∷ []) (digits more (n / 10) ++ (digit (n % 10) ∷ []))

-- A number in decimal, without leading zeros. Numbers below 2^64 have at most 20 digits
unfoldable pub decimal_of : ℕ → List ℕ
decimal_of n = digits 20 n

-- two digits a byte
unfoldable pub hex_digits : List ℕ → List ℕ
hex_digits [] = []
hex_digits (byte ∷ rest) = digit (byte / 16) ∷ digit (byte % 16) ∷ hex_digits rest

-- Bytes in hex; no bytes is `-`
unfoldable pub hex_of : List ℕ → List ℕ
hex_of [] = ascii "-"
hex_of (byte ∷ rest) = hex_digits (byte ∷ rest)

-- words, and after them a number in decimal or bytes in hex
abbrev pub with_number : String → ℕ → List ℕ
with_number words n = ascii words ++ decimal_of n

abbrev pub with_hex : String → List ℕ → List ℕ
with_hex words shown = ascii words ++ hex_of shown
