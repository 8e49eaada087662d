-- The card that the bench uses: a script with a medium or a stock.
-- Assumes nothing.
use Rattle.std.specs.Prelude.{ℕ, ◌+◌, ◌-◌, min, List, [], ◌∷◌, leb, eqb, Result, Ok, Err}
use Rattle.laws.specs.Pick.{pick}
use Rattle.card.specs.declared.DeviceError.{DeviceError}
use Rattle.card.specs.declared.DeviceError.TheVariants.{Interrupted, Error}
use Rattle.card.specs.declared.Exchange.{Exchange}

-- What the device says: it accepts so many bytes, or not
abbrev pub Reply : Type 0
Reply = Result ℕ DeviceError

abbrev pub accept : ℕ → Reply
accept n = Ok n

abbrev pub interrupted : Reply
interrupted = Err Interrupted

abbrev pub error : ℕ → Reply
error code = Err (Error code)

-- A number of the script. 0 to 65,535: accept n. 65,536: interrupted. Above: error, code = number minus 65,536
unfoldable pub reply_of : ℕ → Reply
reply_of n = pick (leb n 65535) (accept n) (pick (eqb n 65536) interrupted (error (n - 65536)))

-- What the card says to one call, when these replies are left. Past the script's end: error code 0
unfoldable pub next : List ℕ → Reply
next [] = error 0
next (n ∷ rest) = reply_of n

-- The replies that one call takes. Past the script's end the script position stays
unfoldable pub takes : List ℕ → ℕ
takes [] = 0
takes (n ∷ rest) = 1

-- At most `most` bytes move: on a write the offered and the room left in the medium bound it, on a read the room
-- offered and the stock left. A flush moves none
unfoldable pub at_most : ℕ → Reply → Reply
at_most most (Ok n) = accept (min n most)
at_most most (Err e) = Err e

-- the bytes that move
abbrev pub moves : Reply → ℕ
moves (Ok n) = n
moves (Err e) = 0

-- One call of the device, when the script's position is `used`: its answer, and the position after it
unfoldable pub exchange : List ℕ → ℕ → ℕ → Exchange
exchange left used most = record { reply = at_most most (next left); used = used + takes left }
