-- A session of at most 32,768 bytes: kind (0 writer, 1 line writer, 2 reader, 3 a trace follows), capacity, reply count (to
-- 4,096), replies, for a reader stock length and bytes, call count (to 1,024), calls, then nothing. It is read left to right.
-- The place of a fault is the start of the number at fault or of the first surplus byte; where bytes run out, the input's
-- length; for too long an input, tested first, 32,768.
-- Assumes nothing.
use Rattle.std.specs.Prelude.{ℕ, ◌+◌, List, Result, Ok, eqb, ltb, length, take, drop}
use Rattle.laws.specs.Pick.{pick}
use Rattle.card.specs.Limits.{capacity_most, script_most}
use Rattle.numbers.specs.declared.Fault.{Fault}
use Rattle.numbers.specs.Number.{Found, found, fault_at, number_most, after}
use Rattle.form.specs.declared.Header.{Header}
use Rattle.form.specs.declared.Checked.{Checked}
use Rattle.form.specs.declared.Checked.TheVariants.{Session, Traced}
use Rattle.form.specs.Lists.{after_all}
use Rattle.form.specs.Replies.{replies_from}
use Rattle.form.specs.Calls.{Asked, length_at, calls_from}

abbrev pub session_most : ℕ
session_most = 32768

abbrev pub calls_most : ℕ
calls_most = 1024

-- What a session says: the place of its first fault; or the place where the trace of kind 3 starts, and its bytes; or its
-- header (its numbers, and where its parts stand), its replies, the stock's bytes and its calls
pub data Parsed : Type 0 where
  fault : ℕ → Parsed
  traced : ℕ → List ℕ → Parsed
  session : Header → List ℕ → List ℕ → List Asked → Parsed

-- For a reader stock length and bytes. A writer's stock is no bytes, at the place after the replies
unfoldable pub stock_of : List ℕ → ℕ → ℕ → Found ℕ
stock_of bytes kind at = pick (eqb kind 2) (length_at bytes at) (found 0 at)

-- Calls, then nothing. Surplus: at the first surplus byte
unfoldable pub calls_of : List ℕ → Header → List ℕ → Parsed
calls_of bytes header replies =
    after_all (calls_from bytes header.kind header.count header.first) fault (λ calls at.
    pick (ltb at (length bytes)) (fault at)
    (session header replies (take header.length (drop header.stock bytes)) calls))

module _ (bytes : List ℕ) (kind capacity : ℕ) where
  -- what comes after the replies, of which there are `count` from place `script` on
  module _ (count script : ℕ) (replies : List ℕ) where
    -- call count (to 1,024)
    unfoldable pub count_at : ℕ → ℕ → ℕ → Parsed
    count_at stock n at =
        after (number_most bytes at calls_most) fault (λ calls first.
        calls_of bytes (record { kind = kind; capacity = capacity; replies = count; script = script; stock = stock; length = n; count = calls; first = first }) replies)

    -- the stock
    unfoldable pub stock_at : ℕ → Parsed
    stock_at at = after (stock_of bytes kind at) fault (λ n stock. count_at stock n (stock + n))

  -- replies
  unfoldable pub script_at : ℕ → ℕ → Parsed
  script_at count script = after_all (replies_from bytes count script) fault (λ replies at. stock_at count script replies at)

  -- reply count (to 4,096)
  unfoldable pub replies_at : ℕ → Parsed
  replies_at at = after (number_most bytes at script_most) fault (λ count script. script_at count script)

-- capacity (to 1,024)
unfoldable pub capacity_at : List ℕ → ℕ → ℕ → Parsed
capacity_at bytes kind at = after (number_most bytes at capacity_most) fault (λ capacity next. replies_at bytes kind capacity next)

-- The whole session: its length, its kind, and what the kind asks for
unfoldable pub session_of : List ℕ → Parsed
session_of bytes =
    pick (ltb session_most (length bytes)) (fault session_most)
    (after (number_most bytes 0 3) fault (λ kind next.
    pick (eqb kind 3) (traced next (drop next bytes)) (capacity_at bytes kind next)))

-- What a check of the session answers: refused 6 at the place of its first fault; or where the trace starts; or the header
abbrev pub checked : Parsed → Result Checked Fault
checked (fault place) = fault_at place
checked (traced start trace) = Ok (Traced start)
checked (session header replies stock calls) = Ok (Session header)
