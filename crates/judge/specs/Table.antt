-- What the judge walks by; its promise cites none of this. The table: from h held bytes, which held counts a call can leave with which answer. C is the capacity, n the slice's length.
-- Assumes nothing.
use Rattle.std.specs.Prelude.{ℕ, ◌+◌, ◌-◌, ◌≤◌, ◌<◌, ◌≡◌, List, [], ◌∷◌, ◌++◌, length, take}
use Rattle.card.specs.Answers.{Said, ok, done, interrupted, zero_taken, error}
use Rattle.ledger.specs.Ledger.{accepted}
use Rattle.trace.specs.Calls.{Told, wrote, flushed}

-- the answers of a device write of n bytes
pub data Direct (n : ℕ) (said : Said) : Type 0 where
  took : (m : ℕ) → m ≤ n → said ≡ ok m → Direct n said
  cut_off : said ≡ interrupted → Direct n said
  failed : (code : ℕ) → said ≡ error code → Direct n said

-- the answers of a device flush
pub data Synced (said : Said) : Type 0 where
  well : said ≡ done → Synced said
  cut_off : said ≡ interrupted → Synced said
  failed : (code : ℕ) → said ≡ error code → Synced said

-- the answers of a flush of the buffer that is stopped
pub data Stopped (said : Said) : Type 0 where
  none : said ≡ zero_taken → Stopped said
  failed : (code : ℕ) → said ≡ error code → Stopped said

pub data WriteStep (C h n : ℕ) (said : Said) (h' : ℕ) : Type 0 where
  stored : n < C → h + n ≤ C → said ≡ ok n → h' ≡ h + n → WriteStep C h n said h'
  refilled : n < C → C < h + n → said ≡ ok n → h' ≡ n → WriteStep C h n said h'
  direct : C ≤ n → Direct n said → h' ≡ 0 → WriteStep C h n said h'
  stopped : C < h + n → Stopped said → 0 < h' → h' ≤ h → WriteStep C h n said h'

pub data FlushStep (h : ℕ) (said : Said) (h' : ℕ) : Type 0 where
  emptied : Synced said → h' ≡ 0 → FlushStep h said h'
  stopped : Stopped said → 0 < h' → h' ≤ h → FlushStep h said h'

-- a traced call with its claim
abbrev pub Step : ℕ → ℕ → Told → ℕ → Type 0
Step C h (wrote s said) h' = WriteStep C h (length s) said h'
Step C h (flushed said) h' = FlushStep h said h'

-- held counts that the table leads to through the calls, from h to e
unfoldable pub Reach : ℕ → ℕ → List Told → ℕ → Type 0
Reach C h [] e = h ≡ e
Reach C h (call ∷ calls) e = (h' : ℕ) × (Step C h call h' × Reach C h' calls e)

-- the bytes that the claims answer for, in call order
abbrev pub piece : Told → List ℕ
piece (wrote s said) = accepted s said
piece (flushed said) = []

unfoldable pub pieces : List Told → List ℕ
pieces [] = []
pieces (call ∷ calls) = piece call ++ pieces calls

-- the card is l without its last e bytes
pub record Left (e : ℕ) (l card : List ℕ) : Type 0 where
  pub fits : e ≤ length l
  pub is : card ≡ take (length l - e) l

-- the table leads from h to a count at which the card is what is left of l
pub record Goes (C h : ℕ) (calls : List Told) (l card : List ℕ) : Type 0 where
  pub end : ℕ
  pub reach : Reach C h calls end
  pub left : Left end l card
