-- Module 5, the judge: a trace is possible exactly when some finite list of card replies explains it.
-- Assumes nothing.
use Rattle.std.specs.Prelude.{ℕ, ◌≤◌, ◌<◌, ◌^◌, ◌≡◌, ◌↔◌, Result, Ok, Err, List, [], ◌∷◌, length, take, replicate}
use Rattle.card.specs.Answers.{Said}
use Rattle.numbers.specs.declared.Fault.{Fault}
use Rattle.flushing.specs.World.{World, Called, begun, new}
use Rattle.writer.specs.Writer.{write, flush}
use Rattle.trace.specs.Calls.{Told, wrote, flushed, written}
use Rattle.trace.specs.Trace.{Parsed, fault, trace}
use Rattle.judge.specs.declared.Verdict.{Verdict}
use Rattle.judge.specs.declared.Verdict.TheVariants.{Possible as possible, Impossible as impossible}

-- a traced call, made by the writer's own definition
abbrev pub called_by : List ℕ → World → Told → Called
called_by script w (wrote s said) = write script (begun w) s
called_by script w (flushed said) = flush script (begun w)

-- the answer that a traced call claims
abbrev pub claim : Told → Said
claim (wrote s said) = said
claim (flushed said) = said

-- From this world the calls give each claimed answer, and the medium is left with exactly the card's bytes
unfoldable pub Explains : List ℕ → World → List Told → List ℕ → Type 0
Explains script w [] card = take w.out w.medium ≡ card
Explains script w (call ∷ calls) card = ((called_by script w call).answer ≡ claim call) × Explains script (called_by script w call).world calls card

-- each below 2^32, as a script's numbers are
unfoldable pub Numbers : List ℕ → Type 0
Numbers [] = Unit {0}
Numbers (n ∷ rest) = (n < 2 ^ 32) × Numbers rest

-- Some finite list of replies explains the calls and the card: from new, on a medium with room for all that is written
pub record Possible (capacity : ℕ) (calls : List Told) (card : List ℕ) : Type 0 where
  pub script : List ℕ
  pub medium : List ℕ
  pub numbers : Numbers script
  pub room : written calls ≤ length medium
  pub explains : Explains script (new (replicate capacity 0) medium) calls card

-- What a verdict says: 1 possible, 0 impossible, or 5, refused, with refusal 7 and its place
abbrev pub ruling : Result Verdict Fault → List ℕ
ruling (Ok possible) = 1 ∷ []
ruling (Ok impossible) = 0 ∷ []
ruling (Err e) = 5 ∷ 7 ∷ e.place ∷ []

-- The right verdict. A trace with a fault is refused at its place; any other is possible exactly when it can be explained,
-- and impossible exactly when it cannot
unfoldable pub Judged : Parsed → Result Verdict Fault → Type 0
Judged (fault place) v = ruling v ≡ 5 ∷ 7 ∷ place ∷ []
Judged (trace header calls card) v =
    ((ruling v ≡ 1 ∷ []) ↔ Possible header.capacity calls card)
    × ((ruling v ≡ 0 ∷ []) ↔ (Possible header.capacity calls card → ⊥))
