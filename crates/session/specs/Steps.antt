-- What the private functions of this crate promise each other; the public promise cites none of this.
-- Assumes nothing.
use Rattle.std.specs.Prelude.{ℕ, ◌≤◌, ◌≡◌, Bool, true, List, take, Ok}
use Rattle.card.specs.Limits.{bytes_most}
use Rattle.card.specs.Answers.{Said}
use Rattle.form.specs.Replies.{word_most}
use Rattle.form.specs.declared.Header.{Header}
use Rattle.form.specs.declared.Checked.TheVariants.{Session}
use Rattle.form.specs.Session.{Parsed, session_of, checked}
use Rattle.form.specs.Lists.{listed}
use Rattle.form.specs.Calls.{Asked, write, write_all, flush, read, peek, consume, seek_relative, fill, calls_from}
use Rattle.text.specs.declared.Page.{Page}
use Rattle.text.specs.Printed.{written}
use Rattle.session.specs.Lines.{Step, lines_of}
use Rattle.session.specs.Reading.{shown_by}
use Rattle.session.specs.Session.{JudgeText, TextOf}

-- one call: its line is printed, and this world is left
pub record Steps {W : Type 0} (s : Step W) (page after : Page) (v : W) : Type 0 where
  pub prints : after ≡ written page s.line
  pub leaves : v ≡ s.world

-- all calls from a place on
pub record Lines {W : Type 0} (t : List ℕ) (kind count first : ℕ) (step : W → Asked → Step W) (ends : W → List ℕ) (w : W) (page after : Page) : Type 0 where
  pub prints : (calls : List Asked) (end : ℕ) → calls_from t kind count first ≡ listed calls end → after ≡ written page (lines_of step ends w calls)

-- the text of what a session says
pub record Prints (p : Parsed) (page after : Page) : Type 0 where
  pub text : List ℕ
  pub right : TextOf p text
  pub is : after ≡ written page text

-- the judge's line
pub record Rules (trace : List ℕ) (page after : Page) : Type 0 where
  pub text : List ℕ
  pub right : JudgeText trace text
  pub is : after ≡ written page text

-- so many bytes are what an answer shows
pub record Shows (answer : Said) (n : ℕ) : Type 0 where
  pub shows : (bytes : List ℕ) → take n bytes ≡ shown_by answer bytes

-- a seek's size is below 2^32, and one back is not 0
pub record Bounded (back : Bool) (size : ℕ) : Type 0 where
  pub most : size ≤ word_most
  pub least : back ≡ true → 1 ≤ size

-- what the runner needs of a call: a destination within its limit, a seek within its bounds
abbrev pub Runs : Asked → Type 0
Runs (write s) = Unit
Runs (write_all s) = Unit
Runs flush = Unit
Runs (read n) = n ≤ bytes_most
Runs (peek n) = Unit
Runs (consume n) = Unit
Runs (seek_relative back size) = Bounded back size
Runs fill = Unit

-- a session without a fault: a check of it answers its header
abbrev pub Passes : List ℕ → Header → Type 0
Passes t header = checked (session_of t) ≡ Ok (Session header)
