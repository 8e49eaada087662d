-- Text that goes into lent bytes from a place on.
-- Assumes nothing.
use Rattle.std.specs.Prelude.{ℕ, ◌+◌, ◌-◌, min, List, length}
use Rattle.laws.specs.Put.{put}
use Rattle.text.specs.declared.Page.{Page}

-- the lent bytes, and the place after the text
pub record Printed : Type 0 where
  pub output : List ℕ
  pub at : ℕ

-- how many bytes of a text find room from a place on
abbrev pub fitting : List ℕ → ℕ → List ℕ → ℕ
fitting output at text = min (length text) (length output - at)

-- A text is pasted at the place, cut where the output ends, and the place moves by as many bytes. Every other byte stays
unfoldable pub printed : List ℕ → ℕ → List ℕ → Printed
printed output at text = record { output = put output at text (fitting output at text); at = at + fitting output at text }

-- The page after a text is printed on it: it lends the same bytes still
unfoldable pub written : Page → List ℕ → Page
written page text =
    let p = printed page.bytes.now page.at text in
    record { bytes = record page.bytes { now = p.output }; at = p.at }
