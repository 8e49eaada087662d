-- How wide numbers may be.
-- Assumes nothing.
use Rattle.std.specs.Prelude.{ℕ, ◌+◌, ◌-◌, ◌*◌, ◌^◌, ◌≤◌, ◌<◌}

-- At most `groups` groups of seven bits, the last of these at most `top`: what is read then fits 64 bits
pub record Width (groups top : ℕ) : Type 0 where
  pub some : 1 ≤ groups
  pub more : 1 ≤ top
  pub seven : top < 128
  pub fits : (top + 1) * 128 ^ (groups - 1) ≤ 2 ^ 64
