-- `judge::flags::Counts::new` meets its contract. Assumes nothing.
use native.Mathlib.Omega.{arith}
use Rattle.judge.proofs.Sets.{has_new}
use Rattle.judge.proofs.flags.Counts.new.Goals as goal

pub returns-clause-flags : goal.returns-clause-flags
returns-clause-flags c = λ k. has_new 1025 k (omega arith)
