-- `judge::flags::Counts::stored` meets its contract. Assumes nothing. The loop's invariant: the flags below h have landed.
use mathlib.Core.Path.{◌≡◌}
use mathlib.Core.Logic.{◌↔◌}
use Prim.Native.Nat.{ℕ}
use lib.ListN.{length}
use Rattle.judge.specs.Flags.{Has, Lands}
use Rattle.judge.proofs.flags.Counts.stored.Given as goal

abbrev pub invariant-loop-h : goal.invariant-loop-h
invariant-loop-h l = record { long : length l.new ≡ 1025; landed : (k : ℕ) → Has l.new k ↔ Lands l.self.capacity l.call.length l.h l.self.flags k }
