-- `reader::State::peeked` meets its contract. Assumes nothing.
use mathlib.Core.Path.{ap, ◌∙◌}
use Prim.Native.Nat.{ℕ, min}
use Rattle.reader.proofs.Buffers.{part_shown}
use Rattle.reader.proofs.State.peeked.Goals as goal

pub returns : goal.returns
returns c = part_shown c.args.storage.now c.args.self _ _ _ _ c.min-from.ensures (c.min-held.ensures ∙ ap (λ (k : ℕ). min c.args.n k) c.count.ensures) c.min.ensures
