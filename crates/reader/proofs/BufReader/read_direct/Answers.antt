-- `reader::BufReader::read_direct` meets its contract. Assumes nothing.
use Prim.Native.Nat.{◌-◌}
use native.Mathlib.Omega.{arith}
use lib.ListN.{length}
use Rattle.reader.proofs.Buffers.{gives}
use Rattle.reader.proofs.Readings.{direct_got}
use Rattle.reader.proofs.BufReader.read_direct.Goals as goal

pub overflow_add-self-2 : goal.overflow_add-self-2
overflow_add-self-2 c =
    let g = gives _ _ _ (length c.args.destination.now) (length c.args.self.now.stock.now - c.args.self.now.state.taken) _ c.read-e.ensures.0 c.moved.ensures in
    omega (arith, g.1, c.requires.taken)

pub returns-clause-call : goal.returns-clause-call
returns-clause-call c = direct_got _ _ _ _ _ c.args.self.now.state _ _ _ c.read-e.ensures.0 c.read-e.ensures.1 c.moved.ensures c.requires.none
