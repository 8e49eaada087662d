-- `reader::State::sought` meets its contract. Assumes nothing.
use Rattle.reader.proofs.Seeks.{back_to, on_to}
use Rattle.reader.proofs.State.sought.Goals as goal

pub returns-then-offset-lt0 : goal.returns-then-offset-lt0
returns-then-offset-lt0 c = back_to _ c.ranges.offset c.args.self _ c.magnitude-size.ensures c.if-offset-lt0.true _ c.unconsumed.ensures

pub returns : goal.returns
returns c = on_to _ c.ranges.offset c.args.self _ c.magnitude-size.ensures c.if-offset-lt0.false _ c.consumed.ensures
