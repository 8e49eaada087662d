-- `reader::State::check_seek` meets its contract. Assumes nothing.
use Rattle.reader.proofs.Seeks.{back_in, back_out, on_past, on_in}
use Rattle.reader.proofs.State.check_seek.Goals as goal

pub returns-then-size-self : goal.returns-then-size-self
returns-then-size-self c = back_in _ c.ranges.offset c.args.self _ c.magnitude-size.ensures c.if-offset-lt0.true c.if-size-self.true

pub returns-then-offset-lt0 : goal.returns-then-offset-lt0
returns-then-offset-lt0 c = back_out _ c.ranges.offset c.args.self _ c.magnitude-size.ensures c.if-offset-lt0.true c.if-size-self.false

pub returns-then-count-size : goal.returns-then-count-size
returns-then-count-size c = on_past _ c.ranges.offset c.args.self _ c.magnitude-size.ensures c.if-offset-lt0.false _ c.count.ensures c.if-count-size.true c.requires

pub returns : goal.returns
returns c = on_in _ c.ranges.offset c.args.self _ c.magnitude-size.ensures c.if-offset-lt0.false _ c.count.ensures c.if-count-size.false c.requires
