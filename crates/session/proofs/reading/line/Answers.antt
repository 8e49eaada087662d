-- `session::reading::line` meets its contract. Assumes nothing.
use Rattle.session.proofs.ReadSteps.{line_is}
use Rattle.session.proofs.reading.line.Goals as goal

pub returns : goal.returns
returns c = line_is _ _ _ _ c.args.r.now _ _ c.shown.result c.shown.ensures c.part-bytes.ensures c.reader_line.ensures
