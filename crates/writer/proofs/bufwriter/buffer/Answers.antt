-- `writer::bufwriter::buffer` meets its contract. Assumes nothing.
use mathlib.Core.Path.{sym}
use native.Mathlib.Omega.{arith}
use lib.Seq.{length-take-le}
use Rattle.laws.proofs.Parts.{take_least}
use Rattle.writer.proofs.bufwriter.buffer.Goals as goal

pub slice_bounds-result-end : goal.slice_bounds-result-end
slice_bounds-result-end c = sym (length-take-le _ _ (omega arith))

pub returns : goal.returns
returns c = take_least _ _ _ c.min.ensures
