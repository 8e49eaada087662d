-- `reader::BufReader::read_copied` meets its contract. Assumes nothing.
use Rattle.reader.proofs.Refusals.{fails_with}
use Rattle.reader.proofs.Buffers.{fills}
use Rattle.reader.proofs.Readings.{held_most, copied_got, copied_none}
use Rattle.reader.proofs.BufReader.read_copied.Goals as goal

pub returns-in_err-fill-clause-call : goal.returns-in_err-fill-clause-call
returns-in_err-fill-clause-call c = rw (fails_with c.from_residual.ensures.1) (copied_none _ _ _ _ _ c.in_err-fill.ensures.filled)

pub copy_out-requires-clause-held : goal.copy_out-requires-clause-held
copy_out-requires-clause-held c = held_most _ _ _ _ _ _ _ _ (fills _ _ _ _ c.in_ok-fill.ensures.filled c.requires.fit) c.min-n.ensures

pub returns-clause-call : goal.returns-clause-call
returns-clause-call c = copied_got _ _ _ _ _ _ _ _ c.in_ok-fill.ensures.filled c.min-n.ensures c.copy_out.ensures c.consumed-self.ensures
