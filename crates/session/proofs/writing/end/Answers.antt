-- `session::writing::end` meets its contract. Assumes nothing.
use mathlib.Core.Path.{sym}
use Rattle.text.proofs.Prints.{same_text}
use Rattle.session.proofs.WriteSteps.{ends_text}
use Rattle.session.proofs.writing.end.Goals as goal

pub returns : goal.returns
returns c = same_text _ _ _ _ c.writer_end.ensures (sym (ends_text c.args.w.now _ _ c.buffer-held.ensures c.part.ensures))
