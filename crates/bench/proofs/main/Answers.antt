-- `bench::main` meets its needs: a session's text ends within the output. Assumes nothing.
use mathlib.Core.Path.{sym}
use lib.Seq.{length-take-le}
use Rattle.session.proofs.Shows.{ends_in}
use Rattle.bench.proofs.main.Goals as goal

pub slice_bounds-output-end : goal.slice_bounds-output-end
slice_bounds-output-end c = ends_in _ _ _ _ c.stackglow_session-r.ensures

pub slice_bounds-write_all-end : goal.slice_bounds-write_all-end
slice_bounds-write_all-end c = sym (length-take-le _ _ (ends_in _ _ _ _ c.stackglow_session-r.ensures))
