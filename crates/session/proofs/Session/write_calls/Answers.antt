-- `session::Session::write_calls` meets its contract. Assumes nothing.
use Rattle.session.proofs.Offsets.{zeros_long}
use Rattle.session.proofs.Shows.{ready, capacity_in, write_lines}
use Rattle.session.proofs.Session.write_calls.Goals as goal

pub slice_bounds-storage-end : goal.slice_bounds-storage-end
slice_bounds-storage-end c = capacity_in _ _ _ (ready c.args.self.now.whole c.args.self.now.replies)

pub slice_bounds-storage-end-2 : goal.slice_bounds-storage-end-2
slice_bounds-storage-end-2 c = zeros_long _ 1024 (capacity_in _ _ _ (ready c.args.self.now.whole c.args.self.now.replies))

pub returns : goal.returns
returns c = write_lines _ _ _ (ready c.args.self.now.whole c.args.self.now.replies) _ _ c.new.result c.new.ensures c.run.ensures
