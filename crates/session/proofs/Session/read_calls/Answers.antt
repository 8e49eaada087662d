-- `session::Session::read_calls` meets its contract. Assumes nothing.
use mathlib.Core.Path.{ap}
use Rattle.reader.specs.declared.BufReader.{BufReader}
use Rattle.reader.specs.World.{world_of}
use Rattle.session.proofs.Offsets.{zeros_long}
use Rattle.session.proofs.Shows.{ready, capacity_in, read_lines}
use Rattle.session.proofs.Session.read_calls.Goals as goal

pub slice_bounds-storage-end : goal.slice_bounds-storage-end
slice_bounds-storage-end c = capacity_in _ _ _ (ready c.args.self.now.whole c.args.self.now.replies)

pub slice_bounds-storage-end-2 : goal.slice_bounds-storage-end-2
slice_bounds-storage-end-2 c = zeros_long _ 1024 (capacity_in _ _ _ (ready c.args.self.now.whole c.args.self.now.replies))

pub returns : goal.returns
returns c = read_lines _ _ _ (ready c.args.self.now.whole c.args.self.now.replies) _ _ c.new-r.result c.new.result _ (ap (λ (u : BufReader). world_of u) c.new-r.ensures) (ap (λ (u : BufReader). u.script.now) c.new-r.ensures) (ap (λ (u : BufReader). u.stock.now) c.new-r.ensures) c.part-stock.ensures c.new.ensures c.run.ensures
