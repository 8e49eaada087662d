-- `writer::bufwriter::unrefused` meets its contract. Assumes nothing.
use Rattle.flushing.proofs.Calls.{limits}
use Rattle.writer.proofs.Calls.{hot_tells, road_cold}
use Rattle.writer.proofs.bufwriter.unrefused.Goals as goal

pub overflow_sub-w : goal.overflow_sub-w
overflow_sub-w g c = (limits c.args.w.now.script.now _ c.requires.sound).filled_fits

pub returns-then-slice-w-clause-told : goal.returns-then-slice-w-clause-told
returns-then-slice-w-clause-told g c =
    let kept = c.store.ensures in
    hot_tells c.args.w.now c.store.new.w c.args.slice.now kept.kept kept.state kept.same kept.calls _ _ _ _ c.stored.ensures c.requires.begun c.if-slice-w.true

pub returns-clause-told : goal.returns-clause-told
returns-clause-told g c = road_cold _ _ _ _ _ _ c.cold.ensures.told c.if-slice-w.false
