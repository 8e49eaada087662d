-- `writer::bufwriter::place` meets its contract. Assumes nothing.
use Rattle.writer.proofs.Calls.{placed_tells, placed_direct}
use Rattle.writer.proofs.bufwriter.place.Goals as goal

pub returns-then-slice-w-clause-told : goal.returns-then-slice-w-clause-told
returns-then-slice-w-clause-told g c =
    let kept = c.store.ensures in
    placed_tells c.args.w.now c.store.new.w c.args.slice.now kept.kept kept.state kept.same kept.calls _ _ _ c.stored.ensures c.requires.room c.if-slice-w.true

pub returns-clause-told : goal.returns-clause-told
returns-clause-told g c = placed_direct _ _ _ _ _ c.direct.ensures.told c.if-slice-w.false
