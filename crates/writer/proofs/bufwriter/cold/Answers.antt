-- `writer::bufwriter::cold` meets its contract. Assumes nothing.
use mathlib.Core.Path.{refl}
use Rattle.std.proofs.lemmas.Result.{err_from_is_err_and}
use Rattle.card.specs.Answers.{done, failed}
use Rattle.flushing.specs.World.{left}
use Rattle.flushing.proofs.Thens.{then_done, then_stopped}
use Rattle.writer.specs.Writer.{cold}
use Rattle.writer.proofs.Calls.{room_made, room_ready, failed_not_ok, fit_on}
use Rattle.writer.proofs.bufwriter.cold.Goals as goal

pub returns-in_err-make_room-clause-told : goal.returns-in_err-make_room-clause-told
unfolding cold
returns-in_err-make_room-clause-told g c =
    let p = err_from_is_err_and c.from_residual.result c.from_residual.ensures.1 in
    let f = c.in_err-make_room.field-0.0 in
    let w = c.args.w.now in
    rw (p.1, p.2, g.met.T.Success.says_failed f) (then_stopped _ _ _ _ _ _ _ (room_made _ _ _ w.state _ c.requires.sound (left (failed f) c.make_room.new.w) _ _ c.in_err-make_room.ensures.told) (failed_not_ok f))

pub place-requires-clause-fit : goal.place-requires-clause-fit
place-requires-clause-fit g c = fit_on _ _ _ c.make_room.ensures.lent (room_ready _ _ _ c.args.w.now.state _ c.requires.sound (left done c.make_room.new.w) _ _ c.in_ok-make_room.ensures.told refl).0

pub place-requires-clause-room : goal.place-requires-clause-room
place-requires-clause-room g c = (room_ready _ _ _ c.args.w.now.state _ c.requires.sound (left done c.make_room.new.w) _ _ c.in_ok-make_room.ensures.told refl).1

pub returns-clause-told : goal.returns-clause-told
unfolding cold
returns-clause-told g c = then_done _ _ _ _ _ (room_made _ _ _ c.args.w.now.state _ c.requires.sound (left done c.make_room.new.w) _ _ c.in_ok-make_room.ensures.told) refl (rw c.make_room.ensures.lent.script at c.place.ensures.told)
