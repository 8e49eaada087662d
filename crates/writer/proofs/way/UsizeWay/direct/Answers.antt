-- `writer::way::UsizeWay::direct` meets its contract. Assumes nothing.
use mathlib.Core.Path.{sym, ap}
use native.Mathlib.Omega.{arith}
use Rattle.std.proofs.lemmas.Result.{err_from_is_err_and}
use Rattle.flushing.specs.Send.{write_said}
use Rattle.writer.proofs.Calls.{device_room, device_is, reply_says}
use Rattle.writer.proofs.way.UsizeWay.direct.Goals as goal

pub overflow_add-w : goal.overflow_add-w
overflow_add-w c =
    let w = c.args.w.now in
    let h = device_room _ c.args.slice.now w.medium.now _ w.state.out _ _ c.write-e.ensures.0 c.moved.ensures c.requires.out in
    omega (arith, h)

pub returns-in_err-e-clause-told : goal.returns-in_err-e-clause-told
returns-in_err-e-clause-told c =
    let p = err_from_is_err_and c.from_residual.result c.from_residual.ensures.1 in
    rw (p.1, p.2) (device_is _ _ _ _ c.args.w.now.state _ _ _ _ _ c.write-e.ensures.0 c.write-e.ensures.1 (reply_says _ _ c.in_err-e.was) c.moved.ensures)

pub returns-clause-told : goal.returns-clause-told
returns-clause-told c = device_is _ _ _ _ c.args.w.now.state _ _ _ _ _ c.write-e.ensures.0 c.write-e.ensures.1 (ap write_said (sym c.in_ok-e.was)) c.moved.ensures
