-- `flushing::BufWriter::flush_buf` meets its contract. Assumes nothing.
use mathlib.Core.Path.{refl, sym, ap}
use native.Mathlib.Omega.{arith}
use lib.Seq.{length-take-le}
use Rattle.std.proofs.lemmas.Result.{err_from_is_err_and}
use Rattle.flushing.specs.Send.{flush_said}
use Rattle.flushing.specs.Flush.{flush_buf_call}
use Rattle.flushing.proofs.Cases.{failure_says}
use Rattle.flushing.proofs.Calls.{refused_told, unrefused_told, sound_here, limits, sent_held, sent_room, flush_is}
use Rattle.flushing.proofs.BufWriter.flush_buf.Goals as goal

pub returns-in_err-check-clause-told : goal.returns-in_err-check-clause-told
unfolding flush_buf_call
returns-in_err-check-clause-told c =
    let p = err_from_is_err_and c.from_residual.result c.from_residual.ensures.1 in
    rw (p.1, p.2) (refused_told c.args.self.now _ c.numbers.ensures _ 0 _ c.in_err-check.ensures)

pub slice_bounds-send_all-end : goal.slice_bounds-send_all-end
slice_bounds-send_all-end c = (limits _ _ (sound_here c.args.self.now _ c.numbers.ensures c.in_ok-check.ensures)).filled_fits

pub slice_bounds-send_all-end-2 : goal.slice_bounds-send_all-end-2
slice_bounds-send_all-end-2 c = sym (length-take-le _ _ (limits _ _ (sound_here c.args.self.now _ c.numbers.ensures c.in_ok-check.ensures)).filled_fits)

pub overflow_sub-self : goal.overflow_sub-self
overflow_sub-self c =
    let w = c.args.self.now in
    sent_held _ w.storage.now w.medium.now w.state (sound_here w _ c.numbers.ensures c.in_ok-check.ensures) _ c.send_all-run.ensures.0

pub overflow_add-self : goal.overflow_add-self
overflow_add-self c =
    let w = c.args.self.now in
    let h = sent_room _ w.storage.now w.medium.now w.state (sound_here w _ c.numbers.ensures c.in_ok-check.ensures) _ c.send_all-run.ensures.0 in
    omega (arith, h)

pub returns-in_err-run-clause-told : goal.returns-in_err-run-clause-told
unfolding flush_buf_call
returns-in_err-run-clause-told c =
    let p = err_from_is_err_and c.from_residual-in_err-run.result c.from_residual-in_err-run.ensures.1 in
    let w = c.args.self.now in
    let none = c.in_ok-check.ensures in
    rw (p.1, p.2) (unrefused_told w _ c.numbers.ensures none 0 _ _ refl (flush_is _ _ _ w.state (sound_here w _ c.numbers.ensures none) _ c.send_all-run.ensures.0 _ _ _ c.send_all-run.ensures.1 c.shift.ensures (failure_says _ _ c.in_err-run.was)))

pub returns-clause-told : goal.returns-clause-told
unfolding flush_buf_call
returns-clause-told c =
    let w = c.args.self.now in
    let none = c.in_ok-check.ensures in
    unrefused_told w _ c.numbers.ensures none 0 _ _ refl (flush_is _ _ _ w.state (sound_here w _ c.numbers.ensures none) _ c.send_all-run.ensures.0 _ _ _ c.send_all-run.ensures.1 c.shift.ensures (ap flush_said (sym c.in_ok-run.was)))
